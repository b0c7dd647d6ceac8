use Rattle.std.proofs.Common.{ℕ, false, None, arith}
use Rattle.run_definition.specs.Answer.{next_answer}
use Rattle.run_simulation_laws.proofs.Answering.{next_fits}
use Rattle.unix_definition.specs.Unix.{reply}
use Rattle.emit_program_laws.proofs.TranslationRuns.Given.{LoadingLaws}
use Rattle.emit_calls_laws.proofs.Programs.{entered-hold, programs-hold}
use Rattle.nv_translate.proofs.CalledTranslations.{at-calls}
use Rattle.nv_translate.proofs.EndedRuns.{system_fits}
use Rattle.nv_translate.proofs.PairedTranslations.{behind_all}
use Rattle.nv_translate.proofs.called_translations.translations_hold_at_calls.Goals as goal

pub returns-clause-answered : goal.returns-clause-answered
returns-clause-answered c source name method_bytes built image large l =
    let laws : LoadingLaws = record {
      loads = c.programs_load.ensures;
      chooses = c.begun_programs_choose.ensures;
      numbered = c.spans_are_numbered.ensures;
      looks = c.weights.ensures.targets;
    } in
    let turns = c.turns_are_followed.ensures in
    let calls = c.turns_hold_at_calls.ensures in
    let stands = c.translations_stand.ensures None source name method_bytes built image.code large l in
    let behind : ℕ = behind_all source l.code in
    let apart = c.others_do_not_load.ensures.behind false source method_bytes l.code behind l.code_is (omega arith) in
    at-calls next_answer c.hosts_set_states.ensures source name method_bytes built image (c.images_are_pages.ensures source image.pages.whole).memory_is
    (programs-hold next_answer (λ k l q a. next_fits k l q a) turns calls laws) (entered-hold next_answer (λ k l q a. next_fits k l q a) turns calls) l stands
    (λ words room. c.translations_load.ensures None source name method_bytes built image.pages l words behind room apart)

pub returns-clause-served : goal.returns-clause-served
returns-clause-served c source name method_bytes built image large l =
    let laws : LoadingLaws = record {
      loads = c.programs_load.ensures;
      chooses = c.begun_programs_choose.ensures;
      numbered = c.spans_are_numbered.ensures;
      looks = c.weights.ensures.targets;
    } in
    let turns = c.turns_are_followed.ensures in
    let calls = c.turns_hold_at_calls.ensures in
    let stands = c.translations_stand.ensures None source name method_bytes built image.code large l in
    let behind : ℕ = behind_all source l.code in
    let apart = c.others_do_not_load.ensures.behind false source method_bytes l.code behind l.code_is (omega arith) in
    at-calls reply c.hosts_set_states.ensures source name method_bytes built image (c.images_are_pages.ensures source image.pages.whole).memory_is
    (programs-hold reply system_fits turns calls laws) (entered-hold reply system_fits turns calls) l stands
    (λ words room. c.translations_load.ensures None source name method_bytes built image.pages l words behind room apart)
