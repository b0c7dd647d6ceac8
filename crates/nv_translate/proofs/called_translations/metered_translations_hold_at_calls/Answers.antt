use Rattle.std.proofs.Common.{ℕ, true, Some, arith}
use Rattle.run_definition.specs.Answer.{next_answer}
use Rattle.run_simulation_laws.proofs.Answering.{next_fits}
use Rattle.unix_definition.specs.Unix.{reply}
use Rattle.emit_calls_laws.proofs.Programs.{entered-meters-hold, metered-programs-hold}
use Rattle.nv_translate.proofs.CalledTranslations.{at-metered-calls}
use Rattle.nv_translate.proofs.EndedRuns.{system_fits}
use Rattle.nv_translate.proofs.PairedTranslations.{behind_all}
use Rattle.nv_translate.proofs.called_translations.metered_translations_hold_at_calls.Goals as goal

pub returns-clause-answered : goal.returns-clause-answered
returns-clause-answered c source name method_bytes turns built image large few l =
    let calls = c.metered_turns_hold_at_calls.ensures in
    let stands = c.translations_stand.ensures (Some turns) source name method_bytes built image.code large l in
    let behind : ℕ = behind_all source l.code in
    let apart = c.others_do_not_load.ensures.behind true source method_bytes l.code behind l.code_is (omega arith) in
    at-metered-calls next_answer c.hosts_set_states.ensures source name method_bytes built image (c.images_are_pages.ensures source image.pages.whole).memory_is
    turns few (metered-programs-hold next_answer (λ k l q a. next_fits k l q a) calls c.metered_programs_follow.ensures) (entered-meters-hold next_answer (λ k l q a. next_fits k l q a) calls c.metered_turns_are_followed.ensures) l stands
    (λ words room. c.translations_load.ensures (Some turns) source name method_bytes built image.pages l words behind room apart)

pub returns-clause-served : goal.returns-clause-served
returns-clause-served c source name method_bytes turns built image large few l =
    let calls = c.metered_turns_hold_at_calls.ensures in
    let stands = c.translations_stand.ensures (Some turns) source name method_bytes built image.code large l in
    let behind : ℕ = behind_all source l.code in
    let apart = c.others_do_not_load.ensures.behind true source method_bytes l.code behind l.code_is (omega arith) in
    at-metered-calls reply c.hosts_set_states.ensures source name method_bytes built image (c.images_are_pages.ensures source image.pages.whole).memory_is
    turns few (metered-programs-hold reply system_fits calls c.metered_programs_follow.ensures) (entered-meters-hold reply system_fits calls c.metered_turns_are_followed.ensures) l stands
    (λ words room. c.translations_load.ensures (Some turns) source name method_bytes built image.pages l words behind room apart)
