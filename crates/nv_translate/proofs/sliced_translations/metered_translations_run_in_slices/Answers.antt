use Rattle.std.proofs.Common.{ℕ, true, Some, arith}
use Rattle.run_definition.specs.Answer.{next_answer}
use Rattle.run_simulation_laws.proofs.Answering.{next_fits}
use Rattle.unix_definition.specs.Unix.{reply}
use Rattle.nv_translate.proofs.EndedRuns.{system_fits}
use Rattle.nv_translate.proofs.PairedTranslations.{behind_all}
use Rattle.nv_translate.proofs.StoppedTranslations.Slicing.{in-slices}
use Rattle.nv_translate.proofs.sliced_translations.metered_translations_run_in_slices.Goals as goal

pub returns-clause-answered : goal.returns-clause-answered
returns-clause-answered c source name method_bytes turns built image large few l =
    let stands = c.translations_stand.ensures (Some turns) source name method_bytes built image.code large l in
    let behind : ℕ = behind_all source l.code in
    let apart = c.others_do_not_load.ensures.behind true source method_bytes l.code behind l.code_is (omega arith) in
    in-slices c.meters_are_paid_or_spent.ensures c.metered_programs_follow.ensures next_answer (λ k l q a. next_fits k l q a) source name method_bytes turns built image few l stands
    (λ words room. c.translations_load.ensures (Some turns) source name method_bytes built image.pages l words behind room apart)
    (c.images_are_pages.ensures source image.pages.whole).memory_is

pub returns-clause-served : goal.returns-clause-served
returns-clause-served c source name method_bytes turns built image large few l =
    let stands = c.translations_stand.ensures (Some turns) source name method_bytes built image.code large l in
    let behind : ℕ = behind_all source l.code in
    let apart = c.others_do_not_load.ensures.behind true source method_bytes l.code behind l.code_is (omega arith) in
    in-slices c.meters_are_paid_or_spent.ensures c.metered_programs_follow.ensures reply system_fits source name method_bytes turns built image few l stands
    (λ words room. c.translations_load.ensures (Some turns) source name method_bytes built image.pages l words behind room apart)
    (c.images_are_pages.ensures source image.pages.whole).memory_is
