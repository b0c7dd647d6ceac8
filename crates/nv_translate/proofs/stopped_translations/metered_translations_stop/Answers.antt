use Rattle.std.proofs.Common.{ℕ, true, Some, arith}
use Rattle.run_definition.specs.Answer.{next_answer}
use Rattle.run_simulation_laws.proofs.Answering.{next_fits}
use Rattle.unix_definition.specs.Unix.{reply}
use Rattle.nv_translate.proofs.EndedRuns.{system_fits}
use Rattle.nv_translate.proofs.PairedTranslations.{behind_all}
use Rattle.nv_translate.proofs.StoppedTranslations.Stopping.{ended, stopped}
use Rattle.nv_translate.proofs.stopped_translations.metered_translations_stop.Goals as goal

pub returns-clause-stops : goal.returns-clause-stops
returns-clause-stops c source name method_bytes turns built image large few l =
    let stands = c.translations_stand.ensures (Some turns) source name method_bytes built image.code large l in
    let behind : ℕ = behind_all source l.code in
    let apart = c.others_do_not_load.ensures.behind true source method_bytes l.code behind l.code_is (omega arith) in
    let same = (c.images_are_pages.ensures source image.pages.whole).memory_is in
    record {
      metered = λ words m answers room long.
          let loads = c.translations_load.ensures (Some turns) source name method_bytes built image.pages l words behind room apart in
          stopped c.metered_programs_follow.ensures source name method_bytes turns built image few l stands words loads same next_answer
          (λ k l q a. next_fits k l q a) m answers long;
    }

pub returns-clause-ends : goal.returns-clause-ends
returns-clause-ends c source name method_bytes turns built image large few l =
    let stands = c.translations_stand.ensures (Some turns) source name method_bytes built image.code large l in
    let behind : ℕ = behind_all source l.code in
    let apart = c.others_do_not_load.ensures.behind true source method_bytes l.code behind l.code_is (omega arith) in
    let same = (c.images_are_pages.ensures source image.pages.whole).memory_is in
    record {
      metered = λ system words m room long.
          let loads = c.translations_load.ensures (Some turns) source name method_bytes built image.pages l words behind room apart in
          ended c.metered_programs_follow.ensures source name method_bytes turns built image few l stands words loads same reply system_fits m system
          long;
    }
