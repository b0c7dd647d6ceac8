use Rattle.std.proofs.Common.{ℕ, false, None, arith}
use Rattle.nv_translate.proofs.PairedTranslations.{behind_all}
use Rattle.nv_translate.proofs.CountedTranslations.Paired.{plain, are-paired, counted-reads, counted-switches, counted-entries}
use Rattle.nv_translate.proofs.counted_translations.translations_count_alike.Goals as goal

pub returns : goal.returns
returns c source name method_bytes built image large l =
    let stands = c.translations_stand.ensures None source name method_bytes built image.code large l in
    let same = (c.images_are_pages.ensures source image.pages.whole).memory_is in
    let behind : ℕ = behind_all source l.code in
    let apart = c.others_do_not_load.ensures.behind false source method_bytes l.code behind l.code_is (omega arith) in
    let counts = c.translated_programs_count_alike.ensures in
    record {
      reads = λ words m answers room.
          let loads = c.translations_load.ensures None source name method_bytes built image.pages l words behind room apart in
          counted-reads source name method_bytes built image l stands words loads same m answers
          ((counts (plain source name method_bytes built image l stands words loads)
          (are-paired source name method_bytes built image l stands words loads)).reads_few m answers);
      chars = λ words m answers room.
          let loads = c.translations_load.ensures None source name method_bytes built image.pages l words behind room apart in
          (counts (plain source name method_bytes built image l stands words loads)
          (are-paired source name method_bytes built image l stands words loads)).no_chars m answers;
      switches = λ words m answers room.
          let loads = c.translations_load.ensures None source name method_bytes built image.pages l words behind room apart in
          counted-switches source name method_bytes built image l stands words loads same m answers
          ((counts (plain source name method_bytes built image l stands words loads)
          (are-paired source name method_bytes built image l stands words loads)).switches_few m answers);
      entries = λ words m answers room.
          let loads = c.translations_load.ensures None source name method_bytes built image.pages l words behind room apart in
          counted-entries source name method_bytes built image l stands words loads same m answers
          ((counts (plain source name method_bytes built image l stands words loads)
          (are-paired source name method_bytes built image l stands words loads)).entries_few m answers);
    }
