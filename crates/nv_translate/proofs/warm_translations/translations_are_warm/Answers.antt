use Rattle.std.proofs.Common.{ℕ, false, None, arith}
use Rattle.nv_translate.proofs.PairedTranslations.{behind_all}
use Rattle.nv_translate.proofs.WarmTranslations.Given.{WarmLaws}
use Rattle.nv_translate.proofs.WarmTranslations.Whole.{is-warm}
use Rattle.nv_translate.proofs.warm_translations.translations_are_warm.Goals as goal

pub returns : goal.returns
returns c source name method_bytes built image large l =
    let laws : WarmLaws = record {
      stretches = c.stretches_are_of_pieces.ensures;
      enters = c.spans_are_entered.ensures.goes;
      follows = c.pieces_follow.ensures;
      made = c.pieces_are_made.ensures;
      once = c.lines_of_pieces_read_and_write_registers_once.ensures.in_methods;
      lawful = c.units_are_lawful.ensures.all;
      pieces_call = c.spans_name_well.ensures.pieces;
      helpers_call = c.helpers_name_well.ensures;
      numbered = c.spans_are_numbered.ensures;
    } in
    let stands = c.translations_stand.ensures None source name method_bytes built image.code large l in
    let behind : ℕ = behind_all source l.code in
    let apart = c.others_do_not_load.ensures.behind false source method_bytes l.code behind l.code_is (omega arith) in
    is-warm laws c.translated_programs_come_to_marks.ensures source name method_bytes built image l stands
    (c.images_are_pages.ensures source image.pages.whole).memory_is
    (λ words room. c.translations_load.ensures None source name method_bytes built image.pages l words behind room apart)
