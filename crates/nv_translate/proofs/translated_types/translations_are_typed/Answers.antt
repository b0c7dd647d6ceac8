use Rattle.nv_translate.proofs.TranslatedTypes.Lower.{TypingLaws}
use Rattle.nv_translate.proofs.TranslatedTypes.Whole.{all-typed}
use Rattle.nv_translate.proofs.translated_types.translations_are_typed.Goals as goal

pub returns : goal.returns
returns c meter source name method_bytes built whole l =
    let laws : TypingLaws = record {
      helpers = c.helpers_are_typed.ensures;
      main = c.choosers_are_typed.ensures.main;
      class = c.choosers_are_typed.ensures.class;
      missing = c.choosers_are_typed.ensures.missing;
      words = c.loading_is_typed.ensures.words;
      pages = c.loading_is_typed.ensures.pages;
      fill = c.loading_is_typed.ensures.fill;
      run = c.loading_is_typed.ensures.run;
      spans = c.spans_are_typed.ensures;
      bodies = c.bodies_have_typings.ensures;
    } in
    all-typed laws source name method_bytes built whole l
