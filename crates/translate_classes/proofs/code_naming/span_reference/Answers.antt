use Rattle.std.proofs.Common.{◌≡◌, true, sym, ◌∙◌, subst}
use Rattle.translate_classes.specs.Making.{nothing}
use Rattle.translate_classes.specs.Room.{can_name_method}
use Rattle.translate_classes.proofs.LawfulNames.CharacterLemmas.{span-named}
use Rattle.translate_classes.proofs.code_naming.span_reference.Goals as goal

pub method_reference-requires-clause-name : goal.method_reference-requires-clause-name
method_reference-requires-clause-name c =
    let named = c.as_str.ensures.value ∙ c.in_ok-name.ensures in
    subst (λ n. can_name_method n nothing ≡ true) (sym named) (span-named c.args.k c.requires.within)
