use Rattle.std.proofs.Common.{◌≡◌, ℕ, false, List, subst, sym}
use Rattle.std.specs.List.{All, IsDistinct}
use Rattle.class_definition.specs.NameGrammar.{same_text}
use Rattle.class_definition.specs.MemberNames.{is_known}
use Rattle.translate_classes_laws.proofs.linked_numbers.nothing_stands_twice_in_a_translation.Goals as goal

pub returns : goal.returns
returns c main code_classes data_classes classes few_code few_data unknown named members =
    c.nothing_stands_twice.ensures classes
    (subst (IsDistinct same_text) (sym named) (c.names_of_classes_differ.ensures.distinct main code_classes data_classes few_code few_data))
    (subst (All (λ (name : List ℕ). is_known name ≡ false)) (sym named) (c.names_of_classes_differ.ensures.unknown main code_classes data_classes unknown)) members
