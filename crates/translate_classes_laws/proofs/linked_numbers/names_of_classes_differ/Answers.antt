use Rattle.std.proofs.Common.{◌≡◌, false}
use Rattle.class_definition.specs.MemberNames.{is_known}
use Rattle.translate_classes_laws.specs.Translated.{class_names}
use Rattle.translate_classes_laws.proofs.LinkedNumbers.Names.{all-index, names-distinct, names-unknown}
use Rattle.translate_classes_laws.proofs.linked_numbers.names_of_classes_differ.Goals as goal

pub returns-clause-distinct : goal.returns-clause-distinct
returns-clause-distinct c main code_classes data_classes few_code few_data = names-distinct main code_classes data_classes few_code few_data

pub returns-clause-unknown : goal.returns-clause-unknown
returns-clause-unknown c main code_classes data_classes unknown =
    all-index (λ name. is_known name ≡ false) (class_names main code_classes data_classes) (names-unknown main code_classes data_classes unknown)
