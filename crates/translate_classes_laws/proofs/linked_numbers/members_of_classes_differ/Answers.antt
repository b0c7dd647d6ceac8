use Rattle.std.proofs.Common.{refl}
use Rattle.translate_classes_laws.specs.Translated.{methods_of_code}
use Rattle.translate_classes_laws.proofs.LinkedNumbers.Fields.{fields-differ}
use Rattle.translate_classes_laws.proofs.LinkedNumbers.Names.{code-methods}
use Rattle.translate_classes_laws.proofs.LinkedNumbers.Signatures.{none-equal}
use Rattle.translate_classes_laws.proofs.linked_numbers.members_of_classes_differ.Goals as goal

pub returns-clause-main_fields : goal.returns-clause-main_fields
returns-clause-main_fields c = fields-differ

pub returns-clause-main_methods : goal.returns-clause-main_methods
returns-clause-main_methods c = refl

pub returns-clause-code : goal.returns-clause-code
returns-clause-code c spans few = none-equal (methods_of_code spans) (code-methods spans few)

pub returns-clause-data : goal.returns-clause-data
returns-clause-data c = refl
