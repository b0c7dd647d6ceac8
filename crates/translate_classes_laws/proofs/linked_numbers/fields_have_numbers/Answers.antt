use Rattle.translate_classes_laws.proofs.LinkedNumbers.Numbers.{field-number}
use Rattle.translate_classes_laws.proofs.LinkedNumbers.Programs.{field-typed}
use Rattle.translate_classes_laws.proofs.linked_numbers.fields_have_numbers.Goals as goal

pub returns-clause-number : goal.returns-clause-number
returns-clause-number c classes n k d s once there here = field-number classes n k d s once there here

pub returns-clause-typed : goal.returns-clause-typed
returns-clause-typed c classes n k d f there here = field-typed classes n k d f there here
