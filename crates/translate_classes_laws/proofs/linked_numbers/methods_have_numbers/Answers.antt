use Rattle.translate_classes_laws.proofs.LinkedNumbers.Numbers.{method-number}
use Rattle.translate_classes_laws.proofs.LinkedNumbers.Programs.{method-linked}
use Rattle.translate_classes_laws.proofs.linked_numbers.methods_have_numbers.Goals as goal

pub returns-clause-number : goal.returns-clause-number
returns-clause-number c classes n k d s once there here = method-number classes n k d s once there here

pub returns-clause-linked : goal.returns-clause-linked
returns-clause-linked c classes n k d m there here = method-linked classes n k d m there here
