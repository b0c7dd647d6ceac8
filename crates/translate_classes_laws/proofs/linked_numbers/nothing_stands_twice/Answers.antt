use Rattle.translate_classes_laws.proofs.LinkedNumbers.Once.{nothing-twice}
use Rattle.translate_classes_laws.proofs.linked_numbers.nothing_stands_twice.Goals as goal

pub returns : goal.returns
returns c classes distinct unknown members = nothing-twice classes distinct unknown members
