use Rattle.translate_classes_laws.proofs.LinkedNumbers.Programs.{none-before, more-before}
use Rattle.translate_classes_laws.proofs.linked_numbers.methods_are_counted.Goals as goal

pub returns-clause-first : goal.returns-clause-first
returns-clause-first c classes = none-before classes

pub returns-clause-next : goal.returns-clause-next
returns-clause-next c classes n d there = more-before classes n d there
