use Rattle.translate_classes_laws.proofs.LinkedNumbers.Places.{method-place}
use Rattle.translate_classes_laws.proofs.linked_numbers.methods_are_of_classes.Goals as goal

pub returns : goal.returns
returns c classes number m e = method-place classes number m e
