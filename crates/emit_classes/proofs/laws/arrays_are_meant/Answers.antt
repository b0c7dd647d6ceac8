use Rattle.std.proofs.Common.{ap, codes}
use Rattle.class_definition.specs.Linking.{array_instruction}
use Rattle.emit_classes.proofs.Meant.{class-name}
use Rattle.emit_classes.proofs.laws.arrays_are_meant.Goals as goal

pub returns : goal.returns
returns c = λ classes number d pool slot x is. ap array_instruction (class-name d pool x slot (codes "[I") is)
