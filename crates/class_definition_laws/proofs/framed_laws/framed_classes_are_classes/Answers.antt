use Rattle.class_definition_laws.proofs.FramedClassLaws.{framed-alone}
use Rattle.class_definition_laws.proofs.framed_laws.framed_classes_are_classes.Goals as goal

pub returns : goal.returns
returns c = framed-alone
