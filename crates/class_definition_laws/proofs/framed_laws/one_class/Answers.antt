use Rattle.class_definition_laws.proofs.FramedClassLaws.{same_framed}
use Rattle.class_definition_laws.proofs.framed_laws.one_class.Goals as goal

pub returns : goal.returns
returns c = same_framed
