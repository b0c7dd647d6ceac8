use Rattle.class_definition_laws.proofs.FramedClassLaws.{same_spelling}
use Rattle.class_definition_laws.proofs.framed_laws.one_spelling.Goals as goal

pub returns : goal.returns
returns c = same_spelling
