use Rattle.class_definition_laws.proofs.ClassLaws.{same_class}
use Rattle.class_definition_laws.proofs.class_file_laws.one_class.Goals as goal

pub returns : goal.returns
returns c = same_class
