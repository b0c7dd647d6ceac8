use Rattle.class_definition_laws.proofs.ClassLaws.{same_spelling}
use Rattle.class_definition_laws.proofs.class_file_laws.one_spelling.Goals as goal

pub returns : goal.returns
returns c = same_spelling
