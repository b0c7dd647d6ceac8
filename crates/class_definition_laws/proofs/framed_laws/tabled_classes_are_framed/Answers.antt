use Rattle.class_definition_laws.proofs.TabledLaws.{tabled-fits}
use Rattle.class_definition_laws.proofs.framed_laws.tabled_classes_are_framed.Goals as goal

pub returns : goal.returns
returns c = tabled-fits
