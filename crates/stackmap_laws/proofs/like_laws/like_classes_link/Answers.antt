use Rattle.stackmap_laws.proofs.NameLaws.{same-text}
use Rattle.stackmap_laws.proofs.LinkLaws.{are-like, links, fields-same, first-same}
use Rattle.stackmap_laws.proofs.like_laws.like_classes_link.Goals as goal

pub returns : goal.returns
returns c = record {
  links = λ old new like h. links old new like h;
  fields = λ old new like. fields-same old new (are-like old new like);
  first = λ old new like. first-same old new (are-like old new like);
  texts = λ old new slot like h. same-text old new like slot h;
}
