use Rattle.stackmap_laws.proofs.DeterminedLaws.{framed-same, all-tables-same}
use Rattle.stackmap_laws.proofs.framed_laws.framed_classes_are_determined.Goals as goal

pub returns : goal.returns
returns c = record {
  classes = λ cs ds es a b. framed-same cs ds es a b;
  tables = λ cs ds ts us a b. all-tables-same cs ds ts us a b;
}
