use Rattle.stackmap_maker.proofs.DeterminedLaws.{with-tables-same, refusals-same, made-or-refused}
use Rattle.stackmap_maker.proofs.determined_laws.frames_are_determined.Goals as goal

pub returns : goal.returns
returns c = record {
  made = λ cs first second a b. with-tables-same cs first second a b;
  refused = λ cs first second a b one two. refusals-same cs first second a b one two;
  either = λ cs framed error w small r. made-or-refused cs framed error w small r;
}
