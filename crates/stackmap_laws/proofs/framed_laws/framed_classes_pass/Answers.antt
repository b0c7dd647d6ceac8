use Rattle.stackmap_laws.proofs.FramedLaws.{have-tables, are-typed, fit-of-all}
use Rattle.stackmap_laws.proofs.framed_laws.framed_classes_pass.Goals as goal

pub returns : goal.returns
returns c = record {
  have = λ classes framed tables all f t. have-tables classes framed (fit-of-all classes all) f tables t;
  typed = λ classes framed tables all f t. are-typed classes framed (fit-of-all classes all) f tables t;
}
