use Rattle.stackmap_laws.proofs.FramedLaws.{framed-kept, framed-links, framed-typed, fit-of-all, all-of-fit}
use Rattle.stackmap_laws.proofs.framed_laws.framed_classes_are_accepted.Goals as goal

pub returns : goal.returns
returns c = record {
  kept = λ classes framed all f. all-of-fit framed (framed-kept classes framed (fit-of-all classes all) f);
  accepted = λ classes framed all h f. record {
    links = framed-links classes framed (fit-of-all classes all) f h;
    typed = framed-typed classes framed (fit-of-all classes all) f;
  };
}
