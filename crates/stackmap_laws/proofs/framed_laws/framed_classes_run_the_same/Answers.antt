use Rattle.stackmap_laws.proofs.FramedLaws.{framed-runs, fit-of-all}
use Rattle.stackmap_laws.proofs.framed_laws.framed_classes_run_the_same.Goals as goal

pub returns : goal.returns
returns g c = λ classes framed words guest allowance s k all f r. framed-runs classes framed (fit-of-all classes all) f words guest _ allowance s k r
