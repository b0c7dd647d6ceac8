use Rattle.command_frames.proofs.DeterminedLemmas.{frames-determined}
use Rattle.command_frames.proofs.laws.frames_are_determined.Goals as goal

pub returns : goal.returns
returns c = λ class w files first second told a b. frames-determined class w files first second told a b
