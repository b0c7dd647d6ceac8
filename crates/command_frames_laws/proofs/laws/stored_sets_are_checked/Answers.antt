use Rattle.command_frames_laws.proofs.StoredLemmas.{alone-passes, later-passes, left-passes}
use Rattle.command_frames_laws.proofs.laws.stored_sets_are_checked.Goals as goal

pub returns : goal.returns
returns c = record {
  left = λ class files later deeds bytes h leave. left-passes class files later deeds bytes h leave;
  later = λ class files later deeds bytes h stored. later-passes class files later deeds bytes h stored;
  alone = λ class files later deeds bytes h own stored. alone-passes class files later deeds bytes h own stored;
}
