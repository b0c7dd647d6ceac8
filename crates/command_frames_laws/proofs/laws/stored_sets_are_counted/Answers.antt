use Rattle.command_frames_laws.proofs.CountedLemmas.{frames-stores, later-counts}
use Rattle.command_frames_laws.proofs.laws.stored_sets_are_counted.Goals as goal

pub returns : goal.returns
returns c = record {
  stored = λ class files w due answer told d is good. frames-stores class files w due told answer d is good;
  counted = λ class files later due s bytes stand. later-counts class files later due s bytes stand;
}
