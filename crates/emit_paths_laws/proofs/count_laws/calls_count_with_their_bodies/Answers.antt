use Rattle.emit_paths_laws.proofs.Standing.{leaf_counts, leaf_visits}
use Rattle.emit_paths_laws.proofs.count_laws.calls_count_with_their_bodies.Goals as goal

pub returns : goal.returns
returns c program words m n line w caller back result others call few = record {
  counts = λ weight still. leaf_counts program words m n line w caller back result others call few weight still;
  visits = λ differ. leaf_visits program words m n line w caller back result others call few differ;
}
