use Rattle.emit_paths_laws.proofs.Standing.{call_comes, call_counts, call_visits}
use Rattle.emit_paths_laws.proofs.count_laws.calls_nest.Goals as goal

pub returns : goal.returns
returns c program words m n line w caller back result others call few = record {
  comes = call_comes program words m n line w caller back result others call few;
  counts = λ weight. call_counts program words m n line w caller back result others call few weight;
  visits = λ differ none. call_visits program words m n line w caller back result others call few differ none;
}
