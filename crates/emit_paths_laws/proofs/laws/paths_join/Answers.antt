use Rattle.emit_paths_laws.proofs.Joining.{paths-join, no-turns, path-wider, path-unseen}
use Rattle.emit_paths_laws.proofs.laws.paths_join.Goals as goal

pub returns : goal.returns
returns c program words m = record {
  joined = λ low middle high n k total more x y z first next.
      paths-join program words m low middle high n k total more x y z first next;
  no_turns = λ low high x less. no-turns program words m low high x less;
  wider = λ low high lower higher n total more x y below above weighs path.
      path-wider program words m low high lower higher n total more x y below above weighs path;
  unseen = λ at low high n total x y less path. path-unseen program words m at low high n total x y less path;
}
