use Rattle.std.proofs.Common.{subst}
use Rattle.emit_paths_laws.proofs.Leaving.{TurnLeaves, turn-leaves, turn-answers, trail-leaves, path-leaves}
use Rattle.emit_paths_laws.proofs.laws.fields_are_left.Goals as goal

pub returns : goal.returns
returns c program words f = record {
  turns = λ x y is none. subst (TurnLeaves f x) is (turn-leaves f x program words none);
  answers = λ x q next a is. turn-answers f x program words q next a is;
  trails = λ n x y is none. trail-leaves program words f n x y is none;
  paths = λ m low high n total x y path none. path-leaves program words f m low high n total x y path none;
}
