use Rattle.std.proofs.Common.{◌≡◌, ◌+◌, length}
use Rattle.unix_system.proofs.ReadLemmas.{Reads}
use Rattle.unix_system.proofs.guest.read_piece.Given as goal

abbrev pub invariant-loop-i : goal.invariant-loop-i
invariant-loop-i g l = record {
  reads : Reads (g.M.View.memory (g.M.View.content l.view)) (l.at + l.skip) l.size l.i l.piece;
  long : length l.piece ≡ l.i;
}
