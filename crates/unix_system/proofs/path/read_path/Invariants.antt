use Rattle.std.proofs.Common.{◌≡◌, length}
use Rattle.unix_system.proofs.PathLemmas.{Walks}
use Rattle.unix_system.proofs.path.read_path.Given as goal

abbrev pub invariant-loop-i : goal.invariant-loop-i
invariant-loop-i g l = record {
  walks : Walks (g.M.View.memory (g.M.View.content l.view)) l.at 256 l.i l.bytes;
  long : length l.bytes ≡ l.i;
}
