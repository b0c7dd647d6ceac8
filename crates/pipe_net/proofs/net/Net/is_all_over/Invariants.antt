use Rattle.std.proofs.Common.{◌≡◌, ◌<◌, ℕ, true}
use Rattle.pipe_net.specs.Moving.{over_in}
use Rattle.pipe_net.proofs.net.Net.is_all_over.Given as goal

abbrev pub invariant-loop-i : goal.invariant-loop-i
invariant-loop-i l = (j : ℕ) → j < l.i → over_in l.self.bound l.self.stages.items j ≡ true
