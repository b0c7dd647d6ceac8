use Rattle.std.proofs.Common.{◌≡◌, ℕ, ◌<◌}
use Rattle.type_verifier.specs.Refusal.{methods_before}
use Rattle.frame_maps.specs.Checked.{ClassIsTyped}
use Rattle.frame_maps.proofs.checking.check.Given as goal

abbrev pub invariant-loop-number : goal.invariant-loop-number
invariant-loop-number l =
    (l.first ≡ methods_before l.linked.classes l.number)
    × ((c : ℕ) → c < l.number → ClassIsTyped l.linked.classes l.tables c)
