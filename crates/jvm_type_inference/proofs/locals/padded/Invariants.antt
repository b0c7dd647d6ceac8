use Rattle.std.proofs.Common.{◌≡◌, ℕ, suc, ◌-◌, ◌<◌, ◌≤◌, length, get_or}
use Rattle.jvm_definition.specs.declared.kind.Kind.TheVariants.{Top}
use Rattle.jvm_type_inference.proofs.locals.padded.Given as goal

abbrev pub invariant-loop-kinds : goal.invariant-loop-kinds
invariant-loop-kinds l =
    (length l.locals ≤ length l.kinds.items)
    × (((n : ℕ) → length l.locals ≤ n → l.index < n → length l.kinds.items ≤ n)
    × ((i : ℕ) → get_or l.kinds.items i Top ≡ get_or l.locals i Top))

abbrev pub decreases-loop-kinds : goal.decreases-loop-kinds
decreases-loop-kinds l = suc l.index - length l.kinds.items
