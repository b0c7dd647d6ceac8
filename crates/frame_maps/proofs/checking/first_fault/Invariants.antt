use Rattle.std.proofs.Common.{ℕ, ◌<◌}
use Rattle.jvm_type_inference.specs.Actions.{program_over}
use Rattle.frame_maps.specs.Checked.{IsTypedAt}
use Rattle.frame_maps.proofs.checking.first_fault.Given as goal

abbrev pub invariant-loop-number : goal.invariant-loop-number
invariant-loop-number l =
    (m : ℕ) → m < l.number → IsTypedAt (program_over l.methods) l.first l.pool l.tables m
