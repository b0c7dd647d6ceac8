use Rattle.std.proofs.Common.{◌≡◌, ℕ, ◌^◌, ◌≤◌, length, List}
use Rattle.jvm_definition.specs.declared.linked_line.LinkedLine.{LinkedLine}
use Rattle.jvm_definition.specs.Program.{line_in}
use Rattle.jvm_type_inference.proofs.code.end_of.Given as goal

pub record Ends (lines rest : List LinkedLine) (end : ℕ) : Type 0 where
  pub behind : (at : ℕ) → end ≤ at → line_in lines at ≡ line_in rest at
  pub fits : end ≤ 2 ^ 32

abbrev pub invariant-loop-line : goal.invariant-loop-line
invariant-loop-line l = Ends l.lines l.rest l.end

abbrev pub decreases-loop-line : goal.decreases-loop-line
decreases-loop-line l = length l.rest
