-- Calls of methods that lead back.
use Rattle.std.proofs.Common.{◌≡◌, ◌≢◌, ℕ, ◌+◌, ◌<◌, ◌≤◌, List, [], ◌∷◌, length, arith}
use Rattle.jvm_definition.specs.declared.value.Value.{Value}
use Rattle.jvm_definition.specs.declared.instruction.Instruction.{Instruction}
use Rattle.jvm_definition.specs.declared.instruction.Instruction.TheVariants.{Call}
use Rattle.jvm_definition.specs.Program.{Program}
use Rattle.jvm_definition.specs.Values.{Heap}
use Rattle.jvm_definition.specs.Effect.{Workspace, enters, instruction_effect, workspace_with_heap}
use Rattle.jvm_definition.specs.Step.{JvmState, Frame, frame_placed}
use Rattle.jvm_definition_laws.specs.Stretch.{body_workspace}
use Rattle.emit_steps.specs.declared.step.Step.TheVariants.{Does}
use Rattle.emit_steps.specs.Placing.{placed_line, LiesAt}
use Rattle.emit_paths_laws.specs.Paths.{LooksAtNoTarget, waiting_behind}
use Rattle.emit_paths_laws.proofs.Calling.{call-enters}
use Rattle.emit_paths_laws.proofs.Joining.{paths-join, path-wider, no-turns, turn-path, turn-weighs, seen-elsewhere}
use Rattle.emit_loading_laws.specs.Leading.{Reaches, LeadsBack}

module _ (program : Program) (words m : ℕ) where
  -- one behind the other
  pub reaches-join : (most more : ℕ) (total rest : (Instruction → ℕ) → ℕ) (x y z : JvmState) → Reaches program words m most total x y → Reaches program words m more rest y z → Reaches program words m (most + more) (λ weight. total weight + rest weight) x z
  reaches-join most more total rest x y z first next =
      let a = first.in_time in
      let b = next.in_time in
      record {
        turns = first.turns + next.turns;
        in_time = omega arith;
        path = λ low. paths-join program words m low low low first.turns next.turns total rest x y z (first.path low) (next.path low);
      }

  -- with more time and more weight
  pub reaches-wider : (most more : ℕ) (total rest : (Instruction → ℕ) → ℕ) (x y : JvmState) → most ≤ more → ((weight : Instruction → ℕ) → LooksAtNoTarget weight → total weight ≤ rest weight) → Reaches program words m most total x y → Reaches program words m more rest x y
  reaches-wider most more total rest x y time weighs first =
      let a = first.in_time in
      record {
        turns = first.turns;
        in_time = omega arith;
        path = λ low. path-wider program words m low low low low first.turns total rest x y (omega arith) (omega arith) weighs (first.path low);
      }

  pub reaches-itself : (x : JvmState) → Reaches program words m 0 (λ weight. 0) x x
  reaches-itself x = record {
    turns = 0;
    in_time = omega arith;
    path = λ low. no-turns program words m low low x (omega arith);
  }

-- a call of a method that leads back leads behind the call
pub call-leads : (program : Program) (words own m at h callee most : ℕ) (total : (Instruction → ℕ) → ℕ) (w caller : Workspace) (given : List Value) (others : List Frame) (heap : Heap) → own ≢ m → LiesAt program own at (Does (Call h) ∷ []) → instruction_effect program words (Call h) w ≡ enters callee given caller → length others < 63 → LeadsBack program words callee m most total (body_workspace given caller) (waiting_behind own at h caller) others heap → Reaches program words m (1 + most) (λ weight. weight (Call h) + total weight) (frame_placed own at w others) (frame_placed own (at + 3) (workspace_with_heap caller caller.operands heap) others)
call-leads program words own m at h callee most total w caller given others heap differ lies calls few back =
    let inside = frame_placed callee 0 (body_workspace given caller) (waiting_behind own at h caller ∷ others) in
    let enters_it : Reaches program words m 1 (λ weight. weight (Call h)) (frame_placed own at w others) inside =
    record {
      turns = 1;
      in_time = omega arith;
      path = λ low. turn-path program words m low low (λ weight. weight (Call h)) (frame_placed own at w others) inside (call-enters program words own at h callee w caller given others lies calls few) (λ weight still. let a = turn-weighs program own at w others inside (placed_line at (Does (Call h)) []) lies.0 weight in omega (arith, a)) (seen-elsewhere program words m own low at w others differ);
    } in
    reaches-join program words m 1 most (λ weight. weight (Call h)) total (frame_placed own at w others) inside (frame_placed own (at + 3) (workspace_with_heap caller caller.operands heap) others) enters_it back
