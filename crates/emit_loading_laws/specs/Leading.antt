-- Methods that are called and come back.
use Rattle.std.specs.Prelude.{◌≡◌, ◌≢◌, ℕ, ◌+◌, ◌<◌, ◌≤◌, List, [], ◌∷◌, length, Some}
use Rattle.jvm_definition.specs.declared.instruction.Instruction.{Instruction}
use Rattle.jvm_definition.specs.declared.instruction.Instruction.TheVariants.{Call}
use Rattle.jvm_definition.specs.declared.kind.Kind.{Kind}
use Rattle.jvm_definition.specs.declared.linked_method.LinkedMethod.{LinkedMethod}
use Rattle.jvm_definition.specs.declared.value.Value.{Value}
use Rattle.jvm_definition.specs.Program.{Program}
use Rattle.jvm_definition.specs.Values.{Heap}
use Rattle.jvm_definition.specs.Effect.{Workspace, instruction_effect, enters, workspace_with_heap}
use Rattle.jvm_definition.specs.Step.{JvmState, Frame, frame_placed}
use Rattle.jvm_definition_laws.specs.Stretch.{body_workspace}
use Rattle.emit_steps.specs.declared.step.Step.TheVariants.{Does}
use Rattle.emit_steps.specs.Offsets.{CodeOffset}
use Rattle.emit_steps.specs.Placing.{LiesAt}
use Rattle.emit_paths_laws.specs.Paths.{Path, waiting_behind}

-- One state leads to another in so many turns at most, which only move. What they execute weighs no more than this total, and none of it
-- stands in method m.
pub record Reaches (program : Program) (words m most : ℕ) (total : (Instruction → ℕ) → ℕ)
    (x y : JvmState) : Type 0 where
  pub turns : ℕ
  pub in_time : turns ≤ most
  pub path : (low : CodeOffset) → Path program words m low low turns total x y

-- A method that begins above a caller's frame leads back to that frame, with the fields as they were and with these arrays.
abbrev pub LeadsBack : Program → (words own m most : ℕ) → ((Instruction → ℕ) → ℕ) → Workspace
    → Frame → List Frame → Heap → Type 0
LeadsBack program words own m most total w caller others heap =
    Reaches program words m most total (frame_placed own 0 w (caller ∷ others))
    (record { fields = w.fields; heap = heap; frames = caller ∷ others })

-- The method of this number has these parameters.
pub record IsMethod (program : Program) (number : ℕ) (parameters : List Kind) : Type 0 where
  pub method : LinkedMethod
  pub there : program.method number ≡ Some method
  pub parameters_are : method.parameters ≡ parameters

-- A call of a method that leads back leads behind the call, with one turn more.
abbrev pub CallsLeadBack : Type 0
CallsLeadBack =
    (program : Program) (words own m : ℕ) (at : CodeOffset) (h callee most : ℕ)
    (total : (Instruction → ℕ) → ℕ) (w caller : Workspace) (given : List Value)
    (others : List Frame) (heap : Heap)
    → own ≢ m → LiesAt program own at (Does (Call h) ∷ [])
    → instruction_effect program words (Call h) w ≡ enters callee given caller
    → length others < 63
    → LeadsBack program words callee m most total (body_workspace given caller)
    (waiting_behind own at h caller) others heap
    → Reaches program words m (1 + most) (λ weight. weight (Call h) + total weight)
    (frame_placed own at w others)
    (frame_placed own (at + 3) (workspace_with_heap caller caller.operands heap) others)
