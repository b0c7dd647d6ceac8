-- What holds of code wherever it lies.
use Rattle.std.specs.Prelude.{◌≡◌, ℕ, suc, ◌+◌, ◌++◌, ◌<◌, List, length, Option, Some, IsTrue}
use Rattle.jvm_definition.specs.declared.value.Value.{Value}
use Rattle.jvm_definition.specs.Program.{Program}
use Rattle.jvm_definition.specs.Effect.{Workspace, enters}
use Rattle.jvm_definition.specs.Step.{Frame, frame_placed, jvm_turn}
use Rattle.jvm_definition_laws.specs.Stretch.{advanced, caller_workspace}
use Rattle.emit_steps.specs.declared.step.Step.{Step}
use Rattle.emit_steps.specs.Widths.{bytes_before, size}
use Rattle.emit_steps.specs.Offsets.{CodeOffset}
use Rattle.emit_steps.specs.Outcomes.{outcome, outcome_from, followed_by, stays_within}
use Rattle.emit_steps.specs.Placing.{LiesAt}
use Rattle.emit_steps.specs.Leading.{LeadsTo, StopsAt, Returns}

-- code that lies in a method does there what its list of steps says, from any of its steps on
abbrev pub CodeLeads : Type 0
CodeLeads =
    (program : Program) (words m : ℕ) (at : CodeOffset) (k : ℕ) (code : List Step) (w : Workspace)
    (others : List Frame)
    → LiesAt program m at code
    → LeadsTo program words m at code others (frame_placed m (at + bytes_before code k) w others)
    (outcome_from program words code k w)

-- ---- code before other code, where no branch of the first goes past its end

-- both do what the one does and then the other
abbrev pub CodesFollow : Type 0
CodesFollow =
    (program : Program) (words : ℕ) (first second : List Step) (w : Workspace)
    → IsTrue (stays_within first)
    → outcome program words (first ++ second) w
    ≡ followed_by (length first) (outcome program words second) (outcome program words first w)

-- where both lie, they lie one behind the other
abbrev pub PartsLie : Type 0
PartsLie =
    (program : Program) (m : ℕ) (at : CodeOffset) (first second : List Step)
    → IsTrue (stays_within first)
    → LiesAt program m at (first ++ second)
    → LiesAt program m at first × LiesAt program m (at + size first) second

-- ---- calls

-- a call whose method returns leads behind the call, with two instructions more than the method's
abbrev pub CallsLeadBehind : Type 0
CallsLeadBehind =
    (program : Program) (words m : ℕ) (at : CodeOffset) (i callee n : ℕ) (code : List Step)
    (w caller back : Workspace) (given : List Value) (result : Option Value) (others : List Frame)
    → StopsAt program words m at code others i w (enters callee given caller)
    → Returns program words callee given caller n result back
    → length others < 63
    → advanced (jvm_turn program words) (n + 2) (frame_placed m (at + bytes_before code i) w others)
    ≡ Some (frame_placed m (at + bytes_before code (suc i)) (caller_workspace result caller back) others)
