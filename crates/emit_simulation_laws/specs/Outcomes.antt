-- What the code of a method comes to, when it is called with arguments over the fields and arrays of its caller.
use Rattle.std.specs.Prelude.{◌≡◌, ℕ, ◌≤◌, List, Option}
use Rattle.run_definition.specs.declared.fault.Fault.{Fault}
use Rattle.jvm_definition.specs.declared.value.Value.{Value}
use Rattle.jvm_definition.specs.Program.{Program}
use Rattle.jvm_definition.specs.Values.{Heap}
use Rattle.jvm_definition.specs.Effect.{Workspace, enters, gives, faults}
use Rattle.jvm_definition_laws.specs.Stretch.{body_workspace}
use Rattle.emit_steps.specs.declared.step.Step.{Step}
use Rattle.emit_steps.specs.Outcomes.{outcome, stopped}

-- It comes to its return within so many instructions, with a result, and what is then in the fields and arrays is as said.
pub record Gives (program : Program) (words most : ℕ) (code : List Step) (given : List Value)
    (caller : Workspace) (result : Option Value) (Leaves : (ℕ → Value) → Heap → Type 0)
    : Type 0 where
  pub turns : ℕ
  pub step : ℕ
  pub at : Workspace
  pub back : Workspace
  pub comes : outcome program words code (body_workspace given caller)
      ≡ stopped turns step at (gives result back)
  pub in_time : turns ≤ most
  pub leaves : Leaves back.fields back.heap

-- It ends the run in a fault.
pub record Faults (program : Program) (words most : ℕ) (code : List Step) (given : List Value)
    (caller : Workspace) (fault : Fault) : Type 0 where
  pub turns : ℕ
  pub step : ℕ
  pub at : Workspace
  pub comes : outcome program words code (body_workspace given caller)
      ≡ stopped turns step at (faults fault)
  pub in_time : turns ≤ most

-- It calls a method which ends the run in a fault. The code of methods goes by their numbers.
pub record CallsFault (program : Program) (words most : ℕ) (codes : ℕ → List Step)
    (code : List Step) (given : List Value) (caller : Workspace) (callee : ℕ) (fault : Fault)
    : Type 0 where
  pub turns : ℕ
  pub step : ℕ
  pub at : Workspace
  pub arguments : List Value
  pub waiting : Workspace
  pub comes : outcome program words code (body_workspace given caller)
      ≡ stopped turns step at (enters callee arguments waiting)
  pub in_time : turns ≤ most
  pub ends : Faults program words most (codes callee) arguments waiting fault
