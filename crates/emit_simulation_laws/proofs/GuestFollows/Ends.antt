-- Code by itself that comes to its end.
use Rattle.std.proofs.Common.{◌≡◌, ℕ, ◌≤◌, List}
use Rattle.jvm_definition.specs.Program.{Program}
use Rattle.jvm_definition.specs.Effect.{Workspace}
use Rattle.emit_steps.specs.declared.step.Step.{Step}
use Rattle.emit_steps.specs.Outcomes.{outcome, ended}

-- Code by itself comes to its end within so many instructions, with a workspace as said.
pub record Ends (program : Program) (words most : ℕ) (code : List Step) (w : Workspace) (Arrives : Workspace → Type 0) : Type 0 where
  pub turns : ℕ
  pub after : Workspace
  pub comes : outcome program words code w ≡ ended turns after
  pub in_time : turns ≤ most
  pub arrives : Arrives after
