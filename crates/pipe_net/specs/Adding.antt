-- How a net is made, stage by stage.
use Rattle.std.specs.Prelude.{◌≡◌, ◌++◌, ◌∷◌, ℕ, suc, List, [], length, Some, slice_get}
use Rattle.run_definition.specs.declared.outcome.Outcome.TheVariants.{Going}
use Rattle.unix_calls.specs.Held.{Held, limited}
use Rattle.jvm_machine.specs.declared.jvm.Jvm.{Jvm}
use Rattle.pipe_net.specs.declared.net.Net.{Net}
use Rattle.pipe_net.specs.declared.pipe.Pipe.{Pipe}
use Rattle.pipe_net.specs.declared.stage.Stage.{Stage}

-- a stage before its first instruction, whose reads give at most c bytes
pub record IsNewStage (x : Stage) (jvm : Jvm) (unix : Held) (c : ℕ) : Type 0 where
  pub jvm_is : x.jvm ≡ jvm
  pub unix_is : x.unix ≡ limited unix c
  pub no_errors : x.errors.bytes.items ≡ []
  pub no_faults : x.errors.faults ≡ 0
  pub going : x.outcome ≡ Going

-- one more stage, with an empty pipe behind it
pub record AddsStage (old new : Net) (jvm : Jvm) (unix : Held) : Type 0 where
  pub stage : Stage
  pub pipe : Pipe
  pub stages : new.stages.items ≡ old.stages.items ++ stage ∷ []
  pub pipes : new.pipes.items ≡ old.pipes.items ++ pipe ∷ []
  pub is_new : IsNewStage stage jvm unix old.c
  pub is_empty : pipe.bytes.items ≡ []
  pub same_c : new.c ≡ old.c
  pub same_bound : new.bound ≡ old.bound

-- the stages of a net are these machines on these systems, and all pipes are empty
pub record IsMadeOf (net : Net) (given : List (Jvm × Held)) (c bound : ℕ) : Type 0 where
  pub stages : length net.stages.items ≡ length given
  pub pipes : length net.pipes.items ≡ suc (length given)
  pub are_new : (i : ℕ) (x : Stage) (jvm : Jvm) (unix : Held) → slice_get given i ≡ Some (jvm, unix)
      → slice_get net.stages.items i ≡ Some x → IsNewStage x jvm unix c
  pub are_empty : (i : ℕ) (pipe : Pipe) → slice_get net.pipes.items i ≡ Some pipe
      → pipe.bytes.items ≡ []
  pub c_is : net.c ≡ c
  pub bound_is : net.bound ≡ bound
