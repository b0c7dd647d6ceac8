-- When a net stands as the model of it does.
use Rattle.std.specs.Prelude.{◌≡◌, ◌≤◌, ℕ, zero, suc, List, [], length, Some, slice_get, false}
use Rattle.run_definition.specs.declared.outcome.Outcome.TheVariants.{Going}
use Rattle.unix_calls.specs.Held.{Held, limited, system_of}
use Rattle.unix_calls.specs.Starting.{IsFresh}
use Rattle.jvm_definition.specs.Step.{Loaded, loaded_program, loaded_turn}
use Rattle.class_definition.specs.Linking.{program_of}
use Rattle.jvm_machine.specs.Machine.{classes_of, has_ended, state_of, words_of}
use Rattle.jvm_machine.specs.Counting.{count_of}
use Rattle.jvm_machine.specs.declared.jvm.Jvm.{Jvm}
use Rattle.unix_pipe_laws.specs.Stages.{PipeStage, output_of}
use Rattle.unix_pipe_laws.specs.Pipelines.{Pipeline, PipeNet}
use Rattle.pipe_net.specs.declared.net.Net.{Net}
use Rattle.pipe_net.specs.declared.pipe.Pipe.{Pipe}
use Rattle.pipe_net.specs.declared.stage.Stage.{Stage}

abbrev pub stage_count : Net → ℕ
stage_count net = length net.stages.items

-- ---- before the first turn

-- a machine as it was loaded, on a system that has served no call
pub record IsFreshStage (jvm : Jvm) (unix : Held) : Type 0 where
  pub state : state_of jvm ≡ loaded_program (program_of (classes_of jvm)) (words_of jvm)
  pub going : has_ended jvm ≡ false
  pub none : count_of jvm ≡ 0
  pub fresh : IsFresh unix

abbrev pub AreFresh : List (Jvm × Held) → Type 0
AreFresh stages = (i : ℕ) (jvm : Jvm) (unix : Held) → slice_get stages i ≡ Some (jvm, unix)
    → IsFreshStage jvm unix

-- The pipeline of such machines on such systems, whose reads give at most c bytes, with some input.
pub record IsPipelineOf (stages : List (Jvm × Held)) (c bound : ℕ) (p : Pipeline Loaded)
    : Type 0 where
  pub turn_is : p.turn ≡ loaded_turn
  pub count_is : p.count ≡ length stages
  pub c_is : p.c ≡ c
  pub bound_is : p.bound ≡ bound
  pub machine : (i : ℕ) (jvm : Jvm) (unix : Held) → slice_get stages i ≡ Some (jvm, unix)
      → p.machines i ≡ state_of jvm
  pub system : (i : ℕ) (jvm : Jvm) (unix : Held) → slice_get stages i ≡ Some (jvm, unix)
      → p.systems i ≡ system_of (limited unix c) [] [] []

-- ---- at any time

-- A stage stands as its model does, where this is there of its input besides what its system has read ahead.
pub record ShowsStage (x : Stage) (rest : List ℕ) (y : PipeStage Loaded) (ahead : ℕ)
    : Type 0 where
  pub machine : y.machine ≡ state_of x.jvm
  pub system : y.system ≡ system_of x.unix rest (output_of y) x.errors.bytes.items
  pub made : y.made ≡ count_of x.jvm
  pub outcome : y.outcome ≡ x.outcome
  pub read_ahead : ahead ≡ length x.unix.ahead

-- the first stage has what is left of the net's input, and a later one what stands in the pipe before it
abbrev pub rest_before : ℕ → List ℕ → Pipe → List ℕ
rest_before zero left pipe = left
rest_before (suc i) left pipe = pipe.bytes.items

-- All stages do, where this is left of the net's input.
pub record Shows (net : Net) (left : List ℕ) (p : Pipeline Loaded) (model : PipeNet Loaded)
    : Type 0 where
  pub turn_is : p.turn ≡ loaded_turn
  pub count_is : p.count ≡ length net.stages.items
  pub c_is : p.c ≡ net.c
  pub bound_is : p.bound ≡ net.bound
  pub stage : (i : ℕ) (x : Stage) (pipe : Pipe) → slice_get net.stages.items i ≡ Some x
      → slice_get net.pipes.items i ≡ Some pipe
      → ShowsStage x (rest_before i left pipe) (model.stage i) (model.ahead i)

-- ---- between turns

pub record IsSoundStage (x : Stage) : Type 0 where
  pub going : x.outcome ≡ Going → has_ended x.jvm ≡ false
  pub no_faults : x.errors.faults ≡ 0
  pub short : length x.unix.ahead ≤ 4096

-- No turn of the net has failed: there is a pipe before each stage and behind the last one, and the stages that go on can do so.
pub record IsSound (net : Net) : Type 0 where
  pub pipes : length net.pipes.items ≡ suc (length net.stages.items)
  pub stages : (i : ℕ) (x : Stage) → slice_get net.stages.items i ≡ Some x → IsSoundStage x
