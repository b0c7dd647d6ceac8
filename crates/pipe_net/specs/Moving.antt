-- What the turn of a stage on its terms does to the stages and pipes of a net.
use Rattle.std.specs.Prelude.{◌≡◌, ◌≤◌, ◌+◌, ℕ, zero, suc, ◌-◌, ◌==◌, min, Bool, true, if◌then◌else◌, List, length, Some, None, Result, IfOk, slice_get, slice_set}
use Rattle.nv_outside.specs.Seen.{Seen}
use Rattle.run_definition.specs.declared.io_fault.IoFault.{IoFault}
use Rattle.jvm_machine.specs.Machine.{has_ended}
use Rattle.jvm_machine.specs.Counting.{count_of}
use Rattle.pipe_net.specs.declared.executed.Executed.{Executed}
use Rattle.pipe_net.specs.declared.inlet.Inlet.{Inlet}
use Rattle.pipe_net.specs.declared.inlet.Inlet.TheVariants as inlet
use Rattle.pipe_net.specs.declared.net.Net.{Net}
use Rattle.pipe_net.specs.declared.net_fault.NetFault.{NetFault}
use Rattle.pipe_net.specs.declared.outlet.Outlet.{Outlet}
use Rattle.pipe_net.specs.declared.outlet.Outlet.TheVariants as outlet
use Rattle.pipe_net.specs.declared.pipe.Pipe.{Pipe}
use Rattle.pipe_net.specs.declared.stage.Stage.{Stage}
use Rattle.pipe_net.specs.declared.terms.Terms.{Terms}
use Rattle.pipe_net.specs.declared.turn.Turn.{Turn}
use Rattle.pipe_net.specs.Executing.{Executes, GoesOnBehind}
use Rattle.pipe_net.specs.Settling.{Settles, over_by}
use Rattle.pipe_net.specs.Views.{scene_of}

-- ---- on which terms it is made

-- whether a stage is over
abbrev pub over_in : ℕ → List Stage → ℕ → Bool
over_in bound stages i = elim (slice_get stages i) [
  | None ↦ true
  | Some x ↦ over_by bound x.outcome (count_of x.jvm)
]

abbrev pub inlet_of : ℕ → List Stage → ℕ → Inlet
inlet_of bound stages zero = inlet.Source
inlet_of bound stages (suc i) = inlet.Pipe (over_in bound stages i)

abbrev pub outlet_of : ℕ → List Stage → ℕ → Outlet
outlet_of bound stages i = if suc i == length stages then outlet.Sink
    else if over_in bound stages (suc i) then outlet.Nowhere
    else outlet.Pipe

-- a stage executes so many instructions at most that it keeps to its bound
pub record AreTerms (net : Net) (i m : ℕ) (terms : Terms) : Type 0 where
  pub inlet : terms.inlet ≡ inlet_of net.bound net.stages.items i
  pub outlet : terms.outlet ≡ outlet_of net.bound net.stages.items i
  pub size : terms.c ≡ net.c
  pub most : (x : Stage) → slice_get net.stages.items i ≡ Some x
      → terms.most ≡ min m (net.bound - count_of x.jvm)

-- ---- what it does

-- One stage and the pipes on both of its sides have changed, by the instructions that were executed.
pub record MovesStage (terms : Terms) (i : ℕ) (stages stages_now : List Stage)
    (pipes pipes_now : List Pipe) (source source_now sink sink_now : Seen (List ℕ))
    (result : Result Turn NetFault) : Type 0 where
  pub old : Stage
  pub new : Stage
  pub before : Pipe
  pub before_now : Pipe
  pub behind : Pipe
  pub behind_now : Pipe
  pub stage_is : slice_get stages i ≡ Some old
  pub before_is : slice_get pipes i ≡ Some before
  pub behind_is : slice_get pipes (suc i) ≡ Some behind
  pub stages_are : stages_now ≡ slice_set stages i new
  pub pipes_are : pipes_now ≡ slice_set (slice_set pipes i before_now) (suc i) behind_now
  pub executed : Result Executed IoFault
  pub executes : Executes terms.most (scene_of terms old source before sink behind)
      (scene_of terms new source_now before_now sink_now behind_now) executed
  pub counts : IfOk executed (λ e. count_of new.jvm ≡ count_of old.jvm + e.count)
  pub short : length new.unix.ahead ≤ 4096
  pub goes_on : IfOk executed (λ e. GoesOnBehind e.stop (has_ended new.jvm))
  pub settles : Settles terms.outlet executed old.outcome new.outcome new.errors.faults result
