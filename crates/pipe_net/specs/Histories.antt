-- What turns of a net, none of which failed, come to from its start on.
use Rattle.std.specs.Prelude.{◌≡◌, ◌<◌, ℕ, suc, true, false, List, Option, Some, None, Result, MatchResult, slice_get}
use Rattle.std.specs.Io.KnownBytes.{Appends, Consumes}
use Rattle.nv_outside.specs.Seen.{Seen, Takes}
use Rattle.run_definition.specs.Run.{Run}
use Rattle.unix_definition.specs.System.{System}
use Rattle.unix_calls.specs.Drawing.{known}
use Rattle.unix_calls.specs.Stages.{LosesRead}
use Rattle.jvm_definition.specs.Step.{Loaded}
use Rattle.unix_pipe_laws.specs.Stages.{output_of}
use Rattle.unix_pipe_laws.specs.Pipelines.{Pipeline, PipeNet}
use Rattle.unix_pipe_laws.specs.Turns.{PipeTurn, AllHappen, BringNothing, net_at_start, run_turns}
use Rattle.unix_pipe_laws.specs.Stopping.{StopsInTurn}
use Rattle.unix_pipe_laws.specs.Alone.{first_run, first_run_arriving, run_alone_of}
use Rattle.pipe_net.specs.declared.net.Net.{Net}
use Rattle.pipe_net.specs.declared.net_fault.NetFault.{NetFault}
use Rattle.pipe_net.specs.Moving.{over_in}
use Rattle.pipe_net.specs.Showing.{Shows, stage_count}
use Rattle.pipe_net.specs.Turning.{IsPartOf, errors_of, outcomes_of, outside_fault}

-- the model of a pipeline behind some turns
abbrev pub model_of : Pipeline Loaded → List PipeTurn → PipeNet Loaded
model_of p turns = run_turns p (net_at_start p) turns

-- Behind some turns of the model the net stands as this does, the source lost a front part of what it had, and the sink took all that the
-- last stage wrote. Neither failed.
pub record HasCome (p : Pipeline Loaded) (net : Net)
    (source source_now sink sink_now : Seen (List ℕ)) : Type 0 where
  pub turns : List PipeTurn
  pub happen : AllHappen p (net_at_start p) turns
  pub shows : Shows net (known source_now.told) p (model_of p turns)
  pub got : List ℕ
  pub lost : Consumes source.told source_now.told got
  pub sound : source_now.faults ≡ source.faults
  pub takes : (last : ℕ) → suc last ≡ p.count
      → Takes sink sink_now (output_of ((model_of p turns).stage last))
  pub quiet : (rest : List ℕ) → source.told ≡ Some rest → BringNothing turns

-- each stage of it has ended, or executed as many instructions as it may
abbrev pub AllAreOver : Net → Type 0
AllAreOver net =
    (i : ℕ) → i < stage_count net → over_in net.bound net.stages.items i ≡ true

-- some stage has not
abbrev pub SomeGoesOn : Net → Type 0
SomeGoesOn net =
    (i : ℕ) × (i < stage_count net) × (over_in net.bound net.stages.items i ≡ false)

-- the run of the first stage over what the source has, where it tells that, or else over some pieces of it, of which one comes before each
-- call
abbrev pub first_run_over : Pipeline Loaded → Option (List ℕ) → List (List ℕ) → Run Loaded System
first_run_over p (Some rest) pieces = first_run p
first_run_over p None pieces = first_run_arriving p pieces

-- Each stage ended as it does one after the other, the first left so much of the input, and the sink took what the last one writes so.
pub record EndsInOrder (p : Pipeline Loaded) (net : Net)
    (source source_now sink sink_now : Seen (List ℕ)) : Type 0 where
  pub pieces : List (List ℕ)
  pub outcomes : (i : ℕ) → i < p.count → slice_get (outcomes_of net) i
      ≡ Some (run_alone_of p (first_run_over p source.told pieces) i).outcome
  pub errors : (i : ℕ) → i < p.count → slice_get (errors_of net) i
      ≡ Some (run_alone_of p (first_run_over p source.told pieces) i).system.console.error_output
  pub output : (last : ℕ) → suc last ≡ p.count → Takes sink sink_now
      (run_alone_of p (first_run_over p source.told pieces) last).system.console.output
  pub input : LosesRead source source_now
      (first_run_over p source.told pieces).system.console.rest

-- A turn failed: what is done is what the turns until then do, and the sink has a front part of what the last stage writes so.
pub record StopsInOrder (p : Pipeline Loaded) (source source_now sink sink_now : Seen (List ℕ))
    (fault : NetFault) : Type 0 where
  pub stops : StopsInTurn p (outside_fault fault) source source_now sink sink_now
  pub pieces : List (List ℕ)
  pub part : List ℕ
  pub took : Appends sink.told sink_now.told part
  pub is_part : (last : ℕ) → suc last ≡ p.count → IsPartOf part
      (run_alone_of p (first_run_over p source.told pieces) last).system.console.output

-- turns came to more turns, and to the ends of all stages, or one failed
abbrev pub ComesOn : Pipeline Loaded → Net → Seen (List ℕ) → Seen (List ℕ) → Seen (List ℕ)
    → Seen (List ℕ) → Result (Unit {0}) NetFault → Type 0
ComesOn p net source source_now sink sink_now result =
    MatchResult result (λ done. HasCome p net source source_now sink sink_now)
    (λ fault. StopsInOrder p source source_now sink sink_now fault)

abbrev pub EndsSo : Pipeline Loaded → Net → Seen (List ℕ) → Seen (List ℕ) → Seen (List ℕ)
    → Seen (List ℕ) → Result (Unit {0}) NetFault → Type 0
EndsSo p net source source_now sink sink_now result =
    MatchResult result (λ done. EndsInOrder p net source source_now sink sink_now)
    (λ fault. StopsInOrder p source source_now sink sink_now fault)
