-- What a turn of a stage ensures.
use Rattle.std.proofs.Common.{◌≡◌, ◌+◌, ℕ, true, false, List, Result, Ok, Err, ap, sym, ◌∙◌, subst}
use Rattle.std.specs.Prelude.{IfOk, OnOk}
use Rattle.std.proofs.lemmas.Bool.{true≢false}
use Rattle.nv_events.specs.Parts.{is_going}
use Rattle.run_definition.specs.declared.io_fault.IoFault.{IoFault}
use Rattle.run_definition.specs.declared.outcome.Outcome.TheVariants.{Going}
use Rattle.unix_calls.specs.Drawing.{known}
use Rattle.jvm_machine.specs.Machine.{has_ended}
use Rattle.jvm_machine.specs.Counting.{count_of}
use Rattle.jvm_definition.specs.Step.{Loaded, loaded_turn}
use Rattle.unix_pipe_laws.specs.Pipelines.{Pipeline, PipeNet}
use Rattle.pipe_net.specs.declared.executed.Executed.{Executed}
use Rattle.pipe_net.specs.declared.executed.Stop.{Stop}
use Rattle.pipe_net.specs.declared.executed.Stop.TheVariants.{Most, NotReady, Ended}
use Rattle.pipe_net.specs.declared.net_fault.NetFault.{NetFault}
use Rattle.pipe_net.specs.declared.pipe.Pipe.{Pipe}
use Rattle.pipe_net.specs.declared.stage.Stage.{Stage}
use Rattle.pipe_net.specs.declared.turn.Turn as turn
use Rattle.pipe_net.specs.Executing.{Executes, GoesOnBehind, Scene, Stops}
use Rattle.pipe_net.specs.Settling.{Settles, net_fault_of, outcome_behind}
use Rattle.pipe_net.specs.Showing.{IsSound, Shows}
use Rattle.pipe_net.specs.Turning.{CountsFaults, TurnGives}
use Rattle.pipe_net.proofs.Stepping.{SomeSince, ends-since, walks-since}
use Rattle.pipe_net.proofs.Failing.{behind-same, falls-at, fell-counts, since-counts}
use Rattle.pipe_net.proofs.Moved.{Moved, scene_before, scene_behind, sound-now, old-sound}
use Rattle.pipe_net.proofs.Made.{ended-turn, stops-so}
use Rattle.pipe_net.proofs.Stopped.{fails-so}

module _ (g : Moved) where
  open g use {old, new, i, m, terms, source, source_now, sink, sink_now, result, sound, within, some, going, are, v, same_c, same_bound}

  abbrev x : Scene
  x = scene_before g

  abbrev y : Scene
  y = scene_behind g

  abbrev stages : List Stage
  stages = old.stages.items

  abbrev pipes : List Pipe
  pipes = old.pipes.items

  module _ (p : Pipeline Loaded) (model : PipeNet Loaded) (shows : Shows old (known source.told) p model) where
    pub gives : TurnGives p model i m old new source source_now sink sink_now result
    gives = by-executed v.executed v.executes v.counts v.settles
      where
        by-executed : (e : Result Executed IoFault) → Executes terms.most x y e → IfOk e (λ k. count_of v.new.jvm ≡ count_of v.old.jvm + k.count) → Settles terms.outlet e v.old.outcome v.new.outcome v.new.errors.faults result
            → TurnGives p model i m old new source source_now sink sink_now result
        by-executed (Ok e) h counts settles =
            subst (λ (r : Result turn.Turn NetFault). TurnGives p model i m old new source source_now sink sink_now r) (sym settles.1) ((stops-so g p model shows) e.count e.stop h counts settles.0)
        by-executed (Err fault) h counts settles =
            subst (λ (r : Result turn.Turn NetFault). TurnGives p model i m old new source source_now sink sink_now r) (sym settles.1) ((fails-so g p model shows) fault h settles.0)

  -- ---- what holds without a model

  stops-since : (n : ℕ) (stop : Stop) → Stops terms.most x y n stop → SomeSince x.ports y.ports
  stops-since n Most h = walks-since n x y h.1
  stops-since n NotReady h = walks-since n x y h.1
  stops-since n (Ended o) h = ends-since h.0 x h.3 y o h.4 h.5

  going-then : (n : ℕ) (stop : Stop) → Stops terms.most x y n stop → GoesOnBehind stop (has_ended v.new.jvm) → v.new.outcome ≡ outcome_behind v.old.outcome stop → v.new.outcome ≡ Going → has_ended v.new.jvm ≡ false
  going-then n Most h on outcome_is is = on
  going-then n NotReady h on outcome_is is = on
  going-then n (Ended o) h on outcome_is is =
      let ended : is_going o ≡ false = ended-turn (loaded_turn h.3.state) h.3 y o h.5.1 h.5.0 in
      let still : is_going o ≡ true = ap is_going (sym outcome_is ∙ is) in
      absurd (true≢false (sym still ∙ ended))

  pub sound-on : OnOk result (IsSound new)
  sound-on = by-executed v.executed v.executes v.goes_on v.settles
    where
      by-executed : (e : Result Executed IoFault) → Executes terms.most x y e → IfOk e (λ k. GoesOnBehind k.stop (has_ended v.new.jvm)) → Settles terms.outlet e v.old.outcome v.new.outcome v.new.errors.faults result → OnOk result (IsSound new)
      by-executed (Ok e) h on settles =
          subst (λ (r : Result turn.Turn NetFault). OnOk r (IsSound new)) (sym settles.1)
          ((sound-now g) (record {
            going = going-then e.count e.stop h on settles.0;
            no_faults = (stops-since e.count e.stop h).1.no_faults ∙ (old-sound g).no_faults;
            short = v.short;
          }))
      by-executed (Err fault) h on settles = subst (λ (r : Result turn.Turn NetFault). OnOk r (IsSound new)) (sym settles.1) tt

  pub counts-so : CountsFaults source source_now sink sink_now result
  counts-so = by-executed v.executed v.executes v.settles
    where
      by-executed : (e : Result Executed IoFault) → Executes terms.most x y e → Settles terms.outlet e v.old.outcome v.new.outcome v.new.errors.faults result → CountsFaults source source_now sink sink_now result
      by-executed (Ok e) h settles =
          let s = stops-since e.count e.stop h in
          subst (λ (r : Result turn.Turn NetFault). CountsFaults source source_now sink sink_now r) (sym settles.1) (since-counts x.ports y.ports s.0 s.1)
      by-executed (Err fault) h settles =
          let mid = h.2 in
          let s = walks-since h.0 x mid h.3 in
          let at = falls-at x.ports mid.ports y.ports h.4.0 fault s.0 s.1 h.4.3 in
          subst (λ (r : Result turn.Turn NetFault). CountsFaults source source_now sink sink_now r) (sym settles.1)
          (behind-same (net_fault_of fault terms.outlet v.new.errors.faults) source mid.ports.source source_now sink mid.ports.sink sink_now
          (since-counts x.ports mid.ports s.0 s.1)
          (fell-counts terms.inlet terms.outlet mid.ports y.ports h.4.0 fault (s.1.no_faults ∙ (old-sound g).no_faults) at))
