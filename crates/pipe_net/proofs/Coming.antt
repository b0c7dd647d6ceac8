-- How a net comes through turns to the ends of its stages.
use Rattle.std.proofs.Common.{◌≡◌, ◌≢◌, ◌<◌, ◌-◌, ℕ, suc, inl, inr, List, [], ◌∷◌, ◌++◌, Option, Some, None, refl, ap, sym, ◌∙◌, subst, arith, append_assoc}
use Rattle.std.specs.Prelude.{option_map, slice_get}
use Rattle.std.specs.Io.KnownBytes.{Appends}
use Rattle.std.proofs.lemmas.Bool.{cases_eq}
use Rattle.std.proofs.lemmas.Option.{slice_get-map}
use Rattle.nv_outside.specs.Seen.{Seen, Takes}
use Rattle.nv_outside.proofs.SeenLemmas.{rises-from, takes-both}
use Rattle.nv_outside.proofs.WriteLemmas.{Appends-both, Appends-nothing}
use Rattle.run_definition.specs.Run.{Run}
use Rattle.run_definition.specs.declared.io_fault.IoFault.{IoFault}
use Rattle.run_definition.specs.declared.io_fault.IoFault.TheVariants.{ReadFault, WriteFault}
use Rattle.run_definition.specs.declared.outcome.Outcome.{Outcome}
use Rattle.unix_definition.specs.System.{System}
use Rattle.unix_calls.specs.Drawing.{known}
use Rattle.unix_calls.specs.Stages.{FailsBehind, LosesPart, LosesRead}
use Rattle.unix_calls.proofs.DrawLemmas.{consumes-both, consumes-nothing}
use Rattle.jvm_definition.specs.Step.{Loaded}
use Rattle.unix_pipe_laws.specs.Stages.{input_left, output_of}
use Rattle.unix_pipe_laws.specs.Pipelines.{Pipeline, PipeNet}
use Rattle.unix_pipe_laws.specs.Turns.{PipeTurn, AllHappen, AllOver, BringNothing, gained, net_at_start, run_turns}
use Rattle.unix_pipe_laws.specs.Stopping.{FailsTurn, StopsInTurn, last_stage}
use Rattle.unix_pipe_laws.specs.Alone.{EndsAsAlone, IsFreshPipeline, WritesFront, run_alone_of}
use Rattle.unix_pipe_laws.proofs.Following.{all-there, comes-in-pieces, front-of-all, front-over-pieces}
use Rattle.pipe_net.specs.declared.net.Net.{Net}
use Rattle.pipe_net.specs.declared.net_fault.NetFault.{NetFault}
use Rattle.pipe_net.specs.declared.stage.Stage.{Stage}
use Rattle.pipe_net.specs.declared.turn.Turn as turn
use Rattle.pipe_net.specs.Showing.{IsSound, Shows}
use Rattle.pipe_net.specs.Turning.{IsPartOf, MakesTurns, SameFaults, StopsIn, errors_of, outcomes_of, outside_fault}
use Rattle.pipe_net.specs.Histories.{AllAreOver, EndsInOrder, HasCome, StopsInOrder, first_run_over, model_of}
use Rattle.pipe_net.proofs.Lists.{found}
use Rattle.pipe_net.proofs.Outputs.{gained-behind, run-grows, run-leaves, run-one-grows}
use Rattle.pipe_net.proofs.Stepping.{still-told}
use Rattle.pipe_net.proofs.Turns.{happen-both, nothing-both, of-end, run-both}
use Rattle.pipe_net.proofs.Shown.{over-shown}

module _ (p : Pipeline Loaded) (source : Seen (List ℕ)) (sink : Seen (List ℕ)) where
  -- before the first turn
  pub comes-nowhere : (net : Net) → IsFreshPipeline p → p.input ≡ known source.told → Shows net p.input p (net_at_start p) → HasCome p net source source sink sink
  comes-nowhere net fresh input_is shows = record {
    turns = [];
    happen = tt;
    shows = subst (λ l. Shows net l p (net_at_start p)) input_is shows;
    got = [];
    lost = consumes-nothing source.told;
    sound = refl;
    takes = λ last is. (subst (Appends sink.told sink.told) (sym (fresh.no_output last)) (Appends-nothing sink.told), refl);
    quiet = λ rest is. tt;
  }

  module _ (net : Net) (source_mid sink_mid : Seen (List ℕ)) (came : HasCome p net source source_mid sink sink_mid) where
    abbrev model : PipeNet Loaded
    model = model_of p came.turns

    -- what the last stage has written behind further turns, and what it gained in them
    behind-is : (more : List PipeTurn) → model_of p (came.turns ++ more) ≡ run_turns p model more
    behind-is more = run-both p (net_at_start p) came.turns more

    gains-behind : (more : List PipeTurn) (j : ℕ) → output_of ((run_turns p model more).stage j) ≡ output_of (model.stage j) ++ gained (model.stage j) ((run_turns p model more).stage j)
    gains-behind more j = gained-behind (model.stage j) ((run_turns p model more).stage j) (run-grows p model more j)

    -- ---- one turn more

    module _ (i m : ℕ) (t : turn.Turn) (new : Net) (source_now sink_now : Seen (List ℕ)) (made : MakesTurns p model i m t new source_mid source_now sink_mid sink_now) (same : SameFaults source_mid source_now sink_mid sink_now) where
      abbrev now : PipeNet Loaded
      now = run_turns p model made.turns

      takes-more : (last : ℕ) → suc last ≡ p.count → Takes sink sink_now (output_of (now.stage last))
      takes-more last is = elim (cases_eq last i) as (λ _. Takes sink sink_now (output_of (now.stage last))) [
        | inl at ↦
            let took : Takes sink_mid sink_now (gained (model.stage last) (now.stage last)) =
            (subst (λ j. Appends sink_mid.told sink_now.told (gained (model.stage j) (now.stage j))) (sym at) (made.takes.last (ap (λ j. suc j) (sym at) ∙ is)), same.1) in
            subst (λ l. Takes sink sink_now l) (sym (gains-behind made.turns last))
            (takes-both sink sink_mid sink_now (output_of (model.stage last)) (gained (model.stage last) (now.stage last)) (came.takes last is) took)
        | inr apart ↦
            let away : suc i ≢ p.count = λ (e : suc i ≡ p.count). apart (omega arith) in
            let before = came.takes last is in
            subst (λ l. Takes sink sink_now l) (sym (run-leaves p i model made.turns last made.of_stage apart))
            (subst (λ told. Appends sink.told told (output_of (model.stage last))) (sym (made.takes.others away)) before.0, same.1 ∙ before.1)
      ]

      quiet-more : (rest : List ℕ) → source.told ≡ Some rest → BringNothing (came.turns ++ made.turns)
      quiet-more rest is =
          let left = still-told source.told source_mid.told came.got came.lost rest is in
          nothing-both came.turns made.turns (came.quiet rest is) (made.told left.0 left.1)

      pub comes-on : HasCome p new source source_now sink sink_now
      comes-on = record {
        turns = came.turns ++ made.turns;
        happen = happen-both p (net_at_start p) came.turns made.turns came.happen made.happen;
        shows = subst (λ (k : PipeNet Loaded). Shows new (known source_now.told) p k) (sym (behind-is made.turns)) made.shows;
        got = came.got ++ made.draws.got;
        lost = consumes-both source.told source_mid.told source_now.told came.got made.draws.got came.lost made.draws.first;
        sound = same.0 ∙ came.sound;
        takes = λ last is. subst (λ (k : PipeNet Loaded). Takes sink sink_now (output_of (k.stage last))) (sym (behind-is made.turns)) (takes-more last is);
        quiet = quiet-more;
      }

    -- ---- all stages are over

    module _ (fresh : IsFreshPipeline p) (sound : IsSound net) (over : AllAreOver net) (some : 0 < p.count) where
      all-over : AllOver p model
      all-over i within = over-shown net (known source_mid.told) p model came.shows sound i (omega (arith, came.shows.count_is)) ∙ over i (omega (arith, came.shows.count_is))

      record AllAlone : Type 0 where
        pieces : List (List ℕ)
        alone : (i : ℕ) → i < p.count → EndsAsAlone p (first_run_over p source.told pieces) model i

      alone-by : (told : Option (List ℕ)) → source.told ≡ told → AllAlone
      alone-by None is =
          let h = comes-in-pieces p fresh came.turns all-over in
          record { pieces = h.0; alone = λ i within. subst (λ (o : Option (List ℕ)). EndsAsAlone p (first_run_over p o h.0) model i) (sym is) (h.1 i within) }
      alone-by (Some rest) is = record {
        pieces = [];
        alone = λ i within. subst (λ (o : Option (List ℕ)). EndsAsAlone p (first_run_over p o []) model i) (sym is) (all-there p fresh came.turns (came.quiet rest is) all-over i within);
      }

      all : AllAlone
      all = alone-by source.told refl

      abbrev first : Run Loaded System
      first = first_run_over p source.told all.pieces

      -- the stage of a number, as the model has it
      record At (i : ℕ) : Type 0 where
        stage : Stage
        is : slice_get net.stages.items i ≡ Some stage
        outcome : (model.stage i).outcome ≡ stage.outcome
        error_output : (model.stage i).system.console.error_output ≡ stage.errors.bytes.items

      at : (i : ℕ) → i < p.count → At i
      at i within =
          let s = found net.stages.items i (omega (arith, came.shows.count_is)) in
          let pipe = found net.pipes.items i (omega (arith, came.shows.count_is, sound.pipes)) in
          let sh = came.shows.stage i s.0 pipe.0 s.1 pipe.1 in
          record { stage = s.0; is = s.1; outcome = sh.outcome; error_output = ap (λ (k : System). k.console.error_output) sh.system }

      outcome-at : Stage → Outcome
      outcome-at s = s.outcome

      bytes-at : Stage → List ℕ
      bytes-at s = s.errors.bytes.items

      outcome-is : (i : ℕ) → i < p.count → slice_get (outcomes_of net) i ≡ Some (run_alone_of p first i).outcome
      outcome-is i within =
          let here = at i within in
          slice_get-map (λ (s : Stage). s.outcome) net.stages.items i
          ∙ (ap (option_map (λ (s : Stage). s.outcome)) here.is ∙ ap (λ (o : Outcome). Some o) (sym here.outcome ∙ (all.alone i within).outcome))

      errors-are : (i : ℕ) → i < p.count → slice_get (errors_of net) i ≡ Some (run_alone_of p first i).system.console.error_output
      errors-are i within =
          let here = at i within in
          slice_get-map (λ (s : Stage). s.errors.bytes.items) net.stages.items i
          ∙ (ap (option_map (λ (s : Stage). s.errors.bytes.items)) here.is ∙ ap (λ (l : List ℕ). Some l) (sym here.error_output ∙ (all.alone i within).error_output))

      input-is : LosesRead source source_mid first.system.console.rest
      input-is =
          let s = found net.stages.items 0 (omega (arith, came.shows.count_is)) in
          let pipe = found net.pipes.items 0 (omega (arith, came.shows.count_is, sound.pipes)) in
          let sh = came.shows.stage 0 s.0 pipe.0 s.1 pipe.1 in
          record {
            got = came.got;
            ahead = s.0.unix.ahead;
            lost = came.lost;
            is = sym ((all.alone 0 some).rest refl) ∙ ap (λ (k : System). k.console.rest) sh.system;
            few = (sound.stages 0 s.0 s.1).short;
            sound = came.sound;
          }

      pub ends-in-order : EndsInOrder p net source source_mid sink sink_mid
      ends-in-order = record {
        pieces = all.pieces;
        outcomes = outcome-is;
        errors = errors-are;
        output = λ last is. subst (λ l. Takes sink sink_mid l) (all.alone last (omega arith)).output (came.takes last is);
        input = input-is;
      }

    -- ---- a turn failed

    module _ (fresh : IsFreshPipeline p) (i m : ℕ) (new : Net) (fault : NetFault) (source_now sink_now : Seen (List ℕ)) (stop : StopsIn p model i m fault net new source_mid source_now sink_mid sink_now) (last : ℕ) (last_is : suc last ≡ p.count) where
      abbrev more : List PipeTurn
      more = stop.made ++ stop.failed ∷ []

      abbrev then_model : PipeNet Loaded
      then_model = run_turns p model more

      abbrev now_model : PipeNet Loaded
      now_model = run_turns p model stop.made

      last-of : p.count - 1 ≡ last
      last-of = omega (arith, last_is)

      -- what was taken from the first turn on
      abbrev outputs : PipeNet Loaded → List ℕ
      outputs k = output_of (last_stage p k)

      abbrev gains : PipeNet Loaded → List ℕ
      gains k = gained (last_stage p model) (last_stage p k)

      took : Takes sink sink_mid (outputs model)
      took = came.takes (p.count - 1) (omega (arith, last_is))

      takes-all : Takes sink_mid sink_now (gains now_model) → Takes sink sink_now (outputs now_model)
      takes-all h = subst (Takes sink sink_now) (sym (gains-behind stop.made (p.count - 1))) (takes-both sink sink_mid sink_now (outputs model) (gains now_model) took h)

      loses-read : LosesRead source_mid source_now (input_left (now_model.stage 0)) → LosesRead source source_now (input_left (now_model.stage 0))
      loses-read h = record {
        got = came.got ++ h.got;
        ahead = h.ahead;
        lost = consumes-both source.told source_mid.told source_now.told came.got h.got came.lost h.lost;
        is = h.is;
        few = h.few;
        sound = h.sound ∙ came.sound;
      }

      loses-part : LosesPart source_mid source_now (input_left (now_model.stage 0)) (input_left (then_model.stage 0)) → LosesPart source source_now (input_left (now_model.stage 0)) (input_left (then_model.stage 0))
      loses-part h = record {
        got = came.got ++ h.got;
        lost = consumes-both source.told source_mid.told source_now.told came.got h.got came.lost h.lost;
        has = λ rest is. let left = still-told source.told source_mid.told came.got came.lost rest is in h.has left.0 left.1;
        leaves = h.leaves;
        rises = rises-from source.faults source_mid.faults source_now.faults (sym came.sound) h.rises;
      }

      fails-behind : FailsBehind sink_mid sink_now (gains now_model) (gains then_model) → FailsBehind sink sink_now (outputs now_model) (outputs then_model)
      fails-behind h =
          let first = outputs model in
          let front : first ++ (gains now_model ++ h.part) ≡ outputs now_model ++ h.part =
          sym (append_assoc first (gains now_model) h.part) ∙ ap (λ l. l ++ h.part) (sym (gains-behind stop.made (p.count - 1))) in
          record {
            part = h.part;
            next = h.next;
            rest = h.rest;
            is =
                gains-behind more (p.count - 1)
                ∙ (ap (λ l. first ++ l) h.is
                ∙ (sym (append_assoc first (gains now_model ++ h.part) (h.next ∷ h.rest)) ∙ ap (λ l. l ++ h.next ∷ h.rest) front));
            took = subst (λ l. Appends sink.told sink_now.told l) front (Appends-both sink.told sink_mid.told sink_now.told first (gains now_model ++ h.part) took.0 h.took);
            rises = rises-from sink.faults sink_mid.faults sink_now.faults (sym took.1) h.rises;
          }

      abbrev FailsSo : Option IoFault → Type 0
      FailsSo failure = FailsTurn failure p now_model then_model i gains source_mid source_now sink_mid sink_now

      abbrev FailsFirst : Option IoFault → Type 0
      FailsFirst failure = FailsTurn failure p now_model then_model i outputs source source_now sink sink_now

      from-first : (failure : Option IoFault) → FailsSo failure → FailsFirst failure
      from-first (Some ReadFault) h = record { first = h.first; call = h.call; input = loses-part h.input; output = takes-all h.output }
      from-first (Some WriteFault) h = record { last = h.last; call = h.call; input = loses-read h.input; output = fails-behind h.output }
      from-first None h = record { call = h.call; input = loses-read h.input; output = takes-all h.output }

      stops-in-turn : StopsInTurn p (outside_fault fault) source source_now sink sink_now
      stops-in-turn =
          let all : (came.turns ++ stop.made) ++ stop.failed ∷ [] ≡ came.turns ++ more = append_assoc came.turns stop.made (stop.failed ∷ []) in
          let stage : stop.failed.stage ≡ i = of-end i stop.made stop.failed stop.of_stage in
          record {
            made = came.turns ++ stop.made;
            failed = stop.failed;
            happen = subst (AllHappen p (net_at_start p)) (sym all) (happen-both p (net_at_start p) came.turns more came.happen stop.happen);
            quiet = λ rest is.
                let left = still-told source.told source_mid.told came.got came.lost rest is in
                subst BringNothing (sym all) (nothing-both came.turns more (came.quiet rest is) (stop.told left.0 left.1));
            fails = subst (λ (k : PipeNet Loaded × PipeNet Loaded × ℕ). FailsTurn (outside_fault fault) p k.0 k.1 k.2 outputs source source_now sink sink_now)
                (λ j. (sym (behind-is stop.made) j, (sym (behind-is more) ∙ ap (model_of p) (sym all)) j, sym stage j))
                (from-first (outside_fault fault) stop.fails);
          }

      record Fronts : Type 0 where
        pieces : List (List ℕ)
        front : (j : ℕ) → WritesFront p (first_run_over p source.told pieces) then_model j

      fronts-by : (told : Option (List ℕ)) → source.told ≡ told → Fronts
      fronts-by None is =
          let h = front-over-pieces p fresh (came.turns ++ more) in
          record {
            pieces = h.0;
            front = λ j. subst (λ (o : Option (List ℕ)). WritesFront p (first_run_over p o h.0) then_model j) (sym is)
                (subst (λ (k : PipeNet Loaded). WritesFront p (first_run_over p None h.0) k j) (behind-is more) (h.1 j));
          }
      fronts-by (Some rest) is =
          let left = still-told source.told source_mid.told came.got came.lost rest is in
          let none = nothing-both came.turns more (came.quiet rest is) (stop.told left.0 left.1) in
          record {
            pieces = [];
            front = λ j. subst (λ (o : Option (List ℕ)). WritesFront p (first_run_over p o []) then_model j) (sym is)
                (subst (λ (k : PipeNet Loaded). WritesFront p (first_run_over p (Some rest) []) k j) (behind-is more) (front-of-all p fresh (came.turns ++ more) none j));
          }

      fronts : Fronts
      fronts = fronts-by source.told refl

      -- what the sink got of what the last stage wrote
      record Got : Type 0 where
        part : List ℕ
        took : Appends sink.told sink_now.told part
        is_part : IsPartOf part (outputs then_model)

      got-all : Takes sink sink_now (outputs now_model) → Got
      got-all h =
          let all = run-one-grows p model stop.made stop.failed (p.count - 1) in
          record { part = outputs now_model; took = h.0; is_part = record { rest = all.wrote; is = all.is } }

      got-of : (failure : Option IoFault) → FailsFirst failure → Got
      got-of (Some ReadFault) h = got-all h.output
      got-of (Some WriteFault) h = record {
        part = outputs now_model ++ h.output.part;
        took = h.output.took;
        is_part = record {
          rest = h.output.next ∷ h.output.rest;
          is = h.output.is;
        };
      }
      got-of None h = got-all h.output

      part-alone : (part : List ℕ) (j : ℕ) → IsPartOf part (output_of (then_model.stage j)) → IsPartOf part (run_alone_of p (first_run_over p source.told fronts.pieces) j).system.console.output
      part-alone part j is =
          let front = fronts.front j in
          record { rest = is.rest ++ front.more; is = front.output ∙ (ap (λ l. l ++ front.more) is.is ∙ append_assoc part is.rest front.more) }

      pub stops-in-order : StopsInOrder p source source_now sink sink_now fault
      stops-in-order =
          let had = got-of (outside_fault fault) (from-first (outside_fault fault) stop.fails) in
          record {
            stops = stops-in-turn;
            pieces = fronts.pieces;
            part = had.part;
            took = had.took;
            is_part = λ l at. let same : p.count - 1 ≡ l = omega (arith, at) in subst (λ k. IsPartOf had.part (run_alone_of p (first_run_over p source.told fronts.pieces) k).system.console.output) same (part-alone had.part (p.count - 1) had.is_part);
          }
