-- A turn of a stage in which a call failed, over the model of its net.
use Rattle.std.proofs.Common.{◌≡◌, ◌≢◌, ◌<◌, ◌+◌, ◌-◌, ◌==◌, inl, inr, ℕ, zero, suc, true, if◌then◌else◌, List, [], ◌∷◌, ◌++◌, length, drop, set, map, Some, Err, refl, ap, sym, ◌∙◌, subst, arith, append-nil, append_assoc}
use Rattle.std.specs.Prelude.{slice_get, option_map}
use Rattle.std.specs.Io.KnownBytes.{Consumes}
use Rattle.std.proofs.Math.Seq.{drop-append_seam}
use Rattle.std.proofs.lemmas.Bool.{cases_eq}
use Rattle.std.proofs.lemmas.Option.{same_Some, slice_get-map}
use Rattle.nv_outside.specs.Faults.{Rises}
use Rattle.nv_outside.specs.Seen.{Seen, Takes}
use Rattle.nv_outside.proofs.SeenLemmas.{rises-from, takes-nothing}
use Rattle.run_definition.specs.Answer.{Answer}
use Rattle.run_definition.specs.Question.{Question}
use Rattle.run_definition.specs.Turn.{asks}
use Rattle.run_definition.specs.declared.io_fault.IoFault.{IoFault}
use Rattle.run_definition.specs.declared.io_fault.IoFault.TheVariants.{ReadFault, WriteFault}
use Rattle.run_definition.specs.declared.outcome.Outcome.{Outcome}
use Rattle.run_definition.specs.declared.outcome.Outcome.TheVariants.{Going}
use Rattle.unix_definition.specs.System.{System}
use Rattle.unix_calls.specs.Drawing.{AreBytes, known}
use Rattle.unix_calls.specs.Serving.{OneFails, parts}
use Rattle.unix_calls.specs.Stages.{FailsBehind, IsRear, LosesPart, LosesRead, goes_on, next_of, reads, writes}
use Rattle.unix_calls.proofs.BreakLemmas.{behind-fails, some-written}
use Rattle.unix_calls.proofs.DrawLemmas.{consumes-both, consumes-nothing}
use Rattle.unix_calls.proofs.PlayLemmas.{told-on}
use Rattle.jvm_definition.specs.Step.{Loaded, loaded_turn}
use Rattle.unix_pipe_laws.specs.Stages.{input_left, output_of}
use Rattle.unix_pipe_laws.specs.Pipelines.{Pipeline, PipeNet}
use Rattle.unix_pipe_laws.specs.Turns.{gained, run_turns}
use Rattle.unix_pipe_laws.specs.Stopping.{FailsReading, FailsTurn, LacksMemory, last_stage, next_at}
use Rattle.pipe_net.specs.declared.inlet.Inlet.{Inlet}
use Rattle.pipe_net.specs.declared.inlet.Inlet.TheVariants as inlet
use Rattle.pipe_net.specs.declared.outlet.Outlet.{Outlet}
use Rattle.pipe_net.specs.declared.outlet.Outlet.TheVariants as outlet
use Rattle.pipe_net.specs.declared.pipe.Pipe.{Pipe}
use Rattle.pipe_net.specs.declared.stage.Stage.{Stage}
use Rattle.pipe_net.specs.Ports.{OtherInput, OtherOutput, input_at, kept_seen, output_at, ready_for}
use Rattle.pipe_net.specs.Executing.{Executes, Scene}
use Rattle.pipe_net.specs.Settling.{net_fault_of}
use Rattle.pipe_net.specs.Showing.{Shows}
use Rattle.pipe_net.specs.Turning.{IsPartOf, StopsIn, outside_fault}
use Rattle.pipe_net.proofs.Lists.{found, set-other, set-same}
use Rattle.pipe_net.proofs.Turns.{nothing-more}
use Rattle.pipe_net.proofs.Outputs.{run-leaves}
use Rattle.pipe_net.proofs.Stepping.{Loses, Since, input-both, loses-both, turn_at}
use Rattle.pipe_net.proofs.Walking.{Walked, walk}
use Rattle.pipe_net.proofs.Failing.{FallsAt, all-happen, all-of, errors-part, falls-at, fell-loses, gained-all, gained-made, lost-quiet, lost_piece, next-turn-is, rear-left, system-is, to_write}
use Rattle.pipe_net.proofs.Moved.{Moved, scene_before, scene_behind, outlet-is, draws-by, from-zero, from-later, old-sound}
use Rattle.pipe_net.proofs.Modelled.{stands, in-range, fits-bound, few-enough}

-- one is set that gives the same
map-set : {A B : Type 0} (f : A → B) (xs : List A) (i : ℕ) (x y : A) → slice_get xs i ≡ Some x → f y ≡ f x → map f (set xs i y) ≡ map f xs
map-set f [] i x y is same = refl
map-set f (z ∷ xs) zero x y is same = ap (λ b. b ∷ map f xs) (same ∙ ap f (sym (same_Some z x is)))
map-set f (z ∷ xs) (suc i) x y is same = ap (λ l. f z ∷ l) (map-set f xs i x y is same)

-- a front part was lost, and then a call that reads failed
loses-part : (old mid new : Seen (List ℕ)) (before behind ahead got more : List ℕ) → Consumes old.told mid.told got → mid.faults ≡ old.faults → Consumes mid.told new.told more → Rises mid.faults new.faults
    → before ≡ ahead ++ known mid.told → (AreBytes (known new.told) → IsRear behind (known new.told)) → LosesPart old new before behind
loses-part old mid new before behind ahead got more first same later rises is rear = record {
  got = got ++ more;
  lost = consumes-both old.told mid.told new.told got more first later;
  has = λ rest told.
      let mid_is = (told-on old.told mid.told rest got told first).0 in
      let end = told-on mid.told new.told (known mid.told) more mid_is later in
      (ahead ++ more, is ∙ (ap (λ l. ahead ++ l) end.1 ∙ sym (append_assoc ahead more (known new.told))));
  leaves = rear;
  rises = rises-from old.faults mid.faults new.faults (sym same) rises;
}

module _ (g : Moved) where
  open g use {old, new, i, m, terms, source, source_now, sink, sink_now, result, sound, within, some, going, are, v, same_c, same_bound}

  abbrev x : Scene
  x = scene_before g

  abbrev y : Scene
  y = scene_behind g

  abbrev stages : List Stage
  stages = old.stages.items

  abbrev pipes : List Pipe
  pipes = old.pipes.items

  module _ (p : Pipeline Loaded) (model : PipeNet Loaded) (shows : Shows old (known source.told) p model) where
    sink-as-it-was : (mid : Scene) (w : List ℕ) → Since x.ports mid.ports w → OtherOutput terms.outlet mid.ports.sink mid.ports.behind sink_now y.ports.behind → suc i ≢ length stages → sink_now ≡ sink
    sink-as-it-was mid w s other apart = elim (outlet-is g) [
      | inl last ↦ absurd (apart last.0)
      | inr inner ↦ elim inner [
        | inl done ↦
            (subst (λ (l : Outlet). OtherOutput l mid.ports.sink mid.ports.behind sink_now y.ports.behind) done.2 other).0
            ∙ (subst (λ (l : Outlet). OtherOutput l sink x.ports.behind mid.ports.sink mid.ports.behind) done.2 s.others.output).0
        | inr on ↦
            subst (λ (l : Outlet). OtherOutput l mid.ports.sink mid.ports.behind sink_now y.ports.behind) on.2 other
            ∙ subst (λ (l : Outlet). OtherOutput l sink x.ports.behind mid.ports.sink mid.ports.behind) on.2 s.others.output
      ]
    ]

    abbrev bytes_of : Stage → List ℕ
    bytes_of s = s.errors.bytes.items

    abbrev end_of_stage : Stage → Outcome
    end_of_stage s = s.outcome

    at-last : suc i ≡ length stages → terms.outlet ≡ outlet.Sink
    at-last at = elim (outlet-is g) [
      | inl last ↦ last.1
      | inr inner ↦ elim inner [
        | inl done ↦ absurd (done.0 at)
        | inr on ↦ absurd (on.0 at)
      ]
    ]

    -- only the source's reads fail
    reads-first : (mid : Scene) (k : ℕ) → i ≡ k → Rises (input_at terms.inlet mid.ports).faults (input_at terms.inlet y.ports).faults → i ≡ 0
    reads-first mid zero is rises = is
    reads-first mid (suc k) is rises = let no = (subst (λ (l : Inlet). Rises (input_at l mid.ports).faults (input_at l y.ports).faults) ((from-later g) k is) rises).rose in absurd (omega arith)

    -- ---- what the failed turn says, where these turns were made before it

    module _ (n : ℕ) (mid : Scene) (a : Walked p i model x mid Going n) (less : (model.stage i).made + n < p.bound) (q : Question) (next : Answer → Loaded) (asked : loaded_turn mid.state ≡ asks q next) (ready : ready_for mid.ports q ≡ true) where
      abbrev now : PipeNet Loaded
      now = run_turns p model a.turns

      abbrev behind : List ℕ → PipeNet Loaded
      behind piece = run_turns p model (a.turns ++ turn_at p i piece 0 ∷ [])

      abbrev written : PipeNet Loaded → List ℕ
      written net = gained (last_stage p model) (last_stage p net)

      next-is : next_at p now i ≡ next_of (asks q next)
      next-is = ap next_of (next-turn-is p i shows.turn_is model (in-range g p model shows) x mid y n a less q next asked ready)

      last-is : suc i ≡ p.count → p.count - 1 ≡ i
      last-is at = omega arith

      -- the stages' turns before it
      written-last : suc i ≡ length stages → written now ≡ a.w
      written-last at =
          ap (λ j. gained (model.stage j) (now.stage j)) (last-is (at ∙ sym shows.count_is))
          ∙ gained-made p i shows.turn_is model (in-range g p model shows) x mid y n a less q next asked ready

      written-other : suc i ≢ length stages → written now ≡ []
      written-other apart =
          let away : p.count - 1 ≢ i = λ e. apart (let h = shows.count_is in let r = in-range g p model shows in omega (arith, e)) in
          let output = output_of (last_stage p model) in
          ap (drop (length output)) (run-leaves p i model a.turns (p.count - 1) a.of_stage away ∙ sym (append-nil output))
          ∙ drop-append_seam output []

      -- the sink has what was written in them, where the last stage's call wrote nothing
      takes-written : OtherOutput terms.outlet mid.ports.sink mid.ports.behind sink_now y.ports.behind → (suc i ≡ length stages → sink_now ≡ mid.ports.sink) → Takes sink sink_now (written now)
      takes-written other same = elim (cases_eq (suc i) (length stages)) as (λ _. Takes sink sink_now (written now)) [
        | inl at ↦
            subst (λ (k : Seen (List ℕ) × List ℕ). Takes sink k.0 k.1) (λ j. (sym (same at) j, sym (written-last at) j))
            (subst (λ (l : Outlet). Takes (output_at l sink x.ports.behind) (output_at l mid.ports.sink mid.ports.behind) a.w) (at-last at) a.since.took)
        | inr apart ↦
            subst (λ (k : Seen (List ℕ) × List ℕ). Takes sink k.0 k.1) (λ j. (sym (sink-as-it-was mid a.w a.since other apart) j, sym (written-other apart) j)) (takes-nothing sink)
      ]

      -- ---- one that reads

      module _ (f : FallsAt terms.inlet terms.outlet mid.ports y.ports q ReadFault) where
        abbrev piece : List ℕ
        piece = lost_piece p i shows.turn_is model (in-range g p model shows) x mid y n a less q next asked ready terms.outlet f

        loses-at : LosesPart (input_at terms.inlet x.ports) (input_at terms.inlet y.ports) (input_left (now.stage i)) (input_left ((behind piece).stage i))
        loses-at =
            loses-part (input_at terms.inlet x.ports) (input_at terms.inlet mid.ports) (input_at terms.inlet y.ports) (input_left (now.stage i)) (input_left ((behind piece).stage i)) mid.ports.unix.ahead a.since.lost.0 f.fell.got
            a.since.lost.1 a.since.read f.fell.consumed f.fell.rises
            (ap (λ (k : System). k.console.rest) (system-is p i shows.turn_is model (in-range g p model shows) x mid y n a less q next asked ready))
            (rear-left p i shows.turn_is model (in-range g p model shows) x mid y n a less q next asked ready terms.outlet f)

        out-same : suc i ≡ length stages → sink_now ≡ mid.ports.sink
        out-same at = subst (λ (l : Outlet). output_at l sink_now y.ports.behind ≡ output_at l mid.ports.sink mid.ports.behind) (at-last at) f.fell.out

        fails-reading : FailsReading p now (behind piece) i written source source_now sink sink_now
        fails-reading =
            let first = reads-first mid i refl f.fell.rises in
            record {
              first = first;
              call = next-is ∙ ap (λ m. if m == 4 then reads else if m == 5 then writes else goes_on) f.fell.call;
              input = subst (λ j. LosesPart source source_now (input_left (now.stage j)) (input_left ((behind piece).stage j))) first
                  (subst (λ (l : Inlet). LosesPart (input_at l x.ports) (input_at l y.ports) (input_left (now.stage i)) (input_left ((behind piece).stage i))) ((from-zero g) first) loses-at);
              output = takes-written f.output out-same;
            }

      -- ---- one that writes

      module _ (f : FallsAt terms.inlet terms.outlet mid.ports y.ports q WriteFault) where
        loses-first : i ≡ 0 → LosesRead source source_now (input_left (now.stage 0))
        loses-first is =
            let l = (from-zero g) is in
            let lost : Loses inlet.Source x.ports mid.ports = subst (λ (k : Inlet). Loses k x.ports mid.ports) l a.since.lost in
            let same : source_now ≡ mid.ports.source = subst (λ (k : Inlet). input_at k y.ports ≡ input_at k mid.ports) l f.fell.input in
            let left : input_left (now.stage i) ≡ mid.ports.unix.ahead ++ known mid.ports.source.told =
            ap (λ (k : System). k.console.rest) (system-is p i shows.turn_is model (in-range g p model shows) x mid y n a less q next asked ready)
            ∙ ap (λ (k : Inlet). mid.ports.unix.ahead ++ known (input_at k mid.ports).told) l in
            record {
              got = lost.0;
              ahead = v.new.unix.ahead;
              lost = subst (λ (z : Seen (List ℕ)). Consumes source.told z.told lost.0) (sym same) lost.1;
              is = ap (λ j. input_left (now.stage j)) (sym is) ∙ (left ∙ (λ j. (sym f.fell.same j).ahead ++ known (sym same j).told));
              few = v.short;
              sound = ap (λ (z : Seen (List ℕ)). z.faults) same ∙ subst (λ (k : Inlet). (input_at k mid.ports).faults ≡ (input_at k x.ports).faults) l a.since.read;
            }

        -- the source has what it had, where another stage made the turns
        loses-none : (k : ℕ) → i ≡ suc k → LosesRead source source_now (input_left (now.stage 0))
        loses-none k is =
            let same : source_now ≡ source = subst (λ (l : Inlet). OtherInput l x.ports y.ports) ((from-later g) k is) (input-both terms.inlet x.ports mid.ports y.ports a.since.others.input f.input) in
            let s = found stages 0 (omega (arith, within)) in
            let pipe = found pipes 0 (let h = sound.pipes in omega arith) in
            let sh = shows.stage 0 s.0 pipe.0 s.1 pipe.1 in
            record {
              got = [];
              ahead = s.0.unix.ahead;
              lost = subst (λ (z : Seen (List ℕ)). Consumes source.told z.told []) (sym same) (consumes-nothing source.told);
              is =
                  ap input_left (a.changed.others 0 (λ e. omega (arith, is, e)) (λ e. omega (arith, e)))
                  ∙ (ap (λ (k : System). k.console.rest) sh.system ∙ ap (λ (z : Seen (List ℕ)). s.0.unix.ahead ++ known z.told) (sym same));
              few = (sound.stages 0 s.0 s.1).short;
              sound = ap (λ (z : Seen (List ℕ)). z.faults) same;
            }

        loses-read : (k : ℕ) → i ≡ k → LosesRead source source_now (input_left (now.stage 0))
        loses-read zero is = loses-first is
        loses-read (suc k) is = loses-none k is

        call-is : next_at p now i ≡ writes
        call-is = next-is ∙ ap (λ m. if m == 4 then reads else if m == 5 then writes else goes_on) f.fell.call

        lacks-memory : (suc i ≡ length stages → sink_now ≡ mid.ports.sink) → LacksMemory p now i written source source_now sink sink_now
        lacks-memory same = record { call = call-is; input = loses-read i refl; output = takes-written f.output same }

        abbrev Sinks : Outlet → Type 0
        Sinks o = OneFails (to_write p i shows.turn_is model (in-range g p model shows) x mid y n a less q next asked ready) (parts mid.ports.unix (input_at terms.inlet mid.ports) (output_at o mid.ports.sink mid.ports.behind) (kept_seen mid.ports.errors))
            (parts y.ports.unix (input_at terms.inlet y.ports) (output_at o sink_now y.ports.behind) (kept_seen y.ports.errors))

        abbrev FailsAt : Outlet → Type 0
        FailsAt o = FailsTurn (outside_fault (net_fault_of WriteFault o y.ports.errors.faults)) p now (behind []) i written source source_now sink sink_now

        at-sink : suc i ≡ length stages → Sinks outlet.Sink → FailsAt outlet.Sink
        at-sink at (inl h) =
            let none : y.ports.errors.faults ≡ 0 = ap (λ (z : Seen (List ℕ)). z.faults) h.1 ∙ (a.since.no_faults ∙ (old-sound g).no_faults) in
            let wrote = to_write p i shows.turn_is model (in-range g p model shows) x mid y n a less q next asked ready in
            let some = λ (nothing : wrote.output ≡ []) (no_error : wrote.error_output ≡ []). some-written mid.ports.sink sink_now wrote.output h.0 nothing in
            let took : Takes sink mid.ports.sink a.w = subst (λ (l : Outlet). Takes (output_at l sink x.ports.behind) (output_at l mid.ports.sink mid.ports.behind) a.w) (at-last at) a.since.took in
            let all : written (behind []) ≡ a.w ++ wrote.output =
            ap (λ j. gained (model.stage j) ((behind []).stage j)) (last-is (at ∙ sym shows.count_is))
            ∙ gained-all p i shows.turn_is model (in-range g p model shows) x mid y n a less q next asked ready some in
            subst (λ k. FailsTurn (outside_fault (net_fault_of WriteFault outlet.Sink k)) p now (behind []) i written source source_now sink sink_now) (sym none)
            (record {
              last = at ∙ sym shows.count_is;
              call = call-is;
              input = loses-read i refl;
              output = subst (λ w. FailsBehind sink sink_now w (written (behind []))) (sym (written-last at)) (behind-fails sink mid.ports.sink sink_now a.w wrote.output (written (behind [])) took h.0 all);
            })
        at-sink at (inr h) =
            let one : y.ports.errors.faults ≡ 1 = (let r = h.1.1.rose in let e = a.since.no_faults ∙ (old-sound g).no_faults in omega (arith, r, e)) in
            subst (λ k. FailsTurn (outside_fault (net_fault_of WriteFault outlet.Sink k)) p now (behind []) i written source source_now sink sink_now) (sym one)
            (lacks-memory (λ again. h.0))

        fails-writing : FailsAt terms.outlet
        fails-writing = elim (outlet-is g) as (λ _. FailsAt terms.outlet) [
          | inl last ↦ subst FailsAt (sym last.1) (at-sink last.0 (subst Sinks last.1 f.fell.sinks))
          | inr inner ↦ elim inner as (λ _. FailsAt terms.outlet) [
            | inl done ↦ subst FailsAt (sym done.2) (lacks-memory (λ at. absurd (done.0 at)))
            | inr on ↦ subst FailsAt (sym on.2) (lacks-memory (λ at. absurd (on.0 at)))
          ]
        ]

      -- ---- either

      record Failed (fault : IoFault) : Type 0 where
        piece : List ℕ
        fails : FailsTurn (outside_fault (net_fault_of fault terms.outlet y.ports.errors.faults)) p now (behind piece) i written source source_now sink sink_now
        quiet : (rest : List ℕ) → source.told ≡ Some rest → piece ≡ []

      failed : (fault : IoFault) → FallsAt terms.inlet terms.outlet mid.ports y.ports q fault → Failed fault
      failed ReadFault f = record {
        piece = piece f;
        fails = fails-reading f;
        quiet = lost-quiet p i shows.turn_is model (in-range g p model shows) x mid y n a less q next asked ready terms.outlet f;
      }
      failed WriteFault f = record { piece = []; fails = fails-writing f; quiet = λ rest is. refl }

    pub fails-so : (fault : IoFault) → Executes terms.most x y (Err fault) → v.new.outcome ≡ v.old.outcome → StopsIn p model i m (net_fault_of fault terms.outlet v.new.errors.faults) old new source source_now sink sink_now
    fails-so fault h outcome_is =
        let n = h.0 in
        let mid = h.2 in
        let few : n < terms.most = h.1 in
        let a = walk p i shows.turn_is model (in-range g p model shows) x (stands g p model shows) n mid ((fits-bound g p model shows) n (omega arith)) h.3 in
        let less : (model.stage i).made + n < p.bound = (let k = (fits-bound g p model shows) (suc n) (omega arith) in omega arith) in
        let fell = h.4.3 in
        let at = falls-at x.ports mid.ports y.ports h.4.0 fault a.w a.since fell in
        let failed = failed n mid a less h.4.0 h.4.1 h.4.2 fell.ready fault at in
        record {
          made = a.turns;
          failed = turn_at p i failed.piece 0;
          of_stage = all-of p i shows.turn_is model (in-range g p model shows) x mid y n a less h.4.0 h.4.1 h.4.2 fell.ready failed.piece;
          happen = all-happen p i shows.turn_is model (in-range g p model shows) x mid y n a less h.4.0 h.4.1 h.4.2 fell.ready failed.piece;
          few = let many = a.many in let enough = (few-enough g p model shows) (suc n) (omega arith) in omega arith;
          fails = failed.fails;
          draws = (draws-by g) i refl (loses-both terms.inlet x.ports mid.ports y.ports a.since.lost (fell-loses terms.inlet terms.outlet mid.ports y.ports h.4.0 fault at)) (input-both terms.inlet x.ports mid.ports y.ports a.since.others.input at.input);
          others = λ apart. ap (λ (z : Seen (List ℕ)). z.told) (sink-as-it-was mid a.w a.since at.output (λ e. apart (e ∙ sym shows.count_is)));
          told = λ rest is. nothing-more a.turns (turn_at p i failed.piece 0) (a.quiet rest is) (failed.quiet rest is);
          outcomes = ap (map end_of_stage) v.stages_are ∙ map-set end_of_stage stages i v.old v.new v.stage_is outcome_is;
          errors = λ j apart.
              ap (λ l. slice_get (map bytes_of l) j) v.stages_are
              ∙ (slice_get-map bytes_of (set stages i v.new) j
              ∙ (ap (option_map bytes_of) (set-other stages i j v.new apart) ∙ sym (slice_get-map bytes_of stages j)));
          own_errors = λ bytes is.
              let there : Some (bytes_of v.new) ≡ Some bytes =
              sym (ap (λ l. slice_get (map bytes_of l) i) v.stages_are
              ∙ (slice_get-map bytes_of (set stages i v.new) i ∙ ap (option_map bytes_of) (set-same stages i v.new within))) ∙ is in
              let same : bytes_of v.new ≡ bytes = same_Some (bytes_of v.new) bytes there in
              let model_is : ((run_turns p model a.turns).stage i).system.console.error_output ≡ mid.ports.errors.bytes = ap (λ (k : System). k.console.error_output) a.stands.own.system in
              subst (λ l. IsPartOf ((run_turns p model a.turns).stage i).system.console.error_output l) same
              (subst (λ l. IsPartOf l (bytes_of v.new)) (sym model_is) (errors-part terms.inlet terms.outlet mid.ports y.ports h.4.0 fault at));
        }
