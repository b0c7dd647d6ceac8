-- A turn of a stage in which no call failed, over the model of its net.
use Rattle.std.proofs.Common.{◌≡◌, ◌≢◌, ◌⊎◌, ◌<◌, ◌≤◌, ◌+◌, inl, inr, ℕ, zero, suc, Bool, true, false, not, ◌||◌, nat_le, if◌then◌else◌, List, [], ◌++◌, length, drop, Some, Ok, refl, ap, sym, ◌∙◌, subst, arith, append_assoc}
use Rattle.std.specs.Prelude.{slice_get}
use Rattle.std.specs.Io.KnownBytes.{Appends}
use Rattle.std.proofs.Math.Seq.{drop-append_seam}
use Rattle.std.proofs.lemmas.Bool.{cases_eq, ne_eqb, le-leb}
use Rattle.std.proofs.lemmas.Option.{slice_get_within}
use Rattle.nv_outside.specs.Seen.{Seen}
use Rattle.nv_events.specs.Parts.{is_going}
use Rattle.nv_events.specs.Serving.{Turns}
use Rattle.run_definition.specs.Turn.{Turn, moves, ends, leaves, asks}
use Rattle.run_definition.specs.declared.outcome.Outcome.{Outcome}
use Rattle.run_definition.specs.declared.outcome.Outcome.TheVariants.{Going, Waiting}
use Rattle.unix_calls.specs.Drawing.{known}
use Rattle.unix_calls.specs.Held.{system_of}
use Rattle.jvm_machine.specs.Counting.{count_of}
use Rattle.jvm_definition.specs.Step.{Loaded, loaded_turn}
use Rattle.unix_pipe_laws.specs.Stages.{PipeStage, input_left, output_of, with_rest}
use Rattle.unix_pipe_laws.specs.Pipelines.{Pipeline, PipeNet, is_over_at, is_ready, next_turn, stands_ready}
use Rattle.unix_pipe_laws.specs.Turns.{gained, run_turns}
use Rattle.pipe_net.specs.declared.executed.Stop.{Stop}
use Rattle.pipe_net.specs.declared.executed.Stop.TheVariants.{Most, NotReady, Ended}
use Rattle.pipe_net.specs.declared.pipe.Pipe.{Pipe}
use Rattle.pipe_net.specs.declared.stage.Stage.{Stage}
use Rattle.pipe_net.specs.declared.turn.Turn as turn
use Rattle.pipe_net.specs.declared.turn.Turn.TheVariants.{Ran, Blocked}
use Rattle.pipe_net.specs.Ports.{GoesThrough, Waits}
use Rattle.pipe_net.specs.Executing.{Falls, Scene, Stops, StandsBefore, Walks}
use Rattle.pipe_net.specs.Settling.{outcome_behind, turn_of}
use Rattle.pipe_net.specs.Showing.{Shows, ShowsStage, rest_before}
use Rattle.pipe_net.specs.Turning.{ComesTo, MakesTurns, TakesOutput}
use Rattle.pipe_net.proofs.Turns.{end-stops, poured-on, poured-over}
use Rattle.pipe_net.proofs.Standing.{Stands, ready-alike}
use Rattle.pipe_net.proofs.Stepping.{behind-grows}
use Rattle.pipe_net.proofs.Walking.{Walked, walk, walk-to-end}
use Rattle.pipe_net.proofs.Moved.{Moved, scene_before, scene_behind, stage-new, stage-old, pipe-before, pipe-behind, pipe-old, stages-kept, outlet-is, most-is, draws-by, source-stays, sink-stays, took-last, behind-stays}
use Rattle.pipe_net.proofs.Modelled.{shown, over-at, not-over, model-going, count-few, rest-by, stands, in-range, fits-bound, few-enough, some-most}

either : {P Q R : Type 0} → P ⊎ Q → P ⊎ (Q ⊎ R)
either (inl p) = inl p
either (inr q) = inr (inl q)

-- an end is none of those behind which a stage goes on
pub ended-turn : (t : Turn Loaded) (x y : Scene) (o : Outcome) → o ≢ Waiting → Turns GoesThrough Waits Falls t x.state y.state x.ports y.ports (Ok (Some o)) → is_going o ≡ false
ended-turn (moves u) x y o apart h = absurd h
ended-turn (ends e) x y o apart h = ap is_going h.0 ∙ end-stops e
ended-turn (leaves q e) x y o apart h = ap is_going h.0 ∙ end-stops e
ended-turn (asks q next) x y o apart h = absurd (apart h.0)

-- a stage that made no turn is over where it was
still-as : (p : Pipeline Loaded) (i : ℕ) (model now : PipeNet Loaded) → (now.stage i).made ≡ (model.stage i).made → (now.stage i).outcome ≡ (model.stage i).outcome → is_over_at p now i ≡ is_over_at p model i
still-as p i model now made outcome = λ j. not (is_going (outcome j)) || nat_le p.bound (made j)

module _ (g : Moved) where
  open g use {old, new, i, m, terms, source, source_now, sink, sink_now, result, sound, within, some, going, are, v, same_c, same_bound}

  abbrev x : Scene
  x = scene_before g

  abbrev y : Scene
  y = scene_behind g

  abbrev stages : List Stage
  stages = old.stages.items

  abbrev pipes : List Pipe
  pipes = old.pipes.items

  module _ (p : Pipeline Loaded) (model : PipeNet Loaded) (shows : Shows old (known source.told) p model) where
    -- ---- so many instructions came to a scene

    module _ (n : ℕ) (o : Outcome) (a : Walked p i model x y o n) (count_is : count_of v.new.jvm ≡ count_of v.old.jvm + n) (outcome_is : v.new.outcome ≡ o) where
      abbrev now : PipeNet Loaded
      now = run_turns p model a.turns

      own-shown : ShowsStage v.new (rest_before i (known source_now.told) v.before_now) (now.stage i) (now.ahead i)
      own-shown = record {
        machine = a.stands.own.machine;
        system = a.stands.own.system ∙ sym (ap (λ r. system_of v.new.unix r (output_of (now.stage i)) v.new.errors.bytes.items) ((rest-by g p model shows) i terms.inlet source_now v.before_now y.ports are.inlet refl refl));
        made = a.made ∙ (ap (λ k. k + n) (shown g p model shows).made ∙ sym count_is);
        outcome = a.stands.own.ended ∙ sym outcome_is;
        read_ahead = a.stands.ahead;
      }

      -- the stage behind has what was written
      next-shown : (s : Stage) → slice_get stages (suc i) ≡ Some s → ShowsStage s v.behind_now.bytes.items (now.stage (suc i)) (now.ahead (suc i))
      next-shown s is =
          let sh = shows.stage (suc i) s v.behind is v.behind_is in
          let long = a.changed.aheads (suc i) (λ e. omega arith) ∙ sh.read_ahead in
          elim (outlet-is g) [
            | inl last ↦ let h = slice_get_within stages (suc i) s is in let e = last.0 in absurd (omega arith)
            | inr inner ↦ elim inner [
              | inl done ↦
                  let h = slice_get_within stages (suc i) s is in
                  let same : now.stage (suc i) ≡ model.stage (suc i) = a.changed.next ∙ poured-over p.bound a.w (model.stage (suc i)) ((over-at g p model shows) (suc i) h ∙ done.1) in
                  let stays = (behind-stays g) a.w a.since done in
                  record {
                    machine = ap (λ (z : PipeStage Loaded). z.machine) same ∙ sh.machine;
                    system = (λ j. (same j).system) ∙ (sh.system ∙ (λ j. system_of s.unix (sym stays j) (output_of (sym same j)) s.errors.bytes.items));
                    made = ap (λ (z : PipeStage Loaded). z.made) same ∙ sh.made;
                    outcome = ap (λ (z : PipeStage Loaded). z.outcome) same ∙ sh.outcome;
                    read_ahead = long;
                  }
              | inr on ↦
                  let h = slice_get_within stages (suc i) s is in
                  let z = model.stage (suc i) in
                  let same : now.stage (suc i) ≡ record z { system = with_rest z.system (input_left z ++ a.w) } = a.changed.next ∙ poured-on p.bound a.w z ((over-at g p model shows) (suc i) h ∙ on.1) in
                  let grows : v.behind_now.bytes.items ≡ v.behind.bytes.items ++ a.w = behind-grows x.ports y.ports a.w a.since on.2 in
                  let filled : with_rest z.system (input_left z ++ a.w) ≡ system_of s.unix v.behind_now.bytes.items (output_of z) s.errors.bytes.items =
                  (λ j. with_rest (sh.system j) ((sh.system j).console.rest ++ a.w))
                  ∙ ap (λ r. with_rest (system_of s.unix [] (output_of z) s.errors.bytes.items) r) (append_assoc s.unix.ahead v.behind.bytes.items a.w ∙ ap (λ r. s.unix.ahead ++ r) (sym grows)) in
                  record {
                    machine = ap (λ (k : PipeStage Loaded). k.machine) same ∙ sh.machine;
                    system = (λ j. (same j).system) ∙ (filled ∙ (λ j. system_of s.unix v.behind_now.bytes.items (output_of (sym same j)) s.errors.bytes.items));
                    made = ap (λ (k : PipeStage Loaded). k.made) same ∙ sh.made;
                    outcome = ap (λ (k : PipeStage Loaded). k.outcome) same ∙ sh.outcome;
                    read_ahead = long;
                  }
            ]
          ]

      -- the input of the others has not changed
      rest-other : (j k : ℕ) (pipe : Pipe) → i ≡ k → j ≢ i → rest_before j (known source_now.told) pipe ≡ rest_before j (known source.told) pipe
      rest-other zero zero pipe is apart = absurd (apart (sym is))
      rest-other zero (suc k) pipe is apart = ap (λ (z : Seen (List ℕ)). known z.told) ((source-stays g) a.w a.since k is)
      rest-other (suc j) k pipe is apart = refl

      other-shown : (j : ℕ) (s : Stage) (pipe : Pipe) → slice_get stages j ≡ Some s → slice_get pipes j ≡ Some pipe → j ≢ i → j ≢ suc i → ShowsStage s (rest_before j (known source_now.told) pipe) (now.stage j) (now.ahead j)
      other-shown j s pipe is there apart away =
          let sh = shows.stage j s pipe is there in
          subst (λ r. ShowsStage s r (now.stage j) (now.ahead j)) (sym (rest-other j i pipe refl apart))
          (subst (λ (k : PipeStage Loaded). ShowsStage s (rest_before j (known source.told) pipe) k (now.ahead j)) (sym (a.changed.others j apart away))
          (subst (λ k. ShowsStage s (rest_before j (known source.told) pipe) (model.stage j) k) (sym (a.changed.aheads j apart)) sh))

      shows-now : Shows new (known source_now.told) p now
      shows-now = record {
        turn_is = shows.turn_is;
        count_is = shows.count_is ∙ sym (stages-kept g);
        c_is = shows.c_is ∙ sym same_c;
        bound_is = shows.bound_is ∙ sym same_bound;
        stage = λ j s pipe is there. elim (cases_eq j i) [
          | inl at ↦
              subst (λ (z : Stage). ShowsStage z (rest_before j (known source_now.told) pipe) (now.stage j) (now.ahead j)) (sym ((stage-new g) j s is at))
              (subst (λ (z : Pipe). ShowsStage v.new (rest_before j (known source_now.told) z) (now.stage j) (now.ahead j)) (sym ((pipe-before g) j pipe there at))
              (subst (λ k. ShowsStage v.new (rest_before k (known source_now.told) v.before_now) (now.stage k) (now.ahead k)) (sym at) own-shown))
          | inr apart ↦ elim (cases_eq j (suc i)) [
            | inl at ↦
                subst (λ (z : Pipe). ShowsStage s (rest_before j (known source_now.told) z) (now.stage j) (now.ahead j)) (sym ((pipe-behind g) j pipe there at))
                (subst (λ k. ShowsStage s (rest_before k (known source_now.told) v.behind_now) (now.stage k) (now.ahead k)) (sym at)
                (next-shown s (ap (slice_get stages) (sym at) ∙ (stage-old g) j s is apart)))
            | inr away ↦ other-shown j s pipe ((stage-old g) j s is apart) ((pipe-old g) j pipe there apart away) apart away
          ]
        ];
      }

      gained-is : gained (model.stage i) (now.stage i) ≡ a.w
      gained-is = ap (drop (length (output_of (model.stage i)))) a.changed.output ∙ drop-append_seam (output_of (model.stage i)) a.w

      takes-output : TakesOutput p model now i sink sink_now
      takes-output = record {
        last = λ at. subst (λ l. Appends sink.told sink_now.told l) (sym gained-is) ((took-last g) a.w a.since (at ∙ shows.count_is));
        others = λ apart. ap (λ (z : Seen (List ℕ)). z.told) ((sink-stays g) a.w a.since (λ e. apart (e ∙ sym shows.count_is)));
      }

      pub makes-turns : (t : turn.Turn) → ComesTo p now i m n t → MakesTurns p model i m t new source source_now sink sink_now
      makes-turns t comes = record {
        turns = a.turns;
        of_stage = a.of_stage;
        happen = a.happen;
        comes = subst (λ k. ComesTo p now i m k t) (sym a.many) comes;
        shows = shows-now;
        draws = (draws-by g) i refl a.since.lost a.since.others.input;
        takes = takes-output;
        told = a.quiet;
      }

    -- ---- how the execution stopped

    turn-some : (k : ℕ) → turn_of (suc k) ≡ Ran (suc k)
    turn-some k = ap (λ b. if b then Blocked else Ran (suc k)) (ne_eqb (suc k) 0 (λ e. omega arith))

    as-ran : (k : ℕ) → MakesTurns p model i m (Ran (suc k)) new source source_now sink sink_now → MakesTurns p model i m (turn_of (suc k)) new source source_now sink sink_now
    as-ran k h = subst (λ (t : turn.Turn). MakesTurns p model i m t new source source_now sink sink_now) (sym (turn-some k)) h

    -- it made all that it was to make: m, or all up to its bound
    all-made : (n : ℕ) (now : PipeNet Loaded) → n ≡ terms.most → (now.stage i).made ≡ (model.stage i).made + n → (n ≡ m) ⊎ (is_over_at p now i ≡ true)
    all-made n now is made = elim (cases_eq n m) [
      | inl all ↦ inl all
      | inr apart ↦
          let full : p.bound ≤ (now.stage i).made = (let few = (count-few g p model shows) in omega (arith, (most-is g), (shown g p model shows).made, shows.bound_is)) in
          inr (or-second (not (is_going (now.stage i).outcome)) (nat_le p.bound (now.stage i).made) (le-leb p.bound (now.stage i).made full))
    ]
      where
        or-second : (b c : Bool) → c ≡ true → (b || c) ≡ true
        or-second true c is = refl
        or-second false c is = is

    over-ended : (now : PipeNet Loaded) (o : Outcome) → (now.stage i).outcome ≡ o → is_going o ≡ false → is_over_at p now i ≡ true
    over-ended now o is ended = (λ j. not (is_going (is j)) || nat_le p.bound (now.stage i).made) ∙ ap (λ b. not b || nat_le p.bound (now.stage i).made) ended

    not-ready : (now : PipeNet Loaded) → Stands p i now y Going → StandsBefore y → stands_ready p now i ≡ false
    not-ready now s before =
        let e : next_turn p now i ≡ asks before.0 before.1 = (λ j. shows.turn_is j (s.own.machine j)) ∙ before.2 in
        ap (is_ready p now i) e ∙ (ready-alike p i now y Going before.0 before.1 s ∙ before.3)

    pub stops-so : (n : ℕ) (stop : Stop) → Stops terms.most x y n stop → count_of v.new.jvm ≡ count_of v.old.jvm + n → v.new.outcome ≡ outcome_behind v.old.outcome stop → MakesTurns p model i m (turn_of n) new source source_now sink sink_now
    stops-so n Most h count_is outcome_is = by-number n h.0 h.1 count_is
      where
        by-number : (k : ℕ) → k ≡ terms.most → Walks k x y → count_of v.new.jvm ≡ count_of v.old.jvm + k → MakesTurns p model i m (turn_of k) new source source_now sink sink_now
        by-number zero all walks counts = let one = (some-most g p model shows) in absurd (omega arith)
        by-number (suc k) all walks counts =
            let a = walk p i shows.turn_is model (in-range g p model shows) x (stands g p model shows) (suc k) y ((fits-bound g p model shows) (suc k) (omega arith)) walks in
            as-ran k (makes-turns (suc k) Going a counts (outcome_is ∙ (sym (shown g p model shows).outcome ∙ (model-going g p model shows))) (Ran (suc k))
            (refl, omega arith, (few-enough g p model shows) (suc k) (omega arith), either (all-made (suc k) (run_turns p model a.turns) all a.made)))
    stops-so n NotReady h count_is outcome_is = by-number n h.0 h.1 count_is
      where
        by-number : (k : ℕ) → k < terms.most → Walks k x y → count_of v.new.jvm ≡ count_of v.old.jvm + k → MakesTurns p model i m (turn_of k) new source source_now sink sink_now
        by-number zero few walks counts =
            let a = walk p i shows.turn_is model (in-range g p model shows) x (stands g p model shows) zero y ((fits-bound g p model shows) zero (omega arith)) walks in
            let now = run_turns p model a.turns in
            let still : is_over_at p now i ≡ false = still-as p i model now (a.made ∙ (omega arith)) (a.stands.own.ended ∙ sym (model-going g p model shows)) ∙ (not-over g p model shows) in
            makes-turns zero Going a counts (outcome_is ∙ (sym (shown g p model shows).outcome ∙ (model-going g p model shows))) Blocked
            (refl, still, not-ready now a.stands h.2)
        by-number (suc k) few walks counts =
            let a = walk p i shows.turn_is model (in-range g p model shows) x (stands g p model shows) (suc k) y ((fits-bound g p model shows) (suc k) (omega arith)) walks in
            as-ran k (makes-turns (suc k) Going a counts (outcome_is ∙ (sym (shown g p model shows).outcome ∙ (model-going g p model shows))) (Ran (suc k))
            (refl, omega arith, (few-enough g p model shows) (suc k) (omega arith), inr (inr (not-ready (run_turns p model a.turns) a.stands h.2))))
    stops-so n (Ended o) h count_is outcome_is =
        let k = h.0 in
        let a = walk-to-end p i shows.turn_is model (in-range g p model shows) x (stands g p model shows) k h.3 y o ((fits-bound g p model shows) (suc k) (let e = h.1 in let few = h.2 in omega arith)) h.4 h.5 in
        let now = run_turns p model a.turns in
        let ended : is_going o ≡ false = ended-turn (loaded_turn h.3.state) h.3 y o h.5.1 h.5.0 in
        let counts : count_of v.new.jvm ≡ count_of v.old.jvm + suc k = count_is ∙ ap (λ j. count_of v.old.jvm + j) h.1 in
        subst (λ j. MakesTurns p model i m (turn_of j) new source source_now sink sink_now) (sym h.1)
        (as-ran k (makes-turns (suc k) o a counts outcome_is (Ran (suc k))
        (refl, omega arith, (few-enough g p model shows) (suc k) (let e = h.1 in let few = h.2 in omega arith), inr (inl (over-ended now o a.stands.own.ended ended)))))
