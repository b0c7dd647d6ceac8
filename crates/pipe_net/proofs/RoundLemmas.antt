-- A round of turns: some stage executes an instruction in it.
use Rattle.std.proofs.Common.{◌≡◌, ◌≢◌, inl, inr, Ok, ◌<◌, ◌≤◌, ◌+◌, ℕ, true, false, List, [], ◌∷◌, length, Option, Some, None, refl, ap, sym, ◌∙◌, subst, arith}
use Rattle.std.specs.Prelude.{slice_get}
use Rattle.std.proofs.lemmas.Bool.{true≢false, cases_Bool, cases_eq, cases_lt}
use Rattle.nv_outside.specs.Seen.{Seen}
use Rattle.unix_calls.specs.Drawing.{known}
use Rattle.unix_calls.specs.Held.{system_of}
use Rattle.jvm_definition.specs.Step.{Loaded, loaded_turn}
use Rattle.jvm_machine.specs.Machine.{state_of}
use Rattle.jvm_machine.specs.Counting.{count_of}
use Rattle.unix_pipe_laws.specs.Stages.{PipeStage}
use Rattle.unix_pipe_laws.specs.Pipelines.{Pipeline, PipeNet, can_turn, is_over_at, stands_ready}
use Rattle.unix_pipe_laws.specs.Turns.{PipeTurn, run_turns}
use Rattle.unix_pipe_laws.proofs.Progress.{some-turns}
use Rattle.unix_pipe_laws.proofs.Turning.{can}
use Rattle.pipe_net.specs.declared.net.Net.{Net}
use Rattle.pipe_net.specs.declared.stage.Stage.{Stage}
use Rattle.pipe_net.specs.declared.turn.Turn as turn
use Rattle.pipe_net.specs.declared.turn.Turn.TheVariants.{Ran, Over, Blocked}
use Rattle.pipe_net.specs.declared.pipe.Pipe.{Pipe}
use Rattle.pipe_net.specs.Showing.{IsSound, Shows, ShowsStage, rest_before}
use Rattle.pipe_net.specs.Turning.{LeavesTurns, MakesTurns, turns_left}
use Rattle.pipe_net.specs.Histories.{SomeGoesOn}
use Rattle.pipe_net.proofs.Lists.{found}
use Rattle.pipe_net.proofs.Shown.{over-shown}

-- ---- a model that any net shows

module _ (net : Net) (left : List ℕ) (sound : IsSound net) (some : 0 < length net.stages.items) where
  abbrev pub stage_model : Stage → List ℕ → PipeStage Loaded
  stage_model x rest = record { machine = state_of x.jvm; system = system_of x.unix rest [] x.errors.bytes.items; made = count_of x.jvm; outcome = x.outcome }

  abbrev pub stage_at : ℕ → Stage
  stage_at i = elim (slice_get net.stages.items i) [ None ↦ (found net.stages.items 0 some).0 | Some x ↦ x ]

  abbrev pub pipe_at : ℕ → Pipe
  pipe_at i = elim (slice_get net.pipes.items i) [ None ↦ (found net.pipes.items 0 (let h = sound.pipes in omega arith)).0 | Some x ↦ x ]

  abbrev pub any_pipeline : Pipeline Loaded
  any_pipeline = record {
    turn = loaded_turn;
    count = length net.stages.items;
    machines = λ i. state_of (stage_at i).jvm;
    systems = λ i. (stage_model (stage_at i) []).system;
    input = [];
    c = net.c;
    bound = net.bound;
  }

  abbrev pub any_model : PipeNet Loaded
  any_model = record {
    stage = λ i. stage_model (stage_at i) (rest_before i left (pipe_at i));
    ahead = λ i. length (stage_at i).unix.ahead;
  }

  stage-at : (i : ℕ) (x : Stage) → slice_get net.stages.items i ≡ Some x → stage_at i ≡ x
  stage-at i x is = ap (λ (o : Option Stage). elim o [ None ↦ (found net.stages.items 0 some).0 | Some z ↦ z ]) is

  pipe-at : (i : ℕ) (x : Pipe) → slice_get net.pipes.items i ≡ Some x → pipe_at i ≡ x
  pipe-at i x is = ap (λ (o : Option Pipe). elim o [ None ↦ (found net.pipes.items 0 (let h = sound.pipes in omega arith)).0 | Some z ↦ z ]) is

  pub any-shows : Shows net left any_pipeline any_model
  any-shows = record {
    turn_is = refl;
    count_is = refl;
    c_is = refl;
    bound_is = refl;
    stage = λ i x pipe is there.
        let itself : ShowsStage x (rest_before i left pipe) (stage_model x (rest_before i left pipe)) (length x.unix.ahead) = record { machine = refl; system = refl; made = refl; outcome = refl; read_ahead = refl } in
        subst (λ (k : Stage × Pipe). ShowsStage x (rest_before i left pipe) (stage_model k.0 (rest_before i left k.1)) (length k.0.unix.ahead))
        (λ j. (sym (stage-at i x is) j, sym (pipe-at i pipe there) j)) itself;
  }

-- ---- a turn of a stage that can make one

no-turns : (turns : List PipeTurn) → length turns ≡ 0 → turns ≡ []
no-turns [] h = refl
no-turns (t ∷ turns) h = absurd (omega arith)

module _ (p : Pipeline Loaded) (model : PipeNet Loaded) (i m : ℕ) (new : Net) (source source_now sink sink_now : Seen (List ℕ)) where
  pub ran-if-can : (t : turn.Turn) → MakesTurns p model i m t new source source_now sink sink_now → can_turn p model i ≡ true → (k : ℕ) × (t ≡ Ran k)
  ran-if-can (Ran k) h c = (k, refl)
  ran-if-can Over h c =
      let over : is_over_at p model i ≡ true = subst (λ (l : List PipeTurn). is_over_at p (run_turns p model l) i ≡ true) (no-turns h.turns h.comes.0) h.comes.1 in
      absurd (true≢false (sym over ∙ (can p model i c).going))
  ran-if-can Blocked h c =
      let waits : stands_ready p model i ≡ false = subst (λ (l : List PipeTurn). stands_ready p (run_turns p model l) i ≡ false) (no-turns h.turns h.comes.0) h.comes.2 in
      absurd (true≢false (sym (can p model i c).ready ∙ waits))

  abbrev pub StillShows : Type 0
  StillShows = Shows new (known source_now.told) p model × (can_turn p model i ≡ false)

  cannot : (t : turn.Turn) → MakesTurns p model i m t new source source_now sink sink_now → ((k : ℕ) → t ≢ Ran k) → can_turn p model i ≡ false
  cannot t h apart = elim (cases_Bool (can_turn p model i)) [
    | inl is ↦ let ran = ran-if-can t h is in absurd (apart ran.0 ran.1)
    | inr is ↦ is
  ]

  still : (t : turn.Turn) → (h : MakesTurns p model i m t new source source_now sink sink_now) → length h.turns ≡ 0 → Shows new (known source_now.told) p model
  still t h none = subst (λ (l : List PipeTurn). Shows new (known source_now.told) p (run_turns p model l)) (no-turns h.turns none) h.shows

  -- a turn that executed nothing
  pub stays-so : (t : turn.Turn) (before now : ℕ) → MakesTurns p model i m t new source source_now sink sink_now → LeavesTurns before now (Ok t) → now ≡ before → StillShows
  stays-so (Ran k) before now h left same = let some = h.comes.1 in absurd (omega arith)
  stays-so Over before now h left same = (still Over h h.comes.0, cannot Over h (λ k e. cc))
  stays-so Blocked before now h left same = (still Blocked h h.comes.0, cannot Blocked h (λ k e. cc))

-- ---- a round

-- after turns of the first i stages, in which nothing was executed, the net shows what it showed, and none of them can make a turn
abbrev pub NoneRan : Net → Seen (List ℕ) → Net → Seen (List ℕ) → ℕ → Type 0
NoneRan old source net source_now i = (p : Pipeline Loaded) (model : PipeNet Loaded) → Shows old (known source.told) p model
    → Shows net (known source_now.told) p model × ((j : ℕ) → j < i → can_turn p model j ≡ false)

-- they cannot all be so
pub some-ran : (old net : Net) (source source_now : Seen (List ℕ)) → IsSound old → SomeGoesOn old → turns_left net ≤ turns_left old
    → (turns_left net ≡ turns_left old → NoneRan old source net source_now (length old.stages.items)) → turns_left net < turns_left old
some-ran old net source source_now sound going few none = elim (cases_lt (turns_left net) (turns_left old)) [
  | inl less ↦ less
  | inr same ↦
      let some : 0 < length old.stages.items = (let h = going.1 in omega arith) in
      let p = any_pipeline old (known source.told) sound some in
      let model = any_model old (known source.told) sound some in
      let shows = any-shows old (known source.told) sound some in
      let turns = some-turns p model going.0 going.1 (over-shown old (known source.told) p model shows sound going.0 going.1 ∙ going.2) in
      let cannot_turn = (none (omega arith) p model shows).1 turns.0 (can p model turns.0 turns.1).within in
      absurd (true≢false (sym turns.1 ∙ cannot_turn))
]

-- one turn more
pub none-ran-more : (old mid new : Net) (source source_mid source_now sink_mid sink_now : Seen (List ℕ)) (i m : ℕ) (t : turn.Turn) → NoneRan old source mid source_mid i
    → ((p : Pipeline Loaded) (model : PipeNet Loaded) → Shows mid (known source_mid.told) p model → MakesTurns p model i m t new source_mid source_now sink_mid sink_now)
    → LeavesTurns (turns_left mid) (turns_left new) (Ok t) → turns_left new ≡ turns_left mid → NoneRan old source new source_now (i + 1)
none-ran-more old mid new source source_mid source_now sink_mid sink_now i m t before makes left same p model shows =
    let b = before p model shows in
    let s = stays-so p model i m new source_mid source_now sink_mid sink_now t (turns_left mid) (turns_left new) (makes p model b.0) left same in (
      s.0,
      λ j h. elim (cases_eq j i) as (λ _. can_turn p model j ≡ false) [
        | inl at ↦ ap (can_turn p model) at ∙ s.1
        | inr apart ↦ b.1 j (omega arith)
      ],
    )

-- no turn raises it
pub left-few : (t : turn.Turn) (before now : ℕ) → LeavesTurns before now (Ok t) → now ≤ before
left-few (Ran k) before now h = omega (arith, h)
left-few Over before now h = omega (arith, h)
left-few Blocked before now h = omega (arith, h)
