-- Lists of turns, one more at their end.
use Rattle.std.proofs.Common.{◌≡◌, ℕ, ◌+◌, Bool, true, false, if◌then◌else◌, List, [], ◌∷◌, ◌++◌, length, refl, ap, ◌∙◌, length-append, append-nil, append_assoc}
use Rattle.nv_events.specs.Parts.{is_going}
use Rattle.run_definition.specs.Turn.{End, exit, «fault», trap, outcome_of}
use Rattle.jvm_definition.specs.Step.{Loaded}
use Rattle.unix_pipe_laws.specs.Stages.{PipeStage, is_over, with_rest, input_left}
use Rattle.unix_pipe_laws.specs.Pipelines.{Pipeline, PipeNet, can_turn}
use Rattle.unix_pipe_laws.specs.Turns.{PipeTurn, AllHappen, BringNothing, happens, poured, run_turns, turned_net}
use Rattle.pipe_net.specs.Turning.{AreOf}

module _ (p : Pipeline Loaded) where
  pub run-more : (net : PipeNet Loaded) (turns : List PipeTurn) (t : PipeTurn) → run_turns p net (turns ++ t ∷ []) ≡ happens p (run_turns p net turns) t
  run-more net [] t = refl
  run-more net (u ∷ turns) t = run-more (happens p net u) turns t

  pub run-both : (net : PipeNet Loaded) (turns more : List PipeTurn) → run_turns p net (turns ++ more) ≡ run_turns p (run_turns p net turns) more
  run-both net [] more = refl
  run-both net (u ∷ turns) more = run-both (happens p net u) turns more

  pub run-one : (net : PipeNet Loaded) (turns : List PipeTurn) (t : PipeTurn) → can_turn p (run_turns p net turns) t.stage ≡ true
      → run_turns p net (turns ++ t ∷ []) ≡ turned_net p (run_turns p net turns) t
  run-one net turns t can =
      run-more net turns t ∙ ap (λ c. if c then turned_net p (run_turns p net turns) t else run_turns p net turns) can

  pub happen-more : (net : PipeNet Loaded) (turns : List PipeTurn) (t : PipeTurn) → AllHappen p net turns → can_turn p (run_turns p net turns) t.stage ≡ true → AllHappen p net (turns ++ t ∷ [])
  happen-more net [] t all can = (can, tt)
  happen-more net (u ∷ turns) t all can = (all.0, happen-more (happens p net u) turns t all.1 can)

  pub happen-both : (net : PipeNet Loaded) (turns more : List PipeTurn) → AllHappen p net turns → AllHappen p (run_turns p net turns) more → AllHappen p net (turns ++ more)
  happen-both net [] more a b = b
  happen-both net (u ∷ turns) more a b = (a.0, happen-both (happens p net u) turns more a.1 b)

pub of-more : (i : ℕ) (turns : List PipeTurn) (t : PipeTurn) → AreOf i turns → t.stage ≡ i → AreOf i (turns ++ t ∷ [])
of-more i [] t all is = (is, tt)
of-more i (u ∷ turns) t all is = (all.0, of-more i turns t all.1 is)

pub of-end : (i : ℕ) (turns : List PipeTurn) (t : PipeTurn) → AreOf i (turns ++ t ∷ []) → t.stage ≡ i
of-end i [] t all = all.0
of-end i (u ∷ turns) t all = of-end i turns t all.1

pub nothing-more : (turns : List PipeTurn) (t : PipeTurn) → BringNothing turns → t.piece ≡ [] → BringNothing (turns ++ t ∷ [])
nothing-more [] t all is = (is, tt)
nothing-more (u ∷ turns) t all is = (all.0, nothing-more turns t all.1 is)

pub nothing-both : (turns more : List PipeTurn) → BringNothing turns → BringNothing more → BringNothing (turns ++ more)
nothing-both [] more a b = b
nothing-both (u ∷ turns) more a b = (a.0, nothing-both turns more a.1 b)

pub one-more : (turns : List PipeTurn) (t : PipeTurn) → length (turns ++ t ∷ []) ≡ length turns + 1
one-more turns t = length-append turns (t ∷ [])

-- ---- what is poured into a pipe

module _ (bound : ℕ) where
  abbrev filled : List ℕ → PipeStage Loaded → PipeStage Loaded
  filled bytes x = record x { system = with_rest x.system (input_left x ++ bytes) }

  pub poured-over : (bytes : List ℕ) (x : PipeStage Loaded) → is_over bound x ≡ true → poured bound bytes x ≡ x
  poured-over bytes x is = ap (λ c. if c then x else filled bytes x) is

  pub poured-on : (bytes : List ℕ) (x : PipeStage Loaded) → is_over bound x ≡ false → poured bound bytes x ≡ filled bytes x
  poured-on bytes x is = ap (λ c. if c then x else filled bytes x) is

  pub poured-nothing : (x : PipeStage Loaded) → poured bound [] x ≡ x
  poured-nothing x = by-test (is_over bound x)
    where
      by-test : (c : Bool) → (if c then x else filled [] x) ≡ x
      by-test true = refl
      by-test false = ap (λ r. record x { system = with_rest x.system r }) (append-nil (input_left x))

  pub poured-over-stays : (bytes : List ℕ) (x : PipeStage Loaded) → is_over bound (poured bound bytes x) ≡ is_over bound x
  poured-over-stays bytes x = by-test (is_over bound x)
    where
      by-test : (c : Bool) → is_over bound (if c then x else filled bytes x) ≡ is_over bound x
      by-test true = refl
      by-test false = refl

  pub poured-both : (first more : List ℕ) (x : PipeStage Loaded) → poured bound more (poured bound first x) ≡ poured bound (first ++ more) x
  poured-both first more x = by-test (is_over bound x) refl
    where
      by-test : (c : Bool) → is_over bound x ≡ c → poured bound more (if c then x else filled first x) ≡ (if c then x else filled (first ++ more) x)
      by-test true is = poured-over more x is
      by-test false is = poured-on more (filled first x) is ∙ ap (λ r. record x { system = with_rest x.system r }) (append_assoc (input_left x) first more)

-- an end is not going on
pub end-stops : (e : End) → is_going (outcome_of e) ≡ false
end-stops (exit status) = refl
end-stops («fault» f) = refl
end-stops (trap k) = refl
