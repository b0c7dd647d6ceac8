-- What holds of the runs of two machines.
use Rattle.std.specs.Prelude.{◌≡◌, ℕ, ◌+◌, ◌*◌, ◌<◌, ◌≤◌, true, false, List, ◌++◌, length, Option}
use Rattle.std.specs.List.{sum_by, count_by}
use Rattle.run_definition.specs.Question.{Question}
use Rattle.run_definition.specs.Answer.{Answer, next_answer}
use Rattle.run_definition.specs.Turn.{Turn, End}
use Rattle.run_definition.specs.Run.{Run, run_of}
use Rattle.run_definition.specs.declared.outcome.Outcome.TheVariants.{Going}
use Rattle.run_simulation_laws.specs.Trail.{Step, trail_of, after_call, advanced, moved}
use Rattle.run_simulation_laws.specs.Turns.{Pair, Passes, Follows, LawOfTurn, LawOfMarks, Translates}
use Rattle.run_simulation_laws.specs.Runs.{SameRuns, SameCalls, ComesBy, allowance}
use Rattle.run_simulation_laws.specs.Places.{Rises, visited, visits}
use Rattle.run_simulation_laws.specs.Meter.{metered, IsMetered}

-- ---- classes that follow a guest

-- A guest that begins with a call and classes that follow it, with the states in which both begin.
pub record Followed (G J I : Type 0) (Rests : G → J → Type 0) : Type 0 where
  pub machines : Pair G J I
  pub most : ℕ
  pub start : ℕ
  pub allowed : I → ℕ
  pub guest_at : G
  pub classes_at : J
  pub follows : Translates machines Rests most start allowed guest_at classes_at

module _ {G J I : Type 0} {Rests : G → J → Type 0} (f : Followed G J I Rests) where
  -- the guest's run over answers, its trail, and the trail of the classes
  abbrev pub followed_run : ℕ → List Answer → Run G (List Answer)
  followed_run n answers = run_of f.machines.guest next_answer n f.guest_at answers

  abbrev pub trail_of_guest : ℕ → List Answer → List (Step G)
  trail_of_guest n answers = trail_of f.machines.guest next_answer n f.guest_at answers

  abbrev pub trail_of_classes : ℕ → List Answer → List (Step J)
  trail_of_classes n answers = trail_of f.machines.classes next_answer n f.classes_at answers

  -- both run the same for every list of answers and every bound, both ways
  abbrev pub RunTheSame : Type 0
  RunTheSame =
      (answers : List Answer)
      → SameRuns f.machines.guest f.machines.classes next_answer (allowance f.most f.start)
      f.guest_at f.classes_at answers

  -- What the classes count is at most what the guest does, and what loading allows.
  pub record CountNoMore : Type 0 where
    -- so it is in as many turns, after the first call of each
    pub behind_call : (i : I) (m : ℕ) (answers : List Answer)
        → sum_by (f.machines.tally i).classes
        (after_call f.machines.classes (trail_of_classes m answers))
        ≤ f.allowed i + sum_by (f.machines.tally i).guest
        (after_call f.machines.guest (trail_of_guest m answers))
    -- where nothing is counted up to the call, that is all that the classes count
    pub all : (weight : Step J → ℕ)
        → sum_by weight (moved f.machines.classes f.follows.loads.class_turns f.classes_at) ≡ 0
        → ((to : Option J) → weight (record { from = f.follows.loads.class_at; to = to }) ≡ 0)
        → (m : ℕ) (answers : List Answer)
        → sum_by weight (trail_of_classes m answers)
        ≡ sum_by weight (after_call f.machines.classes (trail_of_classes m answers))

  -- Where the guest goes on at a marked state, after one turn at least, the classes come to its
  -- place with the same questions, within the allowance for a turn more.
  abbrev pub ComeToMarks : (G → J → Type 0) → Type 0
  ComeToMarks AtPlace =
      LawOfMarks f.machines Rests AtPlace f.most
      → (n : ℕ) (answers : List Answer)
      → 1 ≤ n
      → (followed_run n answers).outcome ≡ Going
      → f.machines.marked (followed_run n answers).last ≡ true
      → ComesBy f.machines.classes next_answer (allowance f.most f.start (n + 1))
      (AtPlace (followed_run n answers).last) (followed_run n answers).questions f.classes_at
      answers

-- ---- machines that begin otherwise than with a call

-- A guest and classes that follow it from the first turn on, with the states in which both begin
-- and a limit for the start.
pub record FollowedFromStart (G J I : Type 0) (Rests : G → J → Type 0) : Type 0 where
  pub machines : Pair G J I
  pub most : ℕ
  pub start : ℕ
  pub guest_at : G
  pub classes_at : J
  pub turns : LawOfTurn machines Rests most
  pub begins : Follows machines Rests (λ k. start + 2 * most) guest_at classes_at

-- The whole runs are the same and are counted, and the start's credit is the constant.
pub record RunFromStart {G J I : Type 0} {Rests : G → J → Type 0}
    (f : FollowedFromStart G J I Rests) : Type 0 where
  pub same : (answers : List Answer)
      → SameRuns f.machines.guest f.machines.classes next_answer (allowance f.most f.start)
      f.guest_at f.classes_at answers
  pub counts : (i : I) (m : ℕ) (answers : List Answer)
      → sum_by (f.machines.tally i).classes
      (trail_of f.machines.classes next_answer m f.classes_at answers)
      ≤ (f.machines.tally i).credit f.classes_at + sum_by (f.machines.tally i).guest
      (trail_of f.machines.guest next_answer m f.guest_at answers)

-- ---- over a kind of system state

-- What two machines do the same for every list of answers they do over a kind of system state.
pub record SameOverSystem (G J : Type 0) {K : Type 0} (reply : K → Question → Option (Answer × K))
    : Type 0 where
  -- where they ask the same and end in the same way, they leave the system in the same state too
  pub calls : (guest : G → Turn G) (classes : J → Turn J) (allowed : ℕ → ℕ) (g : G) (j : J)
      → ((answers : List Answer) → SameCalls guest classes next_answer allowed g j answers)
      → (k : K) → SameRuns guest classes reply allowed g j k
  pub runs : (guest : G → Turn G) (classes : J → Turn J) (allowed : ℕ → ℕ) (g : G) (j : J)
      → ((answers : List Answer) → SameRuns guest classes next_answer allowed g j answers)
      → (k : K) → SameRuns guest classes reply allowed g j k

-- ---- turns

-- The first n turns only move, from s to t: what follows is what the machine does from t on.
pub record MovesComeFirst {S : Type 0} (turn : S → Turn S) (n : ℕ) (s t : S) : Type 0 where
  pub moves : (m : ℕ) → advanced turn (n + m) s ≡ advanced turn m t
  pub steps : (m : ℕ) → moved turn (n + m) s ≡ moved turn n s ++ moved turn m t
  pub runs : (m : ℕ) (answers : List Answer)
      → run_of turn next_answer (n + m) s answers ≡ run_of turn next_answer m t answers
  pub trails : (m : ℕ) (answers : List Answer)
      → trail_of turn next_answer (n + m) s answers
      ≡ moved turn n s ++ trail_of turn next_answer m t answers

-- Parts of a turn, and the turns that they make.
pub record PartsMakeTurns {G J I : Type 0} (p : Pair G J I) (Rests : G → J → Type 0) : Type 0 where
  -- two parts, one after the other, are a part
  pub joined : (k n more later : ℕ) (g h i : G) (j l m : J)
      → Passes p k n g j h l
      → (1 ≤ k → p.marked h ≡ false)
      → Passes p more later h l i m
      → Passes p (k + more) (n + later) g j i m
  -- a part before turns that follow makes turns that follow, within what both take
  pub before : (k n : ℕ) (g h : G) (j l : J) (limit wider : ℕ → ℕ)
      → Passes p k n g j h l
      → (1 ≤ k → p.marked h ≡ false)
      → Follows p Rests limit h l
      → ((x : ℕ) → n + limit x ≤ wider (k + x))
      → Follows p Rests wider g j
  -- a part that ends at rest, with one turn of the guest at least, is turns that follow
  pub at_rest : (k n : ℕ) (g h : G) (j l : J) (limit : ℕ → ℕ)
      → Passes p (k + 1) n g j h l
      → Rests h l
      → n ≤ limit (k + 1)
      → Follows p Rests limit g j

-- Trails whose places rise, by the place of a state.
pub record RisingTrails {S : Type 0} (place : S → Option ℕ) : Type 0 where
  -- each place is visited at most once
  pub once : (low high : ℕ) (trail : List (Step S)) → Rises low (visited place trail) high
      → (at : ℕ) → count_by (visits place at) trail ≤ 1
  -- no more places are visited than lie between the ends
  pub many : (low high : ℕ) (trail : List (Step S)) → Rises low (visited place trail) high
      → low + length (visited place trail) ≤ high
  -- trails of which each begins where the one before it ends rise as a whole
  pub joined : (low middle high : ℕ) (first next : List (Step S))
      → Rises low (visited place first) middle
      → Rises middle (visited place next) high
      → Rises low (visited place (first ++ next)) high

-- ---- meters

-- A guest with a meter, and classes that run the same as it.
pub record MeteredRuns {G : Type 0} (J : Type 0) (turn : G → Turn G) (spent : G → End)
    : Type 0 where
  -- the guest runs as it does without the meter for so many turns, and then ends so
  pub guest : (n m : ℕ) (g : G) (answers : List Answer) → n < m
      → IsMetered spent (run_of turn next_answer n g answers)
      (run_of (metered turn spent) next_answer m (n, g) answers)
  -- the classes, within an allowance for one turn more, have exactly these questions and this end
  pub classes : (classes : J → Turn J) (allowed : ℕ → ℕ) (n m : ℕ) (g : G) (j : J)
      (answers : List Answer)
      → SameRuns (metered turn spent) classes next_answer allowed (n, g) j answers
      → allowed (n + 1) ≤ m
      → IsMetered spent (run_of turn next_answer n g answers)
      (run_of classes next_answer m j answers)
