-- The trail of a run: the turns that a machine made, in their order.
use Rattle.std.specs.Prelude.{ℕ, zero, suc, Bool, true, false, if◌then◌else◌, List, [], ◌∷◌, Option, Some, None}
use Rattle.run_definition.specs.Question.{Question}
use Rattle.run_definition.specs.Answer.{Answer}
use Rattle.run_definition.specs.Turn.{Turn, moves, ends, leaves, asks}

-- a turn that was made, and where it led: nowhere, where the machine ended in it, or waits
pub record Step (S : Type 0) : Type 0 where
  pub from : S
  pub to : Option S

abbrev pub went : {S : Type 0} → S → S → Step S
went s t = record { from = s; to = Some t }

abbrev pub stood : {S : Type 0} → S → Step S
stood s = record { from = s; to = None }

-- a turn before the trail that follows it, by the turn, and by the answer that a question got
abbrev pub trail_given : {S K : Type 0} → Option (Answer × K) → (Answer → S) → S
    → (S → K → List (Step S)) → List (Step S)
trail_given None next s more = stood s ∷ []
trail_given (Some given) next s more = went s (next given.0) ∷ more (next given.0) given.1

abbrev pub trail_by : {S K : Type 0} → (K → Question → Option (Answer × K)) → Turn S → S → K
    → (S → K → List (Step S)) → List (Step S)
trail_by reply (moves t) s k more = went s t ∷ more t k
trail_by reply (ends e) s k more = stood s ∷ []
trail_by reply (leaves q e) s k more = stood s ∷ []
trail_by reply (asks q next) s k more = trail_given (reply k q) next s more

-- the trail of the run of at most n turns from a state, over a kind of system state
abbrev pub trail_of : {S K : Type 0} → (S → Turn S) → (K → Question → Option (Answer × K)) → ℕ → S
    → K → List (Step S)
trail_of turn reply zero s k = []
trail_of turn reply (suc n) s k = trail_by reply (turn s) s k (trail_of turn reply n)

-- ---- after the first call

abbrev pub is_call : {S : Type 0} → Turn S → Bool
is_call (moves t) = false
is_call (ends e) = false
is_call (leaves q e) = false
is_call (asks q next) = true

-- what follows the first turn that asks
abbrev pub after_call : {S : Type 0} → (S → Turn S) → List (Step S) → List (Step S)
after_call turn [] = []
after_call turn (step ∷ steps) = if is_call (turn step.from) then steps else after_call turn steps

-- ---- turns that only move

abbrev pub if_moves : {S A : Type 0} → Turn S → A → (S → A) → A
if_moves (moves t) otherwise on = on t
if_moves (ends e) otherwise on = otherwise
if_moves (leaves q e) otherwise on = otherwise
if_moves (asks q next) otherwise on = otherwise

-- the state after n turns, where each of them only moves
abbrev pub advanced : {S : Type 0} → (S → Turn S) → ℕ → S → Option S
advanced turn zero s = Some s
advanced turn (suc n) s = if_moves (turn s) None (advanced turn n)

-- the trail of these turns
abbrev pub moved : {S : Type 0} → (S → Turn S) → ℕ → S → List (Step S)
moved turn zero s = []
moved turn (suc n) s = if_moves (turn s) [] (λ t. went s t ∷ moved turn n t)
