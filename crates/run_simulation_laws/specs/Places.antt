-- Places that a trail visits: where they rise, none is visited twice.
use Rattle.std.specs.Prelude.{ℕ, ◌+◌, ◌==◌, ◌≤◌, Bool, false, List, [], ◌∷◌, Option, Some, None}
use Rattle.run_simulation_laws.specs.Trail.{Step}

-- each place is further on than the one before it, the first is not before `low`, and all are before `high`
abbrev pub Rises : ℕ → List ℕ → ℕ → Type 0
Rises low [] high = low ≤ high
Rises low (place ∷ places) high = (low ≤ place) × Rises (place + 1) places high

-- the places in which the turns of a trail were made, by the place of a state; None stands for elsewhere
abbrev pub visit : Option ℕ → List ℕ → List ℕ
visit None places = places
visit (Some place) places = place ∷ places

abbrev pub visited : {S : Type 0} → (S → Option ℕ) → List (Step S) → List ℕ
visited place [] = []
visited place (step ∷ steps) = visit (place step.from) (visited place steps)

abbrev pub is_at : ℕ → Option ℕ → Bool
is_at place None = false
is_at place (Some at) = at == place

-- a turn was made at the place
abbrev pub visits : {S : Type 0} → (S → Option ℕ) → ℕ → Step S → Bool
visits place at step = is_at at (place step.from)
