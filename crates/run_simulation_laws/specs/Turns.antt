-- When the turns of one machine, the classes, follow those of another, the guest.
use Rattle.std.specs.Prelude.{◌≡◌, ℕ, ◌+◌, ◌*◌, ◌<◌, ◌≤◌, Bool, true, false, IsTrue, List, [], ◌∷◌, ◌++◌, Some}
use Rattle.std.specs.List.{sum_by}
use Rattle.run_definition.specs.Question.{Question}
use Rattle.run_definition.specs.Answer.{Answer, answer_fits}
use Rattle.run_definition.specs.Turn.{Turn, moves, ends, leaves, asks}
use Rattle.run_simulation_laws.specs.Trail.{Step, went, stood, advanced, moved}

-- What is counted at both machines. The credit of a state of the classes is what they may still count there that no turn of the
-- guest pays for: where they are about to choose, the entry that the last transfer paid for.
pub record Tally (G J : Type 0) : Type 0 where
  pub guest : Step G → ℕ
  pub classes : Step J → ℕ
  pub credit : J → ℕ

-- two machines, what is counted, and the marked states of the guest
pub record Pair (G J I : Type 0) : Type 0 where
  pub guest : G → Turn G
  pub classes : J → Turn J
  pub tally : I → Tally G J
  pub marked : G → Bool

-- The classes come on to a state of rest, in time, and have counted no more than the guest's turns and the credit allow.
pub record ComesToRest {G J I : Type 0} (p : Pair G J I) (Rests : G → J → Type 0) (used limit : ℕ)
    (allowed : I → ℕ) (guest_trail : List (Step G)) (class_trail : List (Step J)) (g : G)
    (j : J) : Type 0 where
  pub more : ℕ
  pub rest : J
  pub comes : advanced p.classes more j ≡ Some rest
  pub rests : Rests g rest
  pub in_time : used + more ≤ limit
  pub counted : (i : I) → sum_by (p.tally i).classes (class_trail ++ moved p.classes more j)
      + (p.tally i).credit rest ≤ allowed i + sum_by (p.tally i).guest guest_trail

-- The classes have ended, or wait, in time, and have counted no more.
pub record Stands {G J I : Type 0} (p : Pair G J I) (used limit : ℕ) (allowed : I → ℕ)
    (guest_trail : List (Step G)) (class_trail : List (Step J)) : Type 0 where
  pub in_time : used ≤ limit
  pub counted : (i : I) → sum_by (p.tally i).classes class_trail
      ≤ allowed i + sum_by (p.tally i).guest guest_trail

-- Two last turns are alike: both move, both end so, both leave so, or both ask the same and go on by each answer that fits.
abbrev pub Alike : {G J : Type 0} → (G → J → Type 0) → Type 0 → Turn G → Turn J → Type 0
Alike GoesOn Ends (moves g) (moves j) = GoesOn g j
Alike GoesOn Ends (ends e) (ends f) = (f ≡ e) × Ends
Alike GoesOn Ends (leaves q e) (leaves r f) = (r ≡ q) × (f ≡ e) × Ends
Alike GoesOn Ends (asks q next) (asks r then) =
    (r ≡ q) × Ends × ((a : Answer) → IsTrue (answer_fits a q) → GoesOn (next a) (then a))
Alike GoesOn Ends _ _ = ⊥

-- Some turns of the guest, one at least, and no fewer of the classes, of which there are at most so many for the guest's. All but
-- the last ones only move; these are alike; then the classes come to rest. What is counted is kept to inside as well: in each
-- number of turns before the guest's last.
pub record Follows {G J I : Type 0} (p : Pair G J I) (Rests : G → J → Type 0) (limit : ℕ → ℕ)
    (g : G) (j : J) : Type 0 where
  pub guest_turns : ℕ
  pub class_turns : ℕ
  pub guest_at : G
  pub class_at : J
  pub guest_comes : advanced p.guest guest_turns g ≡ Some guest_at
  pub class_comes : advanced p.classes class_turns j ≡ Some class_at
  pub no_sooner : guest_turns ≤ class_turns
  pub unmarked : (n : ℕ) (t : G) → 1 ≤ n → n ≤ guest_turns → advanced p.guest n g ≡ Some t
      → p.marked t ≡ false
  pub early : (i : I) (n : ℕ) → n ≤ guest_turns
      → sum_by (p.tally i).classes (moved p.classes n j)
      ≤ (p.tally i).credit j + sum_by (p.tally i).guest (moved p.guest n g)
  pub alike : Alike (λ h l. ComesToRest p Rests (class_turns + 1) (limit (guest_turns + 1))
      (λ i. (p.tally i).credit j) (moved p.guest guest_turns g
      ++ went guest_at h ∷ []) (moved p.classes class_turns j ++ went class_at l ∷ []) h l)
      (Stands p (class_turns + 1) (limit (guest_turns + 1)) (λ i. (p.tally i).credit j)
      (moved p.guest guest_turns g ++ stood guest_at ∷ []) (moved p.classes class_turns j
      ++ stood class_at ∷ [])) (p.guest guest_at) (p.classes class_at)

-- the law of a turn: from each state of rest the classes follow, with at most so many turns for one of the guest
abbrev pub LawOfTurn : {G J I : Type 0} → Pair G J I → (G → J → Type 0) → ℕ → Type 0
LawOfTurn {G} {J} p Rests most = (g : G) (j : J) → Rests g j → Follows p Rests (λ k. most * k) g j

-- Loading: the guest asks at once, and the classes ask the same after turns that only move. By each answer that fits they come to
-- rest within a limit, and after the call they have counted no more than is allowed.
pub record Loads {G J I : Type 0} (p : Pair G J I) (Rests : G → J → Type 0) (limit : ℕ)
    (allowed : I → ℕ) (g : G) (j : J) : Type 0 where
  pub question : Question
  pub guest_next : Answer → G
  pub class_turns : ℕ
  pub class_at : J
  pub class_next : Answer → J
  pub guest_asks : p.guest g ≡ asks question guest_next
  pub class_comes : advanced p.classes class_turns j ≡ Some class_at
  pub class_asks : p.classes class_at ≡ asks question class_next
  pub in_time : class_turns + 1 ≤ limit
  pub answered : (a : Answer) → IsTrue (answer_fits a question)
      → ComesToRest p Rests (class_turns + 1) limit allowed [] [] (guest_next a) (class_next a)

-- Both laws. The limit for loading is what two turns of the guest allow, and `start`.
pub record Translates {G J I : Type 0} (p : Pair G J I) (Rests : G → J → Type 0) (most start : ℕ)
    (allowed : I → ℕ) (g : G) (j : J) : Type 0 where
  pub turns : LawOfTurn p Rests most
  pub loads : Loads p Rests (start + 2 * most) allowed g j

-- The law of marks: from rest at a marked state of the guest, the classes come within so many turns that only move to the place
-- that belongs to it.
abbrev pub LawOfMarks : {G J I : Type 0} → Pair G J I → (G → J → Type 0) → (G → J → Type 0) → ℕ
    → Type 0
LawOfMarks {G} {J} p Rests At most = (g : G) (j : J) → Rests g j → p.marked g ≡ true
    → ((n : ℕ) × (place : J) × (n ≤ most) × (advanced p.classes n j ≡ Some place) × At g place)

-- A part of a turn: both machines only move, the guest perhaps not at all, and the classes no less than it.
pub record Passes {G J I : Type 0} (p : Pair G J I) (guest_turns class_turns : ℕ) (g : G) (j : J)
    (g_to : G) (j_to : J) : Type 0 where
  pub guest_comes : advanced p.guest guest_turns g ≡ Some g_to
  pub class_comes : advanced p.classes class_turns j ≡ Some j_to
  pub no_sooner : guest_turns ≤ class_turns
  pub unmarked : (n : ℕ) (t : G) → 1 ≤ n → n < guest_turns → advanced p.guest n g ≡ Some t
      → p.marked t ≡ false
  pub early : (i : I) (n : ℕ) → n ≤ guest_turns
      → sum_by (p.tally i).classes (moved p.classes n j)
      ≤ (p.tally i).credit j + sum_by (p.tally i).guest (moved p.guest n g)
  pub counted : (i : I) → sum_by (p.tally i).classes (moved p.classes class_turns j)
      + (p.tally i).credit j_to ≤ (p.tally i).credit j
      + sum_by (p.tally i).guest (moved p.guest guest_turns g)
