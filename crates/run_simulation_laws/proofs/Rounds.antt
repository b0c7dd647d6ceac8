-- What the runs of two machines do in the turns for which one follows the other.
use Rattle.std.proofs.Common.{◌≡◌, ◌≢◌, ℕ, ◌+◌, ◌≤◌, false, List, Option, Some, ◌⊎◌}
use Rattle.std.specs.List.{sum_by}
use Rattle.run_definition.specs.Question.{Question}
use Rattle.run_definition.specs.Answer.{Answer}
use Rattle.run_definition.specs.Run.{stops}
use Rattle.run_definition.specs.declared.outcome.Outcome.{Outcome}
use Rattle.run_definition.specs.declared.outcome.Outcome.TheVariants.{Going}
use Rattle.run_simulation_laws.specs.Trail.{Step, advanced, moved}
use Rattle.run_simulation_laws.specs.Turns.{Pair}
use Rattle.run_simulation_laws.proofs.Reaching.{Reached, Finished}

module _ {G J I K : Type 0} (p : Pair G J I) (reply : K → Question → Option (Answer × K)) (Rests : G → J → Type 0) where
  -- the classes' count of these trails is paid for, with so much credit left
  abbrev pub Paid : (I → ℕ) → (I → ℕ) → List (Step G) → List (Step J) → Type 0
  Paid allowed left guest_trail class_trail =
      (i : I) → sum_by (p.tally i).classes class_trail + left i ≤ allowed i + sum_by (p.tally i).guest guest_trail

  abbrev pub credit_at : J → I → ℕ
  credit_at j i = (p.tally i).credit j

  -- both are at rest again
  pub record OnTo (a b : ℕ) (g : G) (j : J) (k : K) (questions : List Question) (guest_trail : List (Step G)) (class_trail : List (Step J)) : Type 0 where
    pub guest_to : G
    pub classes_to : J
    pub system : K
    pub guest : Reached p.guest reply a g k questions guest_trail guest_to system
    pub classes : Reached p.classes reply b j k questions class_trail classes_to system
    pub rests : Rests guest_to classes_to
    pub paid : Paid (credit_at j) (credit_at classes_to) guest_trail class_trail

  -- both are over
  pub record OverIn (a b : ℕ) (g : G) (j : J) (k : K) (questions : List Question) (guest_trail : List (Step G)) (class_trail : List (Step J)) : Type 0 where
    pub outcome : Outcome
    pub over : outcome ≢ Going
    pub guest_last : G
    pub class_last : J
    pub guest : Finished p.guest reply a g k (stops questions outcome guest_last k) guest_trail
    pub classes : Finished p.classes reply b j k (stops questions outcome class_last k) class_trail
    pub paid : Paid (credit_at j) (λ i. 0) guest_trail class_trail

  -- From a state of rest, over a state of the system: the guest's turns but for the last, all turns of the classes, and what both
  -- ask and do in them.
  pub record Round (limit : ℕ → ℕ) (g : G) (j : J) (k : K) : Type 0 where
    pub guest_turns : ℕ
    pub used : ℕ
    pub questions : List Question
    pub guest_trail : List (Step G)
    pub class_trail : List (Step J)
    pub no_sooner : guest_turns + 1 ≤ used
    pub in_time : used ≤ limit (guest_turns + 1)
    pub guest_moves : (n : ℕ) → n ≤ guest_turns → (t : G) × (advanced p.guest n g ≡ Some t)
    pub classes_move : (n : ℕ) → n ≤ guest_turns → (t : J) × (advanced p.classes n j ≡ Some t)
    pub unmarked : (n : ℕ) (t : G) → 1 ≤ n → n ≤ guest_turns → advanced p.guest n g ≡ Some t → p.marked t ≡ false
    pub early : (i : I) (n : ℕ) → n ≤ guest_turns → sum_by (p.tally i).classes (moved p.classes n j) ≤ (p.tally i).credit j + sum_by (p.tally i).guest (moved p.guest n g)
    pub comes : OnTo (guest_turns + 1) used g j k questions guest_trail class_trail ⊎ OverIn (guest_turns + 1) used g j k questions guest_trail class_trail
