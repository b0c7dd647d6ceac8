-- Where two machines, of which one follows the other, call the system.
use Rattle.std.specs.Prelude.{◌≡◌, ℕ, ◌≤◌, Bool, true, false, ◌⊎◌, Option, Some}
use Rattle.run_definition.specs.Question.{Question}
use Rattle.run_definition.specs.Answer.{Answer}
use Rattle.run_definition.specs.Turn.{Turn, moves, ends, leaves, asks, End}
use Rattle.run_definition.specs.Run.{Run, run_of}
use Rattle.run_definition.specs.declared.outcome.Outcome.TheVariants.{Going}
use Rattle.run_simulation_laws.specs.Trail.{advanced}

-- a turn that calls the system: one that asks, or leaves by a last call
abbrev pub makes_call : {S : Type 0} → Turn S → Bool
makes_call (moves t) = false
makes_call (ends e) = false
makes_call (leaves q e) = true
makes_call (asks q next) = true

-- two turns make the same call: both ask the same, or both leave so
abbrev pub MakeSameCall : {S T : Type 0} → Turn S → Turn T → Type 0
MakeSameCall (leaves q e) (leaves r f) = (r ≡ q) × (f ≡ e)
MakeSameCall (asks q next) (asks r then) = r ≡ q
MakeSameCall _ _ = ⊥

-- ---- from states that rest side by side

-- Both come to states that rest side by side again, by turns that only move, of which one at least is the guest's.
pub record BothMove {G J : Type 0} (guest : G → Turn G) (classes : J → Turn J)
    (Rests : G → J → Type 0) (g : G) (j : J) : Type 0 where
  pub guest_turns : ℕ
  pub some : 1 ≤ guest_turns
  pub guest_to : G
  pub guest_comes : advanced guest guest_turns g ≡ Some guest_to
  pub class_turns : ℕ
  pub class_to : J
  pub class_comes : advanced classes class_turns j ≡ Some class_to
  pub rests : Rests guest_to class_to

-- By turns that only move the classes come to where they call the system, and this is held there of a state of the guest's.
pub record ComesToCall {J : Type 0} (classes : J → Turn J) (Held : J → Type 0) (j : J)
    : Type 0 where
  pub turns : ℕ
  pub at : J
  pub comes : advanced classes turns j ≡ Some at
  pub calls : makes_call (classes at) ≡ true
  pub held : Held at

-- Both come to where they call the system.
pub record BothCall {G J : Type 0} (guest : G → Turn G) (classes : J → Turn J)
    (At : G → J → Type 0) (g : G) (j : J) : Type 0 where
  pub guest_turns : ℕ
  pub guest_at : G
  pub guest_comes : advanced guest guest_turns g ≡ Some guest_at
  pub guest_calls : makes_call (guest guest_at) ≡ true
  pub class_comes : ComesToCall classes (At guest_at) j

-- The guest comes to its end.
pub record GuestEnds {G : Type 0} (guest : G → Turn G) (g : G) : Type 0 where
  pub turns : ℕ
  pub at : G
  pub comes : advanced guest turns g ≡ Some at
  pub ending : End
  pub ends_so : guest at ≡ ends ending

-- The law of calls: from each state of rest it is one of these.
abbrev pub LawOfCalls : {G J : Type 0} → (G → Turn G) → (J → Turn J) → (G → J → Type 0)
    → (G → J → Type 0) → Type 0
LawOfCalls {G} {J} guest classes Rests At = (g : G) (j : J) → Rests g j
    → BothMove guest classes Rests g j ⊎ (BothCall guest classes At g j ⊎ GuestEnds guest g)

-- ---- in runs

-- Where a run of m turns of the classes has come to a call, the guest has come to the same one: after no more turns, with the same questions,
-- over the same state of the system. From so many of its turns on, this is held there of its state.
pub record IsAtSameCall {G J K : Type 0} (guest : G → Turn G) (classes : J → Turn J)
    (reply : K → Question → Option (Answer × K)) (m first : ℕ) (At : ℕ → G → J → Type 0) (g : G)
    (k : K) (run : Run J K) : Type 0 where
  pub turns : ℕ
  pub no_later : turns ≤ m
  pub made : Run G K
  pub made_is : made ≡ run_of guest reply turns g k
  pub goes : made.outcome ≡ Going
  pub questions : made.questions ≡ run.questions
  pub system : made.system ≡ run.system
  pub same_call : MakeSameCall (guest made.last) (classes run.last)
  pub held : first ≤ turns → At turns made.last run.last

-- where a run goes on and has come to a call, it is so
abbrev pub CallsAlike : {G J K : Type 0} → (G → Turn G) → (J → Turn J)
    → (K → Question → Option (Answer × K)) → ℕ → ℕ → (ℕ → G → J → Type 0) → G → K → Run J K → Type 0
CallsAlike guest classes reply m first At g k run =
    run.outcome ≡ Going → makes_call (classes run.last) ≡ true
    → IsAtSameCall guest classes reply m first At g k run
