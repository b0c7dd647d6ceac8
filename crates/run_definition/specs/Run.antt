-- The run of any machine: at most n turns from a state, over any kind of system state.
use Rattle.std.specs.Prelude.{ℕ, [], zero, suc, List, ◌∷◌, Option, Some, None}
use Rattle.run_definition.specs.Question.{Question}
use Rattle.run_definition.specs.Answer.{Answer}
use Rattle.run_definition.specs.Turn.{Turn, moves, ends, leaves, asks, outcome_of}
use Rattle.run_definition.specs.declared.outcome.Outcome.{Outcome}
use Rattle.run_definition.specs.declared.outcome.Outcome.TheVariants.{Waiting, Going}

-- the questions in order, how the run ended, the machine's last state, and the system's
pub record Run (S K : Type 0) : Type 0 where
  pub questions : List Question
  pub outcome : Outcome
  pub last : S
  pub system : K

abbrev pub stops : {S K : Type 0} → List Question → Outcome → S → K → Run S K
stops questions outcome s k = record {
  questions = questions;
  outcome = outcome;
  last = s;
  system = k;
}

-- a question before a run
abbrev pub asking : {S K : Type 0} → Question → Run S K → Run S K
asking q r = record {
  questions = q ∷ r.questions;
  outcome = r.outcome;
  last = r.last;
  system = r.system;
}

-- Turn by turn: a question is put to the system as it stands, and the machine goes on by the answer.
abbrev pub run_of : {S K : Type 0} → (S → Turn S) → (K → Question → Option (Answer × K)) → ℕ → S → K
    → Run S K
run_of turn reply zero s k = stops [] Going s k
run_of turn reply (suc n) s k = elim (turn s) [
  | moves t ↦ run_of turn reply n t k
  | ends e ↦ stops [] (outcome_of e) s k
  | leaves q e ↦ stops (q ∷ []) (outcome_of e) s k
  | asks q next ↦ elim (reply k q) [
    | None ↦ stops (q ∷ []) Waiting s k
    | Some given ↦ asking q (run_of turn reply n (next given.0) given.1)
  ]
]
