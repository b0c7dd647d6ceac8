-- One turn of a machine over states S, as data. It knows nothing of what answers.
use Rattle.std.specs.Prelude.{ℕ, ℤ}
use Rattle.run_definition.specs.Question.{Question}
use Rattle.run_definition.specs.Answer.{Answer}
use Rattle.run_definition.specs.declared.fault.Fault.{Fault}
use Rattle.run_definition.specs.declared.outcome.Outcome.{Outcome}
use Rattle.run_definition.specs.declared.outcome.Outcome.TheVariants.{Exited, Faulted, Trapped}

-- how a machine ends by itself
pub data End : Type 0 where
  exit : ℤ → End
  «fault» : Fault → End
  trap : ℕ → End

abbrev pub outcome_of : End → Outcome
outcome_of (exit status) = Exited status
outcome_of («fault» f) = Faulted f
outcome_of (trap k) = Trapped k

-- A turn moves on to a next state, ends, makes a last call to which no answer is taken and ends, or makes a call and goes on by its
-- answer. An end leaves the state as it was.
pub data Turn (S : Type 0) : Type 0 where
  moves : S → Turn S
  ends : End → Turn S
  leaves : Question → End → Turn S
  asks : Question → (Answer → S) → Turn S
