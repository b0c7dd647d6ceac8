-- What holds of all runs of a machine.
use Rattle.std.specs.Prelude.{◌≡◌, ◌≢◌, ℕ, ◌+◌, ◌≤◌, List, ◌++◌, length, Option, Some, IsTrue}
use Rattle.run_definition.specs.Question.{Question}
use Rattle.run_definition.specs.Answer.{Answer, answer_fits, next_answer}
use Rattle.run_definition.specs.Turn.{Turn}
use Rattle.run_definition.specs.Run.{run_of}
use Rattle.nv_events.specs.Parts.{then_run, left_over, IsRunOver}
use Rattle.nv_events.specs.Serving.{Leads}
use Rattle.run_definition.specs.declared.outcome.Outcome.TheVariants.{Waiting, Going}

-- Longer runs of a machine begin with the shorter ones, over any kind of system state.
pub record LongerRuns {S K : Type 0} (turn : S → Turn S)
    (reply : K → Question → Option (Answer × K)) : Type 0 where
  -- a run of n + m turns is the run of n, and where that goes on, the run of m from where it stands
  pub add : (n m : ℕ) (s : S) (k : K)
      → run_of turn reply (n + m) s k ≡ then_run (run_of turn reply n s k) (run_of turn reply m)
  -- a run that has ended stays as it is for a larger bound
  pub ended : (n m : ℕ) (s : S) (k : K) → n ≤ m → (run_of turn reply n s k).outcome ≢ Going
      → run_of turn reply m s k ≡ run_of turn reply n s k
  -- the questions of a run are the first ones of each longer run
  pub questions : (n m : ℕ) (s : S) (k : K) → n ≤ m → (rest : List Question)
      × ((run_of turn reply m s k).questions ≡ (run_of turn reply n s k).questions ++ rest)

-- a run over answers that does not wait is the same over these and more, which are left over
abbrev pub LeavesFurtherAnswers : {S : Type 0} → (S → Turn S) → Type 0
LeavesFurtherAnswers {S} turn =
    (n : ℕ) (s : S) (answers more : List Answer)
    → (run_of turn next_answer n s answers).outcome ≢ Waiting
    → run_of turn next_answer n s (answers ++ more)
    ≡ left_over (run_of turn next_answer n s answers) more

-- each answer of a kind of system state fits the question
abbrev pub GivesFitting : {K : Type 0} → (K → Question → Option (Answer × K)) → Type 0
GivesFitting {K} reply =
    (k l : K) (q : Question) (a : Answer) → reply k q ≡ Some (a, l) → IsTrue (answer_fits a q)

-- each run over a kind of system state is the run over a list of answers, all of which are used
abbrev pub RunsByAnswers : {S K : Type 0} → (S → Turn S) → (K → Question → Option (Answer × K))
    → Type 0
RunsByAnswers {S} {K} turn reply =
    (n : ℕ) (s : S) (k : K) → (answers : List Answer)
    × IsRunOver (run_of turn reply n s k) (run_of turn next_answer n s answers)

-- a server that went over some questions and answers, and then over others, went over all of them
abbrev pub LeadsOverBoth : {V : Type 0} → (V → Question → Answer → V → Type 0) → Type 0
LeadsOverBoth {V} goes =
    (u v w : V) (qs rs : List Question) (given more : List Answer)
    → length qs ≡ length given
    → Leads goes u qs given v
    → Leads goes v rs more w
    → Leads goes u (qs ++ rs) (given ++ more) w
