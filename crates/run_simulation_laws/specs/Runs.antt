-- What is said of the runs of two machines over one system.
use Rattle.std.specs.Prelude.{◌≡◌, ◌≢◌, ℕ, ◌+◌, ◌*◌, ◌≤◌, List, [], ◌∷◌, ◌++◌, Option, None}
use Rattle.run_definition.specs.Question.{Question}
use Rattle.run_definition.specs.Answer.{Answer}
use Rattle.run_definition.specs.Turn.{Turn, asks}
use Rattle.run_definition.specs.Run.{Run, run_of}
use Rattle.run_definition.specs.declared.outcome.Outcome.TheVariants.{Going}

-- One run asks what the other begins with; where it is over, the other asks the same, is over in the same way, and leaves the
-- system in the same state.
pub record Agrees {S T K : Type 0} (r : Run S K) (s : Run T K) : Type 0 where
  pub questions : (rest : List Question) × (s.questions ≡ r.questions ++ rest)
  pub over : r.outcome ≢ Going → (s.questions ≡ r.questions) × (s.outcome ≡ r.outcome)
      × (s.system ≡ r.system)

-- The same of questions and outcomes alone.
pub record AgreesInCalls {S T K L : Type 0} (r : Run S K) (s : Run T L) : Type 0 where
  pub questions : (rest : List Question) × (s.questions ≡ r.questions ++ rest)
  pub over : r.outcome ≢ Going → (s.questions ≡ r.questions) × (s.outcome ≡ r.outcome)

-- Both machines run the same, both ways: n turns of the guest lie within the allowance for n of the classes' turns, and m turns of
-- the classes within m of the guest's.
pub record SameRuns {G J K : Type 0} (guest : G → Turn G) (classes : J → Turn J)
    (reply : K → Question → Option (Answer × K)) (allowance : ℕ → ℕ) (g : G) (j : J) (k : K)
    : Type 0 where
  pub forth : (n : ℕ) → Agrees (run_of guest reply n g k) (run_of classes reply (allowance n) j k)
  pub back : (m : ℕ) → Agrees (run_of classes reply m j k) (run_of guest reply m g k)

pub record SameCalls {G J K : Type 0} (guest : G → Turn G) (classes : J → Turn J)
    (reply : K → Question → Option (Answer × K)) (allowance : ℕ → ℕ) (g : G) (j : J) (k : K)
    : Type 0 where
  pub forth : (n : ℕ)
      → AgreesInCalls (run_of guest reply n g k) (run_of classes reply (allowance n) j k)
  pub back : (m : ℕ) → AgreesInCalls (run_of classes reply m j k) (run_of guest reply m g k)

abbrev pub allowance : ℕ → ℕ → ℕ → ℕ
allowance most start n = most * (n + 1) + start

-- The run comes within a bound to a state of the kind, with these questions and without an end.
pub record ComesBy {J K : Type 0} (classes : J → Turn J)
    (reply : K → Question → Option (Answer × K)) (bound : ℕ) (At : J → Type 0)
    (questions : List Question) (j : J) (k : K) : Type 0 where
  pub turns : ℕ
  pub in_time : turns ≤ bound
  pub asks_so : (run_of classes reply turns j k).questions ≡ questions
  pub goes : (run_of classes reply turns j k).outcome ≡ Going
  pub stands : At (run_of classes reply turns j k).last

-- The run's last question got no answer: the machine stands where it asks it, and the system where it has no answer to it.
pub record WaitsAt {S K : Type 0} (turn : S → Turn S) (reply : K → Question → Option (Answer × K))
    (r : Run S K) : Type 0 where
  pub question : Question
  pub before : List Question
  pub last_is : r.questions ≡ before ++ question ∷ []
  pub next : Answer → S
  pub asks_it : turn r.last ≡ asks question next
  pub unanswered : reply r.system question ≡ None
