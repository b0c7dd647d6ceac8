-- What the answer of a server says of the calls that it was asked, and what a turn and a run of a machine pass on of it.
use Rattle.std.specs.Prelude.{◌≡◌, ◌≢◌, ℕ, ◌+◌, ◌-◌, ◌^◌, ◌≤◌, ◌⊎◌, min, List, [], ◌∷◌, length, Option, Some, None, Result, Ok, Err, IsTrue, ℤ, slice_get}
use Rattle.run_definition.specs.Question.{Question}
use Rattle.run_definition.specs.Answer.{Answer, answer_fits, fits_room, answered, next_answer}
use Rattle.run_definition.specs.Turn.{Turn, moves, ends, leaves, asks, outcome_of}
use Rattle.run_definition.specs.Run.{Run, run_of}
use Rattle.run_definition.specs.declared.io_fault.IoFault.{IoFault}
use Rattle.run_definition.specs.declared.io_fault.IoFault.TheVariants.{ReadFault, WriteFault}
use Rattle.run_definition.specs.declared.outcome.Outcome.{Outcome}
use Rattle.run_definition.specs.declared.outcome.Outcome.TheVariants.{Waiting}

-- A count of faults rose: it is greater than before, or stands at its greatest value.
abbrev pub Rose : ℕ → ℕ → Type 0
Rose before now = min (before + 1) (2 ^ 64 - 1) ≤ now

-- how often the program's input, output and error output failed
pub record Counts : Type 0 where
  pub input : ℕ
  pub output : ℕ
  pub error : ℕ

-- no fault at all
abbrev pub none_counted : Counts
none_counted = record { input = 0; output = 0; error = 0 }

-- no count falls
pub record NoneFalls (old new : Counts) : Type 0 where
  pub input : old.input ≤ new.input
  pub output : old.output ≤ new.output
  pub error : old.error ≤ new.error

-- A fault comes only where a count of its own rose; without one, each count is as before.
abbrev pub Causes : {A : Type 0} → Counts → Counts → Result A IoFault → Type 0
Causes old new (Ok a) = new ≡ old
Causes old new (Err ReadFault) = Rose old.input new.input
Causes old new (Err WriteFault) = Rose old.output new.output ⊎ Rose old.error new.error

-- What `serve` gave: an answer that fits and is what the view now holds; nothing, with the view as it was; or a fault, after which
-- some bytes may stand in the room.
abbrev pub Serves : {V C : Type 0} → (V → Question → Answer → V → Type 0)
    → (V → Question → V → Type 0) → (V → Question → V → Type 0) → (C → ℕ → ℕ → C) → Question → V → V
    → C → C → Result (Option ℤ) IoFault → Type 0
Serves goes held fell put_at q v w c d (Ok (Some value)) = (patch : List ℕ)
    × IsTrue (answer_fits (record { value = value; patch = patch }) q)
    × goes v q (record { value = value; patch = patch }) w × (d ≡ answered put_at c q patch)
Serves goes held fell put_at q v w c d (Ok None) = held v q w × (d ≡ c)
Serves goes held fell put_at q v w c d (Err e) =
    fell v q w × ((patch : List ℕ) × IsTrue (fits_room patch q.room)
    × (d ≡ answered put_at c q patch))

-- What one turn of a machine gave over a server, by the turn that its state has. Nothing is said of the machine after a fault.
abbrev pub Turns : {S V : Type 0} → (V → Question → Answer → V → Type 0)
    → (V → Question → V → Type 0) → (V → Question → V → Type 0) → Turn S → S → S → V → V
    → Result (Option Outcome) IoFault → Type 0
Turns goes held fell (moves t) old new v w (Ok None) = (new ≡ t) × (w ≡ v)
Turns goes held fell (moves t) old new v w (Ok (Some o)) = ⊥
Turns goes held fell (moves t) old new v w (Err e) = ⊥
Turns goes held fell (ends end) old new v w (Ok None) = ⊥
Turns goes held fell (ends end) old new v w (Ok (Some o)) =
    (o ≡ outcome_of end) × (new ≡ old) × (w ≡ v)
Turns goes held fell (ends end) old new v w (Err e) = ⊥
Turns goes held fell (leaves q end) old new v w (Ok None) = ⊥
Turns goes held fell (leaves q end) old new v w (Ok (Some o)) =
    (o ≡ outcome_of end) × (new ≡ old) × (w ≡ v)
Turns goes held fell (leaves q end) old new v w (Err e) = ⊥
Turns goes held fell (asks q next) old new v w (Ok None) =
    (a : Answer) × IsTrue (answer_fits a q) × goes v q a w × (new ≡ next a)
Turns goes held fell (asks q next) old new v w (Ok (Some o)) =
    (o ≡ Waiting) × held v q w × (new ≡ old)
Turns goes held fell (asks q next) old new v w (Err e) = fell v q w

-- The server went from one to the other over the first questions, by these answers.
abbrev pub Leads : {V : Type 0} → (V → Question → Answer → V → Type 0) → V → List Question
    → List Answer → V → Type 0
Leads goes v qs [] w = w ≡ v
Leads goes v [] (a ∷ rest) w = ⊥
Leads {V} goes v (q ∷ qs) (a ∷ rest) w = (mid : V) × goes v q a mid × Leads goes mid qs rest w

-- Over these answers the server came to a further question, which it took so.
abbrev pub StopsAt : {V : Type 0} → (V → Question → Answer → V → Type 0)
    → (V → Question → V → Type 0) → V → List Question → List Answer → V → Type 0
StopsAt {V} goes took v qs given w = (q : Question) × (mid : V)
    × (slice_get qs (length given) ≡ Some q) × Leads goes v qs given mid × took mid q w

-- A run over a server is the run over the answers that the server gave in it, each of them used: to its end or bound, to a question
-- that the server held, or to one at which it fell.
pub record RunsOver {S V : Type 0} (goes : V → Question → Answer → V → Type 0)
    (held fell : V → Question → V → Type 0) (turn : S → Turn S) (n : ℕ) (old new : S) (v w : V)
    (o : Outcome) (answers : List Answer) : Type 0 where
  pub outcome : (run_of turn next_answer n old answers).outcome ≡ o
  pub last : (run_of turn next_answer n old answers).last ≡ new
  pub used : (run_of turn next_answer n old answers).system ≡ []
  pub leads : o ≢ Waiting → Leads goes v (run_of turn next_answer n old answers).questions answers w
  pub waits : o ≡ Waiting
      → StopsAt goes held v (run_of turn next_answer n old answers).questions answers w

pub record FallsIn {S V : Type 0} (goes : V → Question → Answer → V → Type 0)
    (fell : V → Question → V → Type 0) (turn : S → Turn S) (n : ℕ) (old : S) (v w : V)
    (answers : List Answer) : Type 0 where
  pub outcome : (run_of turn next_answer n old answers).outcome ≡ Waiting
  pub used : (run_of turn next_answer n old answers).system ≡ []
  pub falls : StopsAt goes fell v (run_of turn next_answer n old answers).questions answers w

abbrev pub RunsBy : {S V : Type 0} → (V → Question → Answer → V → Type 0)
    → (V → Question → V → Type 0) → (V → Question → V → Type 0) → (S → Turn S) → ℕ → S → S → V → V
    → Result Outcome IoFault → Type 0
RunsBy goes held fell turn n old new v w (Ok o) =
    (answers : List Answer) × RunsOver goes held fell turn n old new v w o answers
RunsBy goes held fell turn n old new v w (Err e) =
    (answers : List Answer) × FallsIn goes fell turn n old v w answers

-- Over a server that tells its state, the run is that from the told state.
abbrev pub RunsAsTold : {S K : Type 0} → Run S K → S → Option K → Result Outcome IoFault → Type 0
RunsAsTold r new told (Ok o) = (r.outcome ≡ o) × (r.last ≡ new)
    × (o ≢ Waiting → told ≡ Some r.system)
RunsAsTold r new told (Err e) = Unit {0}
