-- A stage of a pipeline: a machine on a system of its own.
use Rattle.std.specs.Prelude.{ℕ, zero, suc, ◌+◌, ◌==◌, nat_le, Bool, not, ◌&&◌, ◌||◌, List, Option, Some, None}
use Rattle.run_definition.specs.Answer.{Answer}
use Rattle.run_definition.specs.Question.{Question}
use Rattle.nv_events.specs.Parts.{is_going}
use Rattle.run_definition.specs.Turn.{Turn, moves, ends, leaves, asks, outcome_of}
use Rattle.run_definition.specs.declared.outcome.Outcome.{Outcome}
use Rattle.run_definition.specs.declared.outcome.Outcome.TheVariants.{Waiting, Going}
use Rattle.unix_definition.specs.System.{System, with_console}
use Rattle.unix_definition.specs.Unix.{reply}
use Rattle.unix_definition.specs.declared.opened.Opened.{Opened}
use Rattle.unix_calls.specs.Arriving.{arrived}
use Rattle.unix_calls.specs.Sides.{console_of}

-- a read of some bytes of input, and a write to output
abbrev pub reads_input : Opened → Question → Bool
reads_input opened q = q.number == 4 && (console_of opened q.a0 == 1 && not (q.a2 == 0))

abbrev pub writes_output : Opened → Question → Bool
writes_output opened q = q.number == 5 && console_of opened q.a0 == 2

-- The machine, the system with what is there of its input and with all that it wrote, how many turns it made, and how it ended.
pub record PipeStage (S : Type 0) : Type 0 where
  pub machine : S
  pub system : System
  pub made : ℕ
  pub outcome : Outcome

-- it has ended, or made as many turns as it may
abbrev pub is_over : {S : Type 0} → ℕ → PipeStage S → Bool
is_over bound x = not (is_going x.outcome) || nat_le bound x.made

abbrev pub output_of : {S : Type 0} → PipeStage S → List ℕ
output_of x = x.system.console.output

abbrev pub input_left : {S : Type 0} → PipeStage S → List ℕ
input_left x = x.system.console.rest

-- ---- its turns

-- a turn, by the answer that a question got
abbrev pub answered_by : {S : Type 0} → PipeStage S → (Answer → S) → Option (Answer × System)
    → PipeStage S
answered_by x next None = record x { made = x.made + 1; outcome = Waiting }
answered_by x next (Some given) = record x {
  machine = next given.0;
  system = given.1;
  made = x.made + 1;
}

-- a turn, where this comes to the system before a call
abbrev pub after_turn : {S : Type 0} → (System → System) → PipeStage S → Turn S → PipeStage S
after_turn comes x (moves t) = record x { machine = t; made = x.made + 1 }
after_turn comes x (ends e) = record x { made = x.made + 1; outcome = outcome_of e }
after_turn comes x (leaves q e) = record x { made = x.made + 1; outcome = outcome_of e }
after_turn comes x (asks q next) = answered_by x next (reply (comes x.system) q)

-- what comes before a call of the first stage is a piece of the pipeline's input, and before one of a later stage nothing
abbrev pub comes_to : ℕ → List ℕ → System → System
comes_to zero piece s = arrived s piece
comes_to (suc i) piece s = s

-- ---- its input

abbrev pub with_rest : System → List ℕ → System
with_rest s rest = with_console s (record s.console { rest = rest })

-- a stage before its first turn
abbrev pub begins : {S : Type 0} → S → System → List ℕ → PipeStage S
begins machine system input = record {
  machine = machine;
  system = with_rest system input;
  made = 0;
  outcome = Going;
}
