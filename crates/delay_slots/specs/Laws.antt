-- What holds of the units of every range of code.
use Rattle.std.specs.Prelude.{◌≡◌, ℕ, ◌+◌, true, List, Option, Some, slice_get}
use Rattle.run_definition.specs.Question.{Question}
use Rattle.run_definition.specs.Answer.{Answer}
use Rattle.run_definition.specs.Run.{run_of}
use Rattle.nv_events.specs.Parts.{then_run}
use Rattle.mips_definition.specs.State.{State}
use Rattle.mips_definition.specs.Step.{turn}
use Rattle.delay_slots.specs.declared.unit.Unit.{Unit}
use Rattle.delay_slots.specs.Places.{Address, WordIndex}
use Rattle.delay_slots.specs.Units.{units_of}
use Rattle.delay_slots.specs.Turns.{unit_turns, turn_count, unit_turn_count, unit_run, last_turn, AreMade, LeadsOn, StandsAt}

-- from a state that stands at a word with no branch pending, the machine makes the turns of the word's unit
abbrev pub UnitsAreMade : Type 0
UnitsAreMade =
    (x : State) (first : Address) (words : List ℕ) (i : WordIndex) (unit : Unit)
    → StandsAt x first words i
    → slice_get (units_of words) i ≡ Some unit
    → AreMade x (unit_turns unit x)

-- a word's unit has as many turns as its form and the state tell
abbrev pub UnitsHaveTheirTurns : Type 0
UnitsHaveTheirTurns =
    (x : State) (words : List ℕ) (i : WordIndex) (unit : Unit)
    → slice_get (units_of words) i ≡ Some unit
    → turn_count (unit_turns unit x) ≡ unit_turn_count unit x

-- a run from there, over a kind of system state, is the run of these turns, and then a run from where they lead
abbrev pub UnitsRunFirst : {K : Type 0} → (K → Question → Option (Answer × K)) → Type 0
UnitsRunFirst {K} reply =
    (x : State) (first : Address) (words : List ℕ) (i : WordIndex) (unit : Unit)
    → StandsAt x first words i
    → slice_get (units_of words) i ≡ Some unit
    → (n : ℕ) (k : K)
    → run_of turn reply (turn_count (unit_turns unit x) + n) x k
    ≡ then_run (unit_run reply (unit_turns unit x) x k) (run_of turn reply n)

-- where a unit leads to a state, by any answer, that state stands between units, and the same code is there
abbrev pub UnitsLeadOn : Type 0
UnitsLeadOn =
    (x : State) (words : List ℕ) (i : WordIndex) (unit : Unit)
    → x.begun ≡ true
    → slice_get (units_of words) i ≡ Some unit
    → LeadsOn x (last_turn (unit_turns unit x))
