-- The steps of the guest that a unit's turns are.
use Rattle.std.specs.Prelude.{◌≡◌, ◌≢◌, ℕ, ◌+◌, ◌%◌, ◌^◌, ◌<◌, ◌≤◌, Bool, true, false, ⊤, List, [], ◌∷◌, Option, Some, None}
use Rattle.run_definition.specs.Words.{IsWord}
use Rattle.run_definition.specs.Answer.{Answer}
use Rattle.run_definition.specs.Turn.{Turn, moves, ends, leaves, asks}
use Rattle.run_simulation_laws.specs.Trail.{Step}
use Rattle.mips_definition.specs.State.{State}
use Rattle.delay_slots.specs.declared.unit.Unit.{Unit}
use Rattle.delay_slots.specs.declared.unit.Unit.TheVariants.{Branch, SlotMissing, SlotIsBranch}
use Rattle.delay_slots.specs.Places.{Address, WordIndex}
use Rattle.delay_slots.specs.Units.{units_of}
use Rattle.delay_slots.specs.Turns.{StandsAt, UnitTurns, last_turn, one_turn, two_turns, unit_turns}
use Rattle.block_builder.specs.Blocks.{unit_at}
use Rattle.emit_paths_laws.specs.Guest.{Span, crossings, is_register_jump, partial}
use Rattle.emit_simulation_laws.specs.Lawful.{IsLawful}
use Rattle.emit_instructions_laws.specs.Counting.{unit_reads}

-- the trail of a unit's turns, of which the last leads to a state, or nowhere
abbrev pub unit_trail : State → UnitTurns → Option State → List (Step State)
unit_trail x (one_turn last) to = record { from = x; to = to } ∷ []
unit_trail x (two_turns slot last) to = record { from = x; to = Some slot }
    ∷ record { from = slot; to = to } ∷ []

-- a unit that begins with JR or JALR
abbrev pub begins_with_register_jump : Unit → Bool
begins_with_register_jump (Branch i slot) = is_register_jump i
begins_with_register_jump (SlotMissing i) = is_register_jump i
begins_with_register_jump (SlotIsBranch i word) = is_register_jump i
begins_with_register_jump unit = false

-- A state stands in the delay slot of a branch that was done in another.
pub record IsInSlot (x s : State) : Type 0 where
  pub begun : s.begun ≡ true
  pub pc : s.pc ≡ (x.pc + 4) % 2 ^ 32
  pub pending : s.pending ≢ None
  pub code : s.code ≡ x.code

-- where there are two turns, the second is made in the delay slot
abbrev pub GoesThroughSlot : State → UnitTurns → Type 0
GoesThroughSlot x (one_turn last) = ⊤
GoesThroughSlot x (two_turns slot last) = IsInSlot x slot

-- the address is a word of each state that a turn leads to, whatever the answer
abbrev pub LeadsToWords : Turn State → Type 0
LeadsToWords (moves t) = IsWord t.pc
LeadsToWords (ends end) = ⊤
LeadsToWords (leaves question end) = ⊤
LeadsToWords (asks question next) = (answer : Answer) → IsWord (next answer).pc

-- ---- the laws, of the unit at a word of a range

-- its turns read as many words as is told of it
abbrev pub UnitsReadAsTold : Type 0
UnitsReadAsTold =
    (x : State) (first : Address) (words : List ℕ) (i : WordIndex) (to : Option State)
    → StandsAt x first words i
    → partial (unit_trail x (unit_turns (unit_at (units_of words) i) x) to)
    ≡ unit_reads (unit_at (units_of words) i) x

-- one that begins with JR or JALR crosses spans
abbrev pub UnitsCrossSpans : Type 0
UnitsCrossSpans =
    (x : State) (first : Address) (words : List ℕ) (i : WordIndex) (spans : List Span)
    (to : Option State)
    → StandsAt x first words i
    → begins_with_register_jump (unit_at (units_of words) i) ≡ true
    → 1 ≤ crossings spans (unit_trail x (unit_turns (unit_at (units_of words) i) x) to)

-- the second of two turns is made in the delay slot
abbrev pub UnitsPassSlots : Type 0
UnitsPassSlots =
    (x : State) (first : Address) (words : List ℕ) (i : WordIndex)
    → StandsAt x first words i
    → GoesThroughSlot x (unit_turns (unit_at (units_of words) i) x)

-- ---- of any unit

-- where the registers hold words, each address to which it leads is a word, whatever the answer
abbrev pub UnitsLeadToWords : Type 0
UnitsLeadToWords =
    (x : State) (unit : Unit)
    → IsLawful unit
    → x.pending ≡ None
    → ((r : ℕ) → 0 < r → r < 32 → IsWord (x.registers r))
    → LeadsToWords (last_turn (unit_turns unit x))
