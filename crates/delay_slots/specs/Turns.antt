-- What a unit does: the machine's turns from a state that stands at the unit's word with no branch pending, by the unit alone.
use Rattle.std.specs.Prelude.{◌≡◌, ℕ, ◌+◌, ◌*◌, ◌%◌, ◌^◌, ◌<◌, Bool, true, false, not, ◌&&◌, if◌then◌else◌, ⊤, List, length, slice_get, slice_index, Option, Some, None}
use Rattle.run_definition.specs.Words.{IsWord, signed_of}
use Rattle.run_definition.specs.Question.{Question}
use Rattle.run_definition.specs.Answer.{Answer}
use Rattle.run_definition.specs.Turn.{Turn, moves, ends, leaves, asks}
use Rattle.run_definition.specs.Run.{Run, run_of}
use Rattle.mips_decode.specs.Encoding.{word_of}
use Rattle.mips_definition.specs.State.{State, register}
use Rattle.mips_definition.specs.Branches.{equal_likely, equal_taken, zero_likely, zero_taken, sign_likely, sign_taken}
use Rattle.mips_definition.specs.Effect.{Effect, goes_on, branches, skips_slot, faults, calls, fetch_fault, branch_in_slot_fault}
use Rattle.mips_definition.specs.Step.{effect, advanced, into_slot, past_slot, faulted, called, turn}
use Rattle.mips_definition.specs.declared.inst.Inst.{Inst}
use Rattle.mips_definition.specs.declared.inst.Inst.TheVariants.{BranchSign, BranchEqual, BranchZero}
use Rattle.delay_slots.specs.declared.unit.Unit.{Unit}
use Rattle.delay_slots.specs.declared.unit.Unit.TheVariants.{Plain, Branch, SlotMissing, SlotIsBranch, Call, Trap}
use Rattle.delay_slots.specs.Places.{Address, WordIndex}

-- A unit's turns: its one turn, or where its branch comes to the delay slot, that state and the turn of the slot from there.
pub data UnitTurns : Type 0 where
  one_turn : Turn State → UnitTurns
  two_turns : State → Turn State → UnitTurns

-- An effect in a state: what comes of it, alone or in a delay slot, where no branch stands in a delay slot.
abbrev pub done_by : Effect → State → Turn State
done_by (goes_on t) s = moves (advanced t)
done_by (branches t target) s = moves (into_slot t target)
done_by (skips_slot t) s = moves (past_slot t)
done_by (faults kind value) s = faulted s kind value
done_by calls s = called s

-- an instruction is done in a state
abbrev pub done : Inst → State → Turn State
done i s = done_by (effect i (word_of i) s) s

-- the turn of a branch, and where a target is then pending, the turn of the delay slot
abbrev pub then_slot : Turn State → (State → Turn State) → UnitTurns
then_slot (moves t) second =
    elim t.pending [ None ↦ one_turn (moves t) | Some target ↦ two_turns t (second t) ]
then_slot (ends end) second = one_turn (ends end)
then_slot (leaves question end) second = one_turn (leaves question end)
then_slot (asks question next) second = one_turn (asks question next)

abbrev pub unit_turns : Unit → State → UnitTurns
unit_turns (Plain i) x = one_turn (done i x)
unit_turns (Branch i slot) x = then_slot (done i x) (done slot)
unit_turns (SlotMissing i) x = then_slot (done i x) (λ s. faulted s fetch_fault s.pc)
unit_turns (SlotIsBranch i word) x = then_slot (done i x) (λ s. faulted s branch_in_slot_fault word)
unit_turns Call x = one_turn (called x)
unit_turns (Trap kind value) x = one_turn (faulted x kind value)

-- ---- beside the machine's own turns

-- the machine makes these turns from a state
abbrev pub AreMade : State → UnitTurns → Type 0
AreMade x (one_turn last) = turn x ≡ last
AreMade x (two_turns slot last) = (turn x ≡ moves slot) × (turn slot ≡ last)

-- Code has the words of one whole range, from an address on.
pub record HasRange (code : ℕ → Option ℕ) (first : Address) (words : List ℕ) : Type 0 where
  pub aligned : first % 4 ≡ 0
  pub below_end : first + 4 * length words < 2 ^ 32
  pub are_words : (k : WordIndex) → k < length words → IsWord (slice_index words k)
  pub there : (k : WordIndex) → k < length words → code (first + 4 * k) ≡ slice_get words k
  pub ends : code (first + 4 * length words) ≡ None

-- A state stands at word i of the range, with no branch pending.
pub record StandsAt (x : State) (first : Address) (words : List ℕ) (i : WordIndex) : Type 0 where
  pub begun : x.begun ≡ true
  pub pending : x.pending ≡ None
  pub pc : x.pc ≡ first + 4 * i
  pub in_range : i < length words
  pub range : HasRange x.code first words

-- ---- where a unit leads

-- A state stands between units: it has begun, no branch is pending, and the code, the order of bytes and the heap are those of another.
pub record IsBetweenUnits (x t : State) : Type 0 where
  pub begun : t.begun ≡ true
  pub pending : t.pending ≡ None
  pub code : t.code ≡ x.code
  pub order : t.order ≡ x.order
  pub heap_start : t.heap_start ≡ x.heap_start
  pub heap_bytes : t.heap_bytes ≡ x.heap_bytes

-- each state that a turn leads to, whatever the answer, stands between units
abbrev pub LeadsOn : State → Turn State → Type 0
LeadsOn x (moves t) = IsBetweenUnits x t
LeadsOn x (ends end) = ⊤
LeadsOn x (leaves question end) = ⊤
LeadsOn x (asks question next) = (answer : Answer) → IsBetweenUnits x (next answer)

abbrev pub last_turn : UnitTurns → Turn State
last_turn (one_turn last) = last
last_turn (two_turns slot last) = last

-- ---- in runs

abbrev pub turn_count : UnitTurns → ℕ
turn_count (one_turn last) = 1
turn_count (two_turns slot last) = 2

-- a likely branch that is not taken
abbrev pub skips : Inst → State → Bool
skips (BranchEqual name rs rt imm) x =
    equal_likely name && not (equal_taken name (register x rs) (register x rt))
skips (BranchZero name rs imm) x =
    zero_likely name && not (zero_taken name (signed_of (register x rs)))
skips (BranchSign name rs imm) x =
    sign_likely name && not (sign_taken name (signed_of (register x rs)))
skips _ x = false

-- how many turns a unit has: two where it begins with a branch that does not skip its delay slot
abbrev pub unit_turn_count : Unit → State → ℕ
unit_turn_count (Plain i) x = 1
unit_turn_count (Branch i slot) x = if skips i x then 1 else 2
unit_turn_count (SlotMissing i) x = if skips i x then 1 else 2
unit_turn_count (SlotIsBranch i word) x = if skips i x then 1 else 2
unit_turn_count Call x = 1
unit_turn_count (Trap kind value) x = 1

-- the run of a unit's turns alone
abbrev pub unit_run : {K : Type 0} → (K → Question → Option (Answer × K)) → UnitTurns → State → K
    → Run State K
unit_run reply (one_turn last) x k = run_of (λ s. last) reply 1 x k
unit_run reply (two_turns slot last) x k = run_of (λ s. last) reply 1 slot k
