-- The leaders of a range of code: the words at which its basic blocks begin. A word of the range goes by its number, from 0 on.
use Rattle.std.specs.Prelude.{◌≡◌, ℕ, ◌+◌, ◌*◌, ◌<◌, Bool, true, false, not, ◌&&◌, ◌||◌, ◌==◌, List, [], ◌∷◌, length, slice_index_or, Option, Some, None}
use Rattle.mips_definition.specs.Targets.{branch_target, jump_target}
use Rattle.mips_definition.specs.declared.inst.Inst.{Inst}
use Rattle.mips_definition.specs.declared.inst.Inst.TheVariants.{BranchSign, Jump, BranchEqual, BranchZero}
use Rattle.delay_slots.specs.declared.unit.Unit.{Unit}
use Rattle.delay_slots.specs.declared.unit.Unit.TheVariants.{Plain, Branch, SlotMissing, SlotIsBranch}
use Rattle.delay_slots.specs.Places.{Address, WordIndex}

-- ---- where the program goes

-- the target of a branch, J or JAL at an address; JR and JALR go where a register says
abbrev pub inst_target : Inst → Address → Option Address
inst_target (BranchSign name rs imm) at = Some (branch_target at imm)
inst_target (Jump name index) at = Some (jump_target at index)
inst_target (BranchEqual name rs rt imm) at = Some (branch_target at imm)
inst_target (BranchZero name rs imm) at = Some (branch_target at imm)
inst_target _ at = None

-- the target of a unit at an address, if its instruction is one of these, whatever stands in its delay slot
abbrev pub direct : Unit → Address → Option Address
direct (Branch i slot) at = inst_target i at
direct (SlotMissing i) at = inst_target i at
direct (SlotIsBranch i word) at = inst_target i at
direct _ at = None

-- an instruction after which the program goes on with the next word
abbrev pub is_plain : Unit → Bool
is_plain (Plain i) = true
is_plain _ = false

-- a unit's words: its own, and that of its delay slot
abbrev pub words_of : Unit → ℕ
words_of (Branch i slot) = 2
words_of _ = 1

-- ---- leaders

abbrev pub is_at : Option Address → Address → Bool
is_at None address = false
is_at (Some target) address = target == address

-- the unit of word i makes word k a leader: word k is its direct target, or it is the next word behind a unit that is not Plain,
-- and behind its delay slot
abbrev pub makes_leader : Address → Unit → WordIndex → WordIndex → Bool
makes_leader start unit i k = is_at (direct unit (start + 4 * i)) (start + 4 * k)
    || (not (is_plain unit) && k == i + words_of unit)

-- one of the units from word i on does
abbrev pub make_leader : Address → List Unit → WordIndex → WordIndex → Bool
make_leader start [] i k = false
make_leader start (unit ∷ units) i k =
    makes_leader start unit i k || make_leader start units (i + 1) k

-- word k of the range whose first word is at an address
abbrev pub is_leader : List Unit → Address → WordIndex → Bool
is_leader units start k = k == 0 || make_leader start units 0 k

-- ---- flags, one for each word

-- A word is flagged where it was, or where the test says so.
pub record Marks (old new : List Bool) (test : ℕ → Bool) : Type 0 where
  pub same_len : length new ≡ length old
  pub flags : (k : ℕ) → k < length old → slice_index_or new k false
      ≡ (slice_index_or old k false || test k)

-- The leaders are flagged.
pub record AreLeaders (units : List Unit) (start : Address) (flags : List Bool) : Type 0 where
  pub same_len : length flags ≡ length units
  pub leads : (k : WordIndex) → k < length units
      → slice_index_or flags k false ≡ is_leader units start k
