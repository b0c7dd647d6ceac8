-- What the code of a unit counts beside what the unit's turns count.
use Rattle.std.specs.Prelude.{◌≡◌, ℕ, ◌+◌, ◌*◌, ◌<◌, ◌≤◌, Bool, false, if◌then◌else◌, ⊤}
use Rattle.run_definition.specs.declared.order.Order.{Order}
use Rattle.run_definition.specs.Turn.{Turn, leaves, asks}
use Rattle.mips_definition.specs.State.{State}
use Rattle.mips_definition.specs.declared.inst.Inst.{Inst}
use Rattle.delay_slots.specs.declared.unit.Unit.{Unit}
use Rattle.delay_slots.specs.declared.unit.Unit.TheVariants.{Plain, Branch}
use Rattle.delay_slots.specs.Turns.{unit_turns, turn_count, last_turn, skips}
use Rattle.jvm_definition.specs.declared.instruction.Instruction.{Instruction}
use Rattle.jvm_definition.specs.Effect.{Workspace}
use Rattle.emit_steps.specs.Widths.{size}
use Rattle.emit_steps.specs.Offsets.{CodeOffset}
use Rattle.emit_steps.specs.Placing.{LiesAt}
use Rattle.emit_instructions.specs.Units.{unit_code}
use Rattle.emit_paths_laws.specs.Classes.{reads, chars, switches, entries}
use Rattle.emit_paths_laws.specs.Guest.{reads_word}
use Rattle.emit_simulation_laws.specs.Lawful.{IsLawful, KnownByUnit}
use Rattle.emit_simulation_laws.specs.Helpers.{helper_count}
use Rattle.emit_simulation_laws.specs.Holding.{HoldsOn}
use Rattle.emit_simulation_laws.specs.Sites.{Site, stands}
use Rattle.emit_simulation_laws.specs.Following.{Follows}
use Rattle.emit_instructions_laws.specs.Instructions.{IsReady}
use Rattle.emit_instructions_laws.specs.Units.{UnitArrives}

-- A total counts at most so many reads of words and so many entries and switches, and no character.
pub record Counts (is_span : ℕ → Bool) (most_reads most_entries : ℕ) (total : (Instruction → ℕ) → ℕ)
    : Type 0 where
  pub few_reads : total reads ≤ most_reads
  pub no_chars : total chars ≡ 0
  pub few_switches : total switches ≤ most_entries
  pub few_entries : total (entries is_span) ≤ most_entries

-- the helper methods, which are a program's first, are no spans
abbrev pub SparesHelpers : (ℕ → Bool) → Type 0
SparesHelpers is_span = (h : ℕ) → h < helper_count → is_span h ≡ false

-- ---- what a unit's turns read

-- how many words of memory are read for an instruction
abbrev pub words_read_by : Inst → ℕ
words_read_by i = if reads_word i then 1 else 0

-- how many of a unit's turns read a word: a slot that is passed over reads none
abbrev pub unit_reads : Unit → State → ℕ
unit_reads (Plain i) x = words_read_by i
unit_reads (Branch i slot) x = if skips i x then 0 else words_read_by slot
unit_reads unit x = 0

-- no word is read where a turn calls the system
abbrev pub ReadsNoneToCall : ((Instruction → ℕ) → ℕ) → Turn State → Type 0
ReadsNoneToCall total (leaves question end) = total reads ≡ 0
ReadsNoneToCall total (asks question next) = total reads ≡ 0
ReadsNoneToCall total _ = ⊤

-- ---- the law

-- The code of a unit follows the unit's turns, and counts no more reads than they make, and nothing else.
pub record UnitCounts (site : Site) (bank : ℕ) (known : ℕ → Bool) (at : CodeOffset) (w : Workspace)
    (x : State) (unit : Unit) (is_span : ℕ → Bool) : Type 0 where
  pub total : (Instruction → ℕ) → ℕ
  pub counts : Counts is_span (unit_reads unit x) 0 total
  pub follows : Follows site at (at + size (unit_code bank unit x.pc))
      (turn_count (unit_turns unit x)) (132 * turn_count (unit_turns unit x)) total
      (UnitArrives bank known unit x.pc w) (stands site at w) (last_turn (unit_turns unit x))
  pub asking : ReadsNoneToCall total (last_turn (unit_turns unit x))

-- so does the code of every lawful unit, wherever it lies, from each workspace that holds the state
abbrev pub UnitsAreCounted : Type 0
UnitsAreCounted =
    (unit : Unit) (site : Site) (order : Order) (bank : ℕ) (known : ℕ → Bool) (at : CodeOffset)
    (w : Workspace) (x : State) (is_span : ℕ → Bool)
    → IsLawful unit
    → IsReady site order
    → x.order ≡ order
    → LiesAt site.program site.method at (unit_code bank unit x.pc)
    → KnownByUnit known unit
    → HoldsOn bank known w x
    → SparesHelpers is_span
    → UnitCounts site bank known at w x unit is_span
