-- What is counted of a run of the guest machine.
use Rattle.std.specs.Prelude.{ℕ, ◌+◌, ◌*◌, ◌%◌, ◌==◌, Bool, true, false, not, ◌&&◌, ◌||◌, nat_le, nat_lt, if◌then◌else◌, List, [], ◌∷◌, Option, Some, None, option_map}
use Rattle.std.specs.List.{count_by}
use Rattle.run_simulation_laws.specs.Trail.{Step}
use Rattle.mips_definition.specs.State.{State}
use Rattle.mips_definition.specs.Table.{inst}
use Rattle.mips_definition.specs.declared.inst.Inst.{Inst}
use Rattle.mips_definition.specs.declared.inst.Inst.TheVariants.{JumpRegister, JumpAndLinkRegister, Load, LoadLinked, Store}
use Rattle.mips_definition.specs.declared.names.store_name.StoreName.{StoreName}
use Rattle.mips_definition.specs.declared.names.store_name.StoreName.TheVariants.{Sb, Sh, Swl, Sw, Swr}
use Rattle.delay_slots.specs.Places.{Address}

-- words of the code that are translated together: the address of the first one, and how many there are
pub record Span : Type 0 where
  pub first : Address
  pub words : ℕ

abbrev pub holds : Span → Address → Bool
holds span a = nat_le span.first a && nat_lt a (span.first + 4 * span.words)

-- both addresses lie in one of the spans
abbrev pub in_one_span : List Span → Address → Address → Bool
in_one_span [] a b = false
in_one_span (span ∷ spans) a b = (holds span a && holds span b) || in_one_span spans a b

-- the instruction that a step executes: none before the loader's call is answered, or where no word can be fetched
abbrev pub instruction_at : State → Option Inst
instruction_at s = if s.begun && (s.pc % 4 == 0) then option_map inst (s.code s.pc) else None

abbrev pub is_by : (Inst → Bool) → Option Inst → Bool
is_by test None = false
is_by test (Some i) = test i

-- ---- crossings

abbrev pub is_register_jump : Inst → Bool
is_register_jump (JumpRegister rs) = true
is_register_jump (JumpAndLinkRegister rs rd) = true
is_register_jump _ = false

-- the next pc does not lie in the span of the step's own
abbrev pub goes_out : List Span → Address → Option State → Bool
goes_out spans pc None = false
goes_out spans pc (Some s) = not (in_one_span spans pc s.pc)

-- A step, not the loader's call, whose instruction is JR or JALR, or that goes out of its span.
abbrev pub crosses : List Span → Step State → Bool
crosses spans step =
    step.from.begun && (is_by is_register_jump (instruction_at step.from)
    || goes_out spans step.from.pc step.to)

abbrev pub crossings : List Span → List (Step State) → ℕ
crossings spans trail = count_by (crosses spans) trail

-- ---- accesses for which a word of memory is read: loads, LL too, and stores of less than a word; SC is none of them

abbrev pub stores_part : StoreName → Bool
stores_part Sb = true
stores_part Sh = true
stores_part Swl = true
stores_part Sw = false
stores_part Swr = true

abbrev pub reads_word : Inst → Bool
reads_word (Load name rs rt imm) = true
reads_word (LoadLinked rs rt imm) = true
reads_word (Store name rs rt imm) = stores_part name
reads_word _ = false

abbrev pub is_partial : Step State → Bool
is_partial step = is_by reads_word (instruction_at step.from)

abbrev pub partial : List (Step State) → ℕ
partial trail = count_by is_partial trail
