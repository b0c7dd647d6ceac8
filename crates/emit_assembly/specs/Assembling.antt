-- Code as operations of a class file: which code can be made into them, what it takes of the pool, when a class knows what it names,
-- and where the operations stand.
use Rattle.std.specs.Prelude.{◌≡◌, ℕ, ◌+◌, ◌-◌, ◌^◌, pos, negsuc, ◌&&◌, ◌||◌, ◌==◌, nat_lt, nat_le, Bool, true, false, if◌then◌else◌, List, [], ◌∷◌, ◌++◌, map, length, slice_index, Option, Some, None, is_some, IfSome, IsTrue}
use Rattle.std.specs.List.{flat_map, list_all, list_any}
use Rattle.std.specs.Int.{w32}
use Rattle.run_definition.specs.Words.{signed_of}
use Rattle.jvm_definition.specs.declared.table_switch.TableSwitch.{TableSwitch}
use Rattle.jvm_definition.specs.declared.array_kind.ArrayKind.TheVariants.{Pages}
use Rattle.jvm_definition.specs.declared.constant.Constant.{Constant}
use Rattle.jvm_definition.specs.declared.constant.Constant.TheVariants as constants
use Rattle.jvm_definition.specs.declared.instruction.Instruction.{Instruction}
use Rattle.jvm_definition.specs.declared.instruction.Instruction.TheVariants as instructions
use Rattle.jvm_definition.specs.declared.linked_line.LinkedLine.{LinkedLine}
use Rattle.jvm_definition.specs.Program.{line_in, instruction_targets}
use Rattle.class_definition.specs.Format.{fits_signed, chain_fits}
use Rattle.class_definition.specs.declared.entry.Entry.{Entry}
use Rattle.class_definition.specs.declared.entry.Entry.TheVariants as entries
use Rattle.class_definition.specs.PoolEntries.{slot, is_long_entry}
use Rattle.class_definition.specs.declared.class.Class.{Class}
use Rattle.class_definition.specs.declared.line.Line.{Line}
use Rattle.class_definition.specs.declared.op.Op.{Op}
use Rattle.class_definition.specs.declared.pool_name.PoolName.{PoolName}
use Rattle.class_definition.specs.declared.pool_name.PoolName.TheVariants.{Getstatic, Putstatic, Invokevirtual, Invokestatic, Anewarray}
use Rattle.class_definition.specs.Switches.{last_key}
use Rattle.class_definition.specs.Sizes.{size_at}
use Rattle.class_definition.specs.Linking.{pool_instruction, return_instruction, linked_line}
use Rattle.emit_steps.specs.declared.step.Step.{Step}
use Rattle.emit_steps.specs.declared.step.Step.TheVariants.{Does, Skips, Leaves, Selects}
use Rattle.emit_steps.specs.Offsets.{CodeOffset}
use Rattle.emit_steps.specs.Widths.{lies_from, bytes_before, size}
use Rattle.emit_steps.specs.Placing.{laid}
use Rattle.emit_steps.specs.Switches.{switches_are_placed}
use Rattle.emit_assembly.specs.declared.references.References.{References}

-- ---- which code can be assembled

-- a word from −128 to 127
abbrev pub is_signed_byte : ℕ → Bool
is_signed_byte w = nat_lt w 128 || (nat_le (2 ^ 32 - 128) w && nat_lt w (2 ^ 32))

abbrev pub has_method : References → ℕ → Bool
has_method r m = nat_le r.first_method m && nat_lt (m - r.first_method) (length r.methods)

-- the instruction has an operation: it is no branch and no switch, what it names has a slot, and what it adds is a byte
abbrev pub has_operation : References → Instruction → Bool
has_operation r (instructions.Increment i by) = is_signed_byte by
has_operation r (instructions.Get f kind) = nat_lt f (length r.fields)
has_operation r (instructions.Put f kind) = nat_lt f (length r.fields)
has_operation r (instructions.Call m) = has_method r m
has_operation r (instructions.Branch name target) = false
has_operation r (instructions.TableSwitch s) = false
has_operation r (instructions.LookupSwitch s) = false
has_operation r instructions.Wrong = false
has_operation r _ = true

-- there is a target, the least and the greatest key are signed words, and each target has 32 bits
abbrev pub switch_has_operation : TableSwitch → Bool
switch_has_operation s =
    nat_lt 0 (length s.targets) && fits_signed w32 s.low && fits_signed w32 (last_key s)
    && list_all (λ target. nat_lt target (2 ^ 32)) (s.default ∷ s.targets)

-- a branch over so many of the steps behind it goes to the end of these at most, by an offset of 16 bits with its sign
abbrev pub reaches : List Step → ℕ → Bool
reaches others k = nat_le k (length others) && nat_lt (3 + bytes_before others k) (2 ^ 15)

-- the same of a step with others behind it
abbrev pub step_has_operation : References → Step → List Step → Bool
step_has_operation r (Does instruction) others = has_operation r instruction
step_has_operation r (Skips name k) others = reaches others k
step_has_operation r (Leaves target) others = true
step_has_operation r (Selects s) others = switch_has_operation s

abbrev pub have_operations : References → List Step → Bool
have_operations r [] = true
have_operations r (s ∷ code) = step_has_operation r s code && have_operations r code

-- all steps have operations, no switch needs padding, and the offsets have 32 bits
abbrev pub can_be_assembled : References → List Step → Bool
can_be_assembled r code = nat_lt (size code) (2 ^ 32) && have_operations r code
    && switches_are_placed 0 code

-- ---- what it takes of the pool

-- the slots of a constant's entry: sipush and shorter forms need none, and a long takes two
abbrev pub constant_slots : Constant → ℕ
constant_slots constants.Null = 0
constant_slots (constants.Int n) = if lies_from (negsuc 32767) (pos 32767) (signed_of n) then 0
    else 1
constant_slots (constants.Long n) = 2
constant_slots (constants.Text class slot) = 1

-- the constant that a step pushes, if it pushes one
abbrev pub constant_of : Step → Option Constant
constant_of (Does (instructions.Push constant)) = Some constant
constant_of s = None

abbrev pub listed : Option Constant → List Constant
listed None = []
listed (Some constant) = constant ∷ []

abbrev pub pushed_by : Step → List Constant
pushed_by s = listed (constant_of s)

abbrev pub constants_of : List Step → List Constant
constants_of code = flat_map pushed_by code

abbrev pub same_constant : Constant → Constant → Bool
same_constant constants.Null constants.Null = true
same_constant (constants.Int n) (constants.Int m) = n == m
same_constant (constants.Long n) (constants.Long m) = n == m
same_constant (constants.Text class slot) (constants.Text other_class other_slot) =
    class == other_class && slot == other_slot
same_constant _ _ = false

-- the slots of constants that are the same as none before them; some stand before all of them
abbrev pub slots_beside : List Constant → List Constant → ℕ
slots_beside before [] = 0
slots_beside before (c ∷ constants) =
    (if list_any (same_constant c) before then 0 else constant_slots c)
    + slots_beside (c ∷ before) constants

-- the slots of the constants of all steps, if none were there: each constant takes them once
abbrev pub slots_of : List Step → ℕ
slots_of code = slots_beside [] (constants_of code)

-- a pool is another one with entries behind
pub record Extends (old new : List Entry) : Type 0 where
  pub behind : List Entry
  pub is : new ≡ old ++ behind

-- a step pushes the text in a slot
abbrev pub pushes_text : ℕ → Step → Bool
pushes_text slot (Does (instructions.Push (constants.Text class text))) = text == slot
pushes_text slot _ = false

-- what code may put behind a pool: numbers, and the texts that it pushes
abbrev pub is_constant_of : List Step → Entry → Bool
is_constant_of code (entries.Integer n) = true
is_constant_of code (entries.Long n) = true
is_constant_of code entries.LongRest = true
is_constant_of code (entries.Text slot) = list_any (pushes_text slot) code
is_constant_of code _ = false

-- entries that can stand in a class file, one after the other: each number has its width, and a long has the slot behind it
abbrev pub can_stand : List Entry → Bool
can_stand es = chain_fits slot (λ _ e. is_long_entry e) false es

-- a pool is another one with constants of code behind
pub record Adds (code : List Step) (old new : List Entry) : Type 0 where
  pub behind : List Entry
  pub is : new ≡ old ++ behind
  pub constants : IsTrue (list_all (is_constant_of code) behind)
  pub stand : IsTrue (can_stand behind)

-- ---- a class in which it stands, with its number among classes; its method gives an int or nothing

-- the opcode and the slot of an instruction that names a field, a method or a class
abbrev pub reference_of : References → Instruction → Option (PoolName × ℕ)
reference_of r (instructions.Get f kind) = Some (Getstatic, slice_index r.fields f)
reference_of r (instructions.Put f kind) = Some (Putstatic, slice_index r.fields f)
reference_of r instructions.Length = Some (Invokevirtual, r.string_length)
reference_of r instructions.CharAt = Some (Invokevirtual, r.string_char_at)
reference_of r (instructions.Call m) =
    Some (Invokestatic, slice_index r.methods (m - r.first_method))
reference_of r instructions.CallHost = Some (Invokestatic, r.host_call)
reference_of r instructions.FaultHost = Some (Invokestatic, r.host_fault)
reference_of r (instructions.NewArray Pages) = Some (Anewarray, r.ints_class)
reference_of r _ = None

-- what an instruction names is there: in its slot stands what it means, a text is one of the class, and a return is of the method's kind
abbrev pub IsKnown : References → List Class → ℕ → Class → Bool → Instruction → Type 0
IsKnown r classes number c gives (instructions.Push (constants.Text class slot)) = class ≡ number
IsKnown r classes number c gives (instructions.Return name) =
    return_instruction gives name ≡ instructions.Return name
IsKnown r classes number c gives instruction =
    IfSome (reference_of r instruction) (λ x. pool_instruction classes number c x.0 x.1
    ≡ instruction)

abbrev pub StepIsKnown : References → List Class → ℕ → Class → Bool → Step → Type 0
StepIsKnown r classes number c gives (Does instruction) =
    IsKnown r classes number c gives instruction
StepIsKnown r classes number c gives (Skips name k) = Unit {0}
StepIsKnown r classes number c gives (Leaves target) = Unit {0}
StepIsKnown r classes number c gives (Selects s) = Unit {0}

abbrev pub AreKnown : References → List Class → ℕ → Class → Bool → List Step → Type 0
AreKnown r classes number c gives [] = Unit {0}
AreKnown r classes number c gives (s ∷ code) = StepIsKnown r classes number c gives s
    × AreKnown r classes number c gives code

-- ---- where the operations stand

-- operations one after the other, the first one at an offset
abbrev pub lines_at : CodeOffset → List Op → List Line
lines_at at [] = []
lines_at at (op ∷ ops) = record { at = at; op = op } ∷ lines_at (at + size_at at op) ops

-- the bytes of a line, and of lines
abbrev pub line_size : Line → ℕ
line_size l = size_at l.at l.op

abbrev pub lines_size : List Line → ℕ
lines_size [] = 0
lines_size (l ∷ lines) = line_size l + lines_size lines

-- In each class that knows what code names, and whose pool has this one at its front, lines are linked to those of the code.
abbrev pub AreLinked : References → List Entry → List Step → List Line → Type 0
AreLinked r pool code lines =
    (classes : List Class) (number : ℕ) (c : Class) (gives : Bool) → Extends pool c.pool
    → AreKnown r classes number c gives code
    → map (linked_line classes number c gives) lines ≡ laid 0 code

-- ---- code of a method

-- each target is the offset of a line
abbrev pub targets_are_lines : List LinkedLine → Bool
targets_are_lines lines =
    list_all (λ l. list_all (λ target. is_some (line_in lines target)) (instruction_targets l.instruction))
    lines

-- there is a step, there are at most 65,535 bytes, and each target is a step's offset
abbrev pub is_method : List Step → Bool
is_method code = nat_lt 0 (length code) && nat_le (size code) 65535
    && targets_are_lines (laid 0 code)
