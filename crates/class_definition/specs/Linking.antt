-- The program that classes are: their fields and methods, numbered class by class, and instructions with what they name.
use Rattle.std.specs.Prelude.{◌≡◌, ℕ, zero, suc, ◌+◌, ◌-◌, ◌^◌, ◌==◌, nat_eq, ℤ, Bool, if◌then◌else◌, List, [], ◌∷◌, ◌++◌, map, length, flat_map, codes, slice_get, slice_index, Option, Some, None, Result, Ok, Err, unwrap_or}
use Rattle.std.specs.List.{starts_with}
use Rattle.std.specs.Int.{w64, cast_unsigned}
use Rattle.run_definition.specs.Words.{unsigned_of}
use Rattle.jvm_definition.specs.declared.return_name.ReturnName.{ReturnName}
use Rattle.jvm_definition.specs.declared.return_name.ReturnName.TheVariants as returns
use Rattle.jvm_definition.specs.declared.branch_name.BranchName.TheVariants.{Goto}
use Rattle.jvm_definition.specs.declared.kind.Kind.{Kind}
use Rattle.jvm_definition.specs.declared.kind.Kind.TheVariants as kinds
use Rattle.jvm_definition.specs.declared.constant.Constant.TheVariants as constants
use Rattle.jvm_definition.specs.declared.local_kind.LocalKind.TheVariants as local_kinds
use Rattle.jvm_definition.specs.declared.array_kind.ArrayKind.TheVariants as array_kinds
use Rattle.jvm_definition.specs.declared.linked_line.LinkedLine.{LinkedLine}
use Rattle.jvm_definition.specs.declared.linked_method.LinkedMethod.{LinkedMethod}
use Rattle.jvm_definition.specs.declared.instruction.Instruction.{Instruction}
use Rattle.jvm_definition.specs.declared.instruction.Instruction.TheVariants as instructions
use Rattle.jvm_definition.specs.Program.{Program}
use Rattle.jvm_definition.specs.Typing.{AllTyped}
use Rattle.class_definition.specs.declared.miss.Miss.{Miss}
use Rattle.class_definition.specs.declared.entry.Entry.{Entry}
use Rattle.class_definition.specs.declared.entry.Entry.TheVariants as entries
use Rattle.class_definition.specs.NameGrammar.{same_text, after_field}
use Rattle.class_definition.specs.PoolChecks.{entry_at}
use Rattle.class_definition.specs.declared.class.Class.{Class}
use Rattle.class_definition.specs.declared.member.Member.{Member}
use Rattle.class_definition.specs.declared.method.Method.{Method}
use Rattle.class_definition.specs.declared.line.Line.{Line}
use Rattle.class_definition.specs.declared.op.Op.{Op}
use Rattle.class_definition.specs.declared.op.Op.TheVariants as ops
use Rattle.class_definition.specs.declared.iconst.Iconst.{Iconst}
use Rattle.class_definition.specs.declared.iconst.Iconst.TheVariants as iconsts
use Rattle.class_definition.specs.declared.local_name.LocalName.{LocalName}
use Rattle.class_definition.specs.declared.local_name.LocalName.TheVariants.{Iload, Aload, Istore, Astore}
use Rattle.class_definition.specs.declared.short_index.ShortIndex.{ShortIndex}
use Rattle.class_definition.specs.declared.short_index.ShortIndex.TheVariants as short_indices
use Rattle.class_definition.specs.declared.pool_name.PoolName.{PoolName}
use Rattle.class_definition.specs.declared.pool_name.PoolName.TheVariants.{LdcW, Ldc2W, Getstatic, Putstatic, Invokevirtual, Invokestatic, Anewarray}
use Rattle.class_definition.specs.Code.{lines_from}
use Rattle.class_definition.specs.Sizes.{size_at}
use Rattle.class_definition.specs.MemberNames.{Signature, same_signature, Reference, reference_to, slot_text, class_name_at, own_name, signature_at, string_name, host_name, length_signature, char_at_signature, host_call_signature, host_fault_signature, field_number, method_number}
use Rattle.class_definition.specs.LinkFault.{run_signature, link_fault}

-- ---- types of descriptors (JVM Specification, 4.3)

abbrev pub descriptor_kind : List ℕ → Kind
descriptor_kind descriptor =
    if same_text descriptor (codes "I") then kinds.Int
    else if same_text descriptor (codes "[I") then kinds.Ints
    else if same_text descriptor (codes "[[I") then kinds.Pages
    else kinds.Text

-- the type of the field descriptor at the front
abbrev pub front_kind : List ℕ → Kind
front_kind cs =
    if starts_with nat_eq cs (codes "I") then kinds.Int
    else if starts_with nat_eq cs (codes "[I") then kinds.Ints
    else if starts_with nat_eq cs (codes "[[I") then kinds.Pages
    else kinds.Text

-- the type of a parameter and those of the others, if there is one
abbrev pub then_kinds : (List ℕ → List Kind) → Kind → Option (List ℕ) → List Kind
then_kinds others kind None = []
then_kinds others kind (Some rest) = kind ∷ others rest

-- the types of at most so many parameters, and the first one's before the others
unfoldable pub parameters_from : ℕ → List ℕ → List Kind
parameters_from zero cs = []
parameters_from (suc n) cs = then_kinds (parameters_from n) (front_kind cs) (after_field cs)

abbrev pub parameters_of : List ℕ → List Kind
parameters_of [] = []
parameters_of (c ∷ descriptor) = parameters_from 255 descriptor

-- a method descriptor ends with what the method gives
abbrev pub gives_int : List ℕ → Bool
gives_int descriptor = slice_index descriptor (length descriptor - 1) == 73

-- ---- fields

abbrev pub field_kind : Class → Member → Kind
field_kind c f = descriptor_kind (slot_text c f.desc)

abbrev pub field_kinds : List Class → List Kind
field_kinds classes = flat_map (λ c. map (field_kind c) c.fields) classes

-- ---- references

-- a field with its type, where there is one
abbrev pub field_of_number : (ℕ → Kind → Instruction) → Option ℕ → Signature → Instruction
field_of_number make None s = instructions.Wrong
field_of_number make (Some n) s = make n (descriptor_kind s.descriptor)

abbrev pub field_instruction : List Class → (ℕ → Kind → Instruction) → Class → Option Entry
    → Instruction
field_instruction classes make c (Some (entries.FieldRef class name)) =
    field_of_number make (field_number classes (reference_to (class_name_at c class) (signature_at c name)))
    (signature_at c name)
field_instruction classes make c _ = instructions.Wrong

abbrev pub call_of_number : Option ℕ → Instruction
call_of_number None = instructions.Wrong
call_of_number (Some n) = instructions.Call n

-- a method of the host
abbrev pub host_method : Signature → Instruction
host_method s =
    if same_signature s host_call_signature then instructions.CallHost
    else if same_signature s host_fault_signature then instructions.FaultHost
    else instructions.Wrong

-- a call of a method of the classes, or of the host
abbrev pub static_call : List Class → Reference → Instruction
static_call classes r = if same_text r.class_name host_name then host_method r.signature
    else call_of_number (method_number classes r)

-- a method of strings
abbrev pub string_method : Signature → Instruction
string_method s =
    if same_signature s length_signature then instructions.Length
    else if same_signature s char_at_signature then instructions.CharAt else instructions.Wrong

-- a call of a method of strings
abbrev pub string_call : Reference → Instruction
string_call r = if same_text r.class_name string_name then string_method r.signature
    else instructions.Wrong

abbrev pub call_instruction : (Reference → Instruction) → Class → Option Entry → Instruction
call_instruction call c (Some (entries.MethodRef class name)) =
    call (reference_to (class_name_at c class) (signature_at c name))
call_instruction call c _ = instructions.Wrong

-- ---- constants, of a class with a number

abbrev pub iconst_word : Iconst → ℕ
iconst_word iconsts.M1 = 2 ^ 32 - 1
iconst_word iconsts.Zero = 0
iconst_word iconsts.One = 1
iconst_word iconsts.Two = 2
iconst_word iconsts.Three = 3
iconst_word iconsts.Four = 4
iconst_word iconsts.Five = 5

abbrev pub pushed_int : ℤ → Instruction
pushed_int n = instructions.Push (constants.Int (unsigned_of n))

-- ldc takes an int or a string
abbrev pub word_constant : ℕ → Option Entry → Instruction
word_constant number (Some (entries.Integer n)) = pushed_int n
word_constant number (Some (entries.Text slot)) = instructions.Push (constants.Text number slot)
word_constant number _ = instructions.Wrong

abbrev pub long_constant : Option Entry → Instruction
long_constant (Some (entries.Long n)) = instructions.Push (constants.Long (cast_unsigned w64 n))
long_constant _ = instructions.Wrong

-- a new array of arrays of ints
abbrev pub array_instruction : List ℕ → Instruction
array_instruction name = if same_text name (codes "[I") then instructions.NewArray array_kinds.Pages
    else instructions.Wrong

abbrev pub pool_instruction : List Class → ℕ → Class → PoolName → ℕ → Instruction
pool_instruction classes number c LdcW slot = word_constant number (entry_at c.pool slot)
pool_instruction classes number c Ldc2W slot = long_constant (entry_at c.pool slot)
pool_instruction classes number c Getstatic slot =
    field_instruction classes instructions.Get c (entry_at c.pool slot)
pool_instruction classes number c Putstatic slot =
    field_instruction classes instructions.Put c (entry_at c.pool slot)
pool_instruction classes number c Invokevirtual slot =
    call_instruction string_call c (entry_at c.pool slot)
pool_instruction classes number c Invokestatic slot =
    call_instruction (static_call classes) c (entry_at c.pool slot)
pool_instruction classes number c Anewarray slot = array_instruction (class_name_at c slot)

-- ---- local variables

abbrev pub local_instruction : LocalName → ℕ → Instruction
local_instruction Iload i = instructions.Load local_kinds.Int i
local_instruction Aload i = instructions.Load local_kinds.Reference i
local_instruction Istore i = instructions.Store local_kinds.Int i
local_instruction Astore i = instructions.Store local_kinds.Reference i

abbrev pub short_index : ShortIndex → ℕ
short_index short_indices.Zero = 0
short_index short_indices.One = 1
short_index short_indices.Two = 2
short_index short_indices.Three = 3

-- ---- instructions

-- a return of the kind of its method
abbrev pub return_instruction : Bool → ReturnName → Instruction
return_instruction gives returns.Ireturn = if gives then instructions.Return returns.Ireturn
    else instructions.Wrong
return_instruction gives returns.Return = if gives then instructions.Wrong
    else instructions.Return returns.Return

-- the instruction of a method of a class with a number; the method gives an int or nothing
abbrev pub linked_instruction : List Class → ℕ → Class → Bool → Op → Instruction
linked_instruction classes number c gives ops.Nop = instructions.Nop
linked_instruction classes number c gives ops.AconstNull = instructions.Push constants.Null
linked_instruction classes number c gives (ops.Iconst name) =
    instructions.Push (constants.Int (iconst_word name))
linked_instruction classes number c gives (ops.Bipush n) = pushed_int n
linked_instruction classes number c gives (ops.Sipush n) = pushed_int n
linked_instruction classes number c gives (ops.Ldc slot) =
    word_constant number (entry_at c.pool slot)
linked_instruction classes number c gives (ops.Pool name slot) =
    pool_instruction classes number c name slot
linked_instruction classes number c gives (ops.Local name index) = local_instruction name index
linked_instruction classes number c gives (ops.ShortLocal name index) =
    local_instruction name (short_index index)
linked_instruction classes number c gives (ops.Array name) = instructions.Array name
linked_instruction classes number c gives (ops.Stack name) = instructions.Stack name
linked_instruction classes number c gives (ops.IntArithmetic name) = instructions.IntArithmetic name
linked_instruction classes number c gives (ops.IntDivision name) = instructions.IntDivision name
linked_instruction classes number c gives (ops.IntShift name) = instructions.IntShift name
linked_instruction classes number c gives (ops.LongArithmetic name) =
    instructions.LongArithmetic name
linked_instruction classes number c gives (ops.LongDivision name) = instructions.LongDivision name
linked_instruction classes number c gives (ops.LongShift name) = instructions.LongShift name
linked_instruction classes number c gives (ops.Iinc index n) =
    instructions.Increment index (unsigned_of n)
linked_instruction classes number c gives (ops.Convert name) = instructions.Convert name
linked_instruction classes number c gives ops.Lcmp = instructions.LongCompare
linked_instruction classes number c gives (ops.Branch name target) = instructions.Branch name target
linked_instruction classes number c gives (ops.GotoW target) = instructions.Branch Goto target
linked_instruction classes number c gives (ops.TableSwitch s) = instructions.TableSwitch s
linked_instruction classes number c gives (ops.LookupSwitch s) = instructions.LookupSwitch s
linked_instruction classes number c gives (ops.Give name) = return_instruction gives name
linked_instruction classes number c gives ops.Newarray = instructions.NewArray array_kinds.Ints
linked_instruction classes number c gives ops.Arraylength = instructions.ArrayLength

abbrev pub linked_line : List Class → ℕ → Class → Bool → Line → LinkedLine
linked_line classes number c gives l =
    record {
      at = l.at;
      next = l.at + size_at l.at l.op;
      instruction = linked_instruction classes number c gives l.op;
    }

-- ---- methods

abbrev pub lines_read : Result (List Line) Miss → List Line
lines_read (Ok lines) = lines
lines_read (Err miss) = []

-- the instructions of code without a fault
abbrev pub lines_of_code : List ℕ → List Line
lines_of_code code = lines_read (lines_from (length code) (length code) code)

unfoldable pub linked_method : List Class → ℕ → Class → Method → LinkedMethod
linked_method classes number c m = record {
  parameters = parameters_of (slot_text c m.desc);
  gives_int = gives_int (slot_text c m.desc);
  stack = m.stack;
  locals = m.locals;
  lines = map (linked_line classes number c (gives_int (slot_text c m.desc))) (lines_of_code m.code);
}

-- the methods of classes from a number on, of all classes
abbrev pub methods_from : List Class → ℕ → List Class → List LinkedMethod
methods_from classes number [] = []
methods_from classes number (c ∷ others) =
    map (linked_method classes number c) c.methods ++ methods_from classes (suc number) others

abbrev pub linked_methods : List Class → List LinkedMethod
linked_methods classes = methods_from classes 0 classes

-- ---- the program

-- the number of the first class's method run()V: that class's methods are the first ones
abbrev pub first_method : List Class → ℕ
first_method [] = 0
first_method (c ∷ classes) =
    unwrap_or (method_number (c ∷ classes) (reference_to (own_name c) run_signature)) 0

abbrev pub class_characters : Option Class → ℕ → List ℕ
class_characters None slot = []
class_characters (Some c) slot = slot_text c slot

abbrev pub program_of : List Class → Program
program_of classes = record {
  field = slice_get (field_kinds classes);
  method = slice_get (linked_methods classes);
  characters = λ number slot. class_characters (slice_get classes number) slot;
  first = first_method classes;
}

-- classes that link, and whose methods are all typed
pub record Accepted (classes : List Class) : Type 0 where
  pub links : link_fault classes ≡ None
  pub typed : AllTyped (program_of classes)
