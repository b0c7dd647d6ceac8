-- JVM Specification, 4.10: when a method's code is typed. A typing gives the frame with which an instruction is entered.
use Rattle.std.specs.Prelude.{◌≡◌, ℕ, ◌+◌, ◌==◌, ◌<◌, ◌≤◌, ◌&&◌, Bool, true, false, not, if◌then◌else◌, List, [], ◌∷◌, ◌++◌, length, slice_index_or, Option, Some, None, option_map, All}
use Rattle.jvm_definition.specs.declared.array_name.ArrayName.{ArrayName}
use Rattle.jvm_definition.specs.declared.array_name.ArrayName.TheVariants.{Iaload, Aaload, Iastore, Aastore}
use Rattle.jvm_definition.specs.declared.branch_name.BranchName.{BranchName}
use Rattle.jvm_definition.specs.declared.branch_name.BranchName.TheVariants.{Ifeq, Ifne, Iflt, Ifge, Ifgt, Ifle, IfIcmpeq, IfIcmpne, IfIcmplt, IfIcmpge, IfIcmpgt, IfIcmple, Goto, Ifnull, Ifnonnull}
use Rattle.jvm_definition.specs.declared.conversion.Conversion.{Conversion}
use Rattle.jvm_definition.specs.declared.conversion.Conversion.TheVariants.{I2l, L2i, I2b, I2c, I2s}
use Rattle.jvm_definition.specs.declared.return_name.ReturnName.{ReturnName}
use Rattle.jvm_definition.specs.declared.return_name.ReturnName.TheVariants as returns
use Rattle.jvm_definition.specs.declared.array_kind.ArrayKind.{ArrayKind}
use Rattle.jvm_definition.specs.declared.array_kind.ArrayKind.TheVariants as array_kinds
use Rattle.jvm_definition.specs.declared.constant.Constant.{Constant}
use Rattle.jvm_definition.specs.declared.constant.Constant.TheVariants as constants
use Rattle.jvm_definition.specs.declared.kind.Kind.{Kind}
use Rattle.jvm_definition.specs.declared.kind.Kind.TheVariants.{Top, Int, Long, Null, Ints, Pages, Text}
use Rattle.jvm_definition.specs.declared.local_kind.LocalKind.{LocalKind}
use Rattle.jvm_definition.specs.declared.local_kind.LocalKind.TheVariants as local_kinds
use Rattle.jvm_definition.specs.declared.linked_line.LinkedLine.{LinkedLine}
use Rattle.jvm_definition.specs.declared.linked_method.LinkedMethod.{LinkedMethod}
use Rattle.jvm_definition.specs.declared.instruction.Instruction.{Instruction}
use Rattle.jvm_definition.specs.declared.instruction.Instruction.TheVariants.{Nop, Push, Load, Store, Array, Stack, IntArithmetic, IntDivision, IntShift, LongArithmetic, LongDivision, LongShift, Increment, Convert, LongCompare, Branch, TableSwitch, LookupSwitch, Get, Put, Length, CharAt, Call, CallHost, FaultHost, Return, NewArray, ArrayLength, Wrong}
use Rattle.jvm_definition.specs.Shuffles.{Shuffle, forms_of, shuffled}
use Rattle.jvm_definition.specs.Program.{Program, line_in, successors}
use Rattle.jvm_definition.specs.Effect.{last_first}

-- ---- types

abbrev pub same_kind : Kind → Kind → Bool
same_kind Top Top = true
same_kind Int Int = true
same_kind Long Long = true
same_kind Null Null = true
same_kind Ints Ints = true
same_kind Pages Pages = true
same_kind Text Text = true
same_kind _ _ = false

abbrev pub is_reference_kind : Kind → Bool
is_reference_kind Null = true
is_reference_kind Ints = true
is_reference_kind Pages = true
is_reference_kind Text = true
is_reference_kind _ = false

abbrev pub is_long_kind : Kind → Bool
is_long_kind Long = true
is_long_kind _ = false

-- each type is below itself and below Top, and null below the types of references
abbrev pub below : Kind → Kind → Bool
below Null Ints = true
below Null Pages = true
below Null Text = true
below kind Top = true
below kind other = same_kind kind other

-- ---- frames

-- the types of the local variables and of the operands, top first
pub record TypeFrame : Type 0 where
  pub locals : ℕ → Kind
  pub stack : List Kind

abbrev pub stack_below : List Kind → List Kind → Bool
stack_below [] [] = true
stack_below [] (k ∷ others) = false
stack_below (k ∷ kinds) [] = false
stack_below (k ∷ kinds) (o ∷ others) = below k o && stack_below kinds others

pub record Below (f g : TypeFrame) : Type 0 where
  pub locals : (i : ℕ) → below (f.locals i) (g.locals i) ≡ true
  pub stack : stack_below f.stack g.stack ≡ true

-- an operand has a type of its own
abbrev pub no_top : List Kind → Bool
no_top [] = true
no_top (Top ∷ kinds) = false
no_top (k ∷ kinds) = no_top kinds

-- a long counts as two operands
abbrev pub slots_of : List Kind → ℕ
slots_of [] = 0
slots_of (k ∷ kinds) = (if is_long_kind k then 2 else 1) + slots_of kinds

-- ---- what an instruction takes and gives

-- It takes operands below some types, top first, and gives others; takes a reference, or one to an array; moves a local variable of a
-- kind to the operands, or back; adds to one that is an int; moves operands; or has no type.
pub data TypeEffect : Type 0 where
  exchanges : List Kind → List Kind → TypeEffect
  takes_reference : TypeEffect
  takes_array : TypeEffect
  loads : LocalKind → ℕ → TypeEffect
  stores : LocalKind → ℕ → TypeEffect
  increments : ℕ → TypeEffect
  shuffles : List Shuffle → TypeEffect
  never : TypeEffect

abbrev pub constant_kind : Constant → Kind
constant_kind constants.Null = Null
constant_kind (constants.Int n) = Int
constant_kind (constants.Long n) = Long
constant_kind (constants.Text class slot) = Text

abbrev pub access_type : ArrayName → TypeEffect
access_type Iaload = exchanges (Int ∷ Ints ∷ []) (Int ∷ [])
access_type Aaload = exchanges (Int ∷ Pages ∷ []) (Ints ∷ [])
access_type Iastore = exchanges (Int ∷ Int ∷ Ints ∷ []) []
access_type Aastore = exchanges (Ints ∷ Int ∷ Pages ∷ []) []

abbrev pub conversion_type : Conversion → TypeEffect
conversion_type I2l = exchanges (Int ∷ []) (Long ∷ [])
conversion_type L2i = exchanges (Long ∷ []) (Int ∷ [])
conversion_type I2b = exchanges (Int ∷ []) (Int ∷ [])
conversion_type I2c = exchanges (Int ∷ []) (Int ∷ [])
conversion_type I2s = exchanges (Int ∷ []) (Int ∷ [])

abbrev pub branch_type : BranchName → TypeEffect
branch_type Ifeq = exchanges (Int ∷ []) []
branch_type Ifne = exchanges (Int ∷ []) []
branch_type Iflt = exchanges (Int ∷ []) []
branch_type Ifge = exchanges (Int ∷ []) []
branch_type Ifgt = exchanges (Int ∷ []) []
branch_type Ifle = exchanges (Int ∷ []) []
branch_type IfIcmpeq = exchanges (Int ∷ Int ∷ []) []
branch_type IfIcmpne = exchanges (Int ∷ Int ∷ []) []
branch_type IfIcmplt = exchanges (Int ∷ Int ∷ []) []
branch_type IfIcmpge = exchanges (Int ∷ Int ∷ []) []
branch_type IfIcmpgt = exchanges (Int ∷ Int ∷ []) []
branch_type IfIcmple = exchanges (Int ∷ Int ∷ []) []
branch_type Goto = exchanges [] []
branch_type Ifnull = takes_reference
branch_type Ifnonnull = takes_reference

abbrev pub given_by : Bool → List Kind
given_by gives_int = if gives_int then Int ∷ [] else []

abbrev pub call_type : Option LinkedMethod → TypeEffect
call_type None = never
call_type (Some method) = exchanges (last_first method.parameters []) (given_by method.gives_int)

abbrev pub return_type : ReturnName → TypeEffect
return_type returns.Ireturn = exchanges (Int ∷ []) []
return_type returns.Return = exchanges [] []

abbrev pub array_type : ArrayKind → Kind
array_type array_kinds.Ints = Ints
array_type array_kinds.Pages = Pages

abbrev pub type_effect : Program → Instruction → TypeEffect
type_effect program Nop = exchanges [] []
type_effect program (Push constant) = exchanges [] (constant_kind constant ∷ [])
type_effect program (Load kind i) = loads kind i
type_effect program (Store kind i) = stores kind i
type_effect program (Array name) = access_type name
type_effect program (Stack name) = shuffles (forms_of name)
type_effect program (IntArithmetic name) = exchanges (Int ∷ Int ∷ []) (Int ∷ [])
type_effect program (IntDivision name) = exchanges (Int ∷ Int ∷ []) (Int ∷ [])
type_effect program (IntShift name) = exchanges (Int ∷ Int ∷ []) (Int ∷ [])
type_effect program (LongArithmetic name) = exchanges (Long ∷ Long ∷ []) (Long ∷ [])
type_effect program (LongDivision name) = exchanges (Long ∷ Long ∷ []) (Long ∷ [])
type_effect program (LongShift name) = exchanges (Int ∷ Long ∷ []) (Long ∷ [])
type_effect program (Increment i by) = increments i
type_effect program (Convert name) = conversion_type name
type_effect program LongCompare = exchanges (Long ∷ Long ∷ []) (Int ∷ [])
type_effect program (Branch name target) = branch_type name
type_effect program (TableSwitch s) = exchanges (Int ∷ []) []
type_effect program (LookupSwitch s) = exchanges (Int ∷ []) []
type_effect program (Get f kind) = exchanges [] (kind ∷ [])
type_effect program (Put f kind) = exchanges (kind ∷ []) []
type_effect program Length = exchanges (Text ∷ []) (Int ∷ [])
type_effect program CharAt = exchanges (Int ∷ Text ∷ []) (Int ∷ [])
type_effect program (Call m) = call_type (program.method m)
type_effect program CallHost =
    exchanges (Int ∷ Int ∷ Int ∷ Int ∷ Int ∷ Pages ∷ Pages ∷ []) (Int ∷ [])
type_effect program FaultHost = exchanges (Int ∷ Int ∷ Int ∷ []) []
type_effect program (Return name) = return_type name
type_effect program (NewArray kind) = exchanges (Int ∷ []) (array_type kind ∷ [])
type_effect program ArrayLength = takes_array
type_effect program Wrong = never

-- ---- the frame behind an instruction, where its operands fit

abbrev pub with_stack : TypeFrame → List Kind → TypeFrame
with_stack f stack = record { locals = f.locals; stack = stack }

abbrev pub with_local_kind : TypeFrame → ℕ → Kind → List Kind → TypeFrame
with_local_kind f i kind stack = record {
  locals = λ k. if k == i then kind
      else f.locals k;
  stack = stack;
}

-- the operands below those that are taken
abbrev pub taken : List Kind → List Kind → Option (List Kind)
taken [] stack = Some stack
taken (k ∷ kinds) [] = None
taken (k ∷ kinds) (s ∷ stack) = if below s k then taken kinds stack else None

-- the operands below one that passes a test
abbrev pub taken_one : (Kind → Bool) → List Kind → Option (List Kind)
taken_one test [] = None
taken_one test (s ∷ stack) = if test s then Some stack else None

abbrev pub is_array_kind : Kind → Bool
is_array_kind kind = is_reference_kind kind && not (same_kind kind Text)

abbrev pub moves_kind : LocalKind → Kind → Bool
moves_kind local_kinds.Int kind = same_kind kind Int
moves_kind local_kinds.Reference kind = is_reference_kind kind

abbrev pub stored_type : LocalKind → ℕ → TypeFrame → List Kind → Option TypeFrame
stored_type moved i f [] = None
stored_type moved i f (s ∷ stack) = if moves_kind moved s then Some (with_local_kind f i s stack)
    else None

abbrev pub applied : TypeEffect → TypeFrame → Option TypeFrame
applied (exchanges kinds given) f =
    option_map (λ stack. with_stack f (given ++ stack)) (taken kinds f.stack)
applied takes_reference f = option_map (with_stack f) (taken_one is_reference_kind f.stack)
applied takes_array f =
    option_map (λ stack. with_stack f (Int ∷ stack)) (taken_one is_array_kind f.stack)
applied (loads moved i) f = if moves_kind moved (f.locals i)
    then Some (with_stack f (f.locals i ∷ f.stack)) else None
applied (stores moved i) f = stored_type moved i f f.stack
applied (increments i) f = if same_kind (f.locals i) Int then Some f else None
applied (shuffles forms) f = option_map (with_stack f) (shuffled is_long_kind forms f.stack)
applied never f = None

-- the local variable that an instruction names is there
abbrev pub local_within : TypeEffect → ℕ → Type 0
local_within (loads kind i) count = i < count
local_within (stores kind i) count = i < count
local_within (increments i) count = i < count
local_within _ count = Unit {0}

-- ---- typings

-- the frame at each offset that has one
abbrev pub Frames : Type 0
Frames = ℕ → Option TypeFrame

-- an offset has an instruction, and a frame above the given one
abbrev pub Receives : LinkedMethod → Frames → TypeFrame → ℕ → Type 0
Receives method frames f at =
    (line : LinkedLine) × (g : TypeFrame) × (line_in method.lines at ≡ Some line)
    × (frames at ≡ Some g) × Below f g

-- the rule of an instruction that is entered with a frame
pub record Follows (program : Program) (method : LinkedMethod) (frames : Frames) (line : LinkedLine)
    (f : TypeFrame) : Type 0 where
  pub local : local_within (type_effect program line.instruction) method.locals
  pub behind : TypeFrame
  pub fits : applied (type_effect program line.instruction) f ≡ Some behind
  pub within : slots_of behind.stack ≤ method.stack
  pub goes_on : All (Receives method frames behind) (successors line)

-- the frame with which a method is entered
abbrev pub entry_frame : LinkedMethod → TypeFrame
entry_frame method = record { locals = λ i. slice_index_or method.parameters i Top; stack = [] }

-- the rules of the method's start and of the instructions at offsets up to one
pub record IsTypingTo (program : Program) (method : LinkedMethod) (frames : Frames) (last : ℕ)
    : Type 0 where
  pub operands : (at : ℕ) (f : TypeFrame) → frames at ≡ Some f → no_top f.stack ≡ true
  pub parameters : length method.parameters ≤ method.locals
  pub entry : Receives method frames (entry_frame method) 0
  pub rules : (at : ℕ) (line : LinkedLine) (f : TypeFrame) → at ≤ last
      → line_in method.lines at ≡ Some line → frames at ≡ Some f
      → Follows program method frames line f

-- the rules of the method's start and of all instructions
abbrev pub IsTyping : Program → LinkedMethod → Frames → Type 0
IsTyping program method frames = (last : ℕ) → IsTypingTo program method frames last

abbrev pub Typed : Program → LinkedMethod → Type 0
Typed program method = (frames : Frames) × IsTyping program method frames

-- each method of the program is typed
abbrev pub AllTyped : Program → Type 0
AllTyped program = (m : ℕ) (method : LinkedMethod) → program.method m ≡ Some method
    → Typed program method

abbrev pub NamesField : Program → Instruction → Type 0
NamesField program (Get f kind) = program.field f ≡ Some kind
NamesField program (Put f kind) = program.field f ≡ Some kind
NamesField program _ = Unit {0}

-- a return gives an int where its method does
abbrev pub returns_int : ReturnName → Bool
returns_int returns.Ireturn = true
returns_int returns.Return = false

abbrev pub GivesAs : LinkedMethod → Instruction → Type 0
GivesAs method (Return name) = returns_int name ≡ method.gives_int
GivesAs method _ = Unit {0}

-- what linking promises: an instruction names a field with the field's type, a return is of its method's kind, and the first method
-- takes and gives nothing
pub record IsLinked (program : Program) : Type 0 where
  pub fields : (m : ℕ) (method : LinkedMethod) (at : ℕ) (line : LinkedLine)
      → program.method m ≡ Some method → line_in method.lines at ≡ Some line
      → NamesField program line.instruction
  pub returns : (m : ℕ) (method : LinkedMethod) (at : ℕ) (line : LinkedLine)
      → program.method m ≡ Some method → line_in method.lines at ≡ Some line
      → GivesAs method line.instruction
  pub first : LinkedMethod
  pub first_is : program.method program.first ≡ Some first
  pub takes_nothing : first.parameters ≡ []
  pub gives_nothing : first.gives_int ≡ false
