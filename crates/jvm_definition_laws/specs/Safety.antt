-- JVM Specification, 4.10: the states of the class machine that hold what the typings of their methods promise.
use Rattle.std.specs.Prelude.{◌≡◌, ◌≢◌, ℕ, ◌+◌, ◌<◌, ◌≤◌, Bool, true, false, if◌then◌else◌, List, [], ◌∷◌, length, Option, Some, None, is_some, IsSome}
use Rattle.jvm_definition.specs.declared.kind.Kind.{Kind}
use Rattle.jvm_definition.specs.declared.linked_line.LinkedLine.{LinkedLine}
use Rattle.jvm_definition.specs.declared.linked_method.LinkedMethod.{LinkedMethod}
use Rattle.jvm_definition.specs.Values.{pages, Heap, is_int, is_long_value, is_ints, conforms}
use Rattle.jvm_definition.specs.declared.value.Value.{Value}
use Rattle.jvm_definition.specs.declared.value.Value.TheVariants.{Int as int, Null as null, Array as array}
use Rattle.jvm_definition.specs.Shuffles.{shuffled}
use Rattle.jvm_definition.specs.Program.{Program, line_in}
use Rattle.jvm_definition.specs.Effect.{InstructionEffect, goes_on, jumps, enters, gives, asks_host, faults, traps, wrong, is_reference, moves_value, instruction_effect}
use Rattle.jvm_definition.specs.Step.{Frame, JvmState, with_result, workspace_of}
use Rattle.jvm_definition.specs.Typing as types
use Rattle.jvm_definition.specs.Typing.{TypeFrame, TypeEffect, exchanges, takes_reference, takes_array, shuffles, never, Frames, IsTyping, slots_of, type_effect, local_within}

-- ---- values and arrays

-- values are of types, one by one
abbrev pub Conform : Heap → List Kind → List Value → Type 0
Conform heap [] [] = Unit {0}
Conform heap [] (v ∷ values) = ⊥
Conform heap (k ∷ kinds) [] = ⊥
Conform heap (k ∷ kinds) (v ∷ values) = (conforms heap k v ≡ true) × Conform heap kinds values

-- An element of an array of arrays is null or the place of an array of ints; and nothing stands where new arrays will.
pub record HeapIsSafe (heap : Heap) : Type 0 where
  pub elements : (p size : ℕ) (places : ℕ → Option ℕ) (i q : ℕ)
      → heap.array_at p ≡ Some (pages size places) → i < size → places i ≡ Some q
      → is_ints (heap.array_at q) ≡ true
  pub free : (p : ℕ) → heap.used ≤ p → heap.array_at p ≡ None

-- each field is of its type
abbrev pub FieldsAreSafe : Program → Heap → (ℕ → Value) → Type 0
FieldsAreSafe program heap fields = (f : ℕ) (kind : Kind) → program.field f ≡ Some kind
    → conforms heap kind (fields f) ≡ true

-- ---- frames

-- a frame stands at an instruction of its method, and its values are of the types that a typing of the method has there
pub record FrameIsSafe (program : Program) (heap : Heap) (f : Frame) : Type 0 where
  pub method : LinkedMethod
  pub method_is : program.method f.method ≡ Some method
  pub frames : Frames
  pub typing : IsTyping program method frames
  pub line : LinkedLine
  pub line_is : line_in method.lines f.at ≡ Some line
  pub types : TypeFrame
  pub types_are : frames f.at ≡ Some types
  pub locals : (i : ℕ) → conforms heap (types.locals i) (f.locals i) ≡ true
  pub operands : Conform heap types.stack f.operands
  pub within : slots_of types.stack ≤ method.stack

abbrev pub given : Bool → ℕ → Option Value
given gives_int n = if gives_int then Some (int n) else None

-- a frame that waits for a call, which stands behind it, is safe once it has what the called method gives
abbrev pub CallerIsSafe : Program → Heap → Bool → Frame → Type 0
CallerIsSafe program heap gives_int f =
    (n : ℕ) → FrameIsSafe program heap (with_result (given gives_int n) f)

abbrev pub gives_int_of : Option LinkedMethod → Bool
gives_int_of None = false
gives_int_of (Some method) = method.gives_int

-- each frame waits for the one above it, and the method of the lowest one gives nothing
abbrev pub CallersAreSafe : Program → Heap → Bool → List Frame → Type 0
CallersAreSafe program heap gives_int [] = gives_int ≡ false
CallersAreSafe program heap gives_int (f ∷ others) =
    CallerIsSafe program heap gives_int f
    × CallersAreSafe program heap (gives_int_of (program.method f.method)) others

abbrev pub FramesAreSafe : Program → Heap → List Frame → Type 0
FramesAreSafe program heap [] = ⊥
FramesAreSafe program heap (f ∷ others) =
    FrameIsSafe program heap f
    × CallersAreSafe program heap (gives_int_of (program.method f.method)) others

pub record IsSafe (program : Program) (s : JvmState) : Type 0 where
  pub heap : HeapIsSafe s.heap
  pub fields : FieldsAreSafe program s.heap s.fields
  pub frames : FramesAreSafe program s.heap s.frames
  pub few : length s.frames ≤ 64

-- ---- what an instruction finds

-- the uppermost values are of types, one by one
abbrev pub Begin : Heap → List Kind → List Value → Type 0
Begin heap [] operands = Unit {0}
Begin heap (k ∷ kinds) [] = ⊥
Begin heap (k ∷ kinds) (v ∷ operands) = (conforms heap k v ≡ true) × Begin heap kinds operands

-- the uppermost value passes a test
abbrev pub OnTop : (Value → Bool) → List Value → Type 0
OnTop test [] = ⊥
OnTop test (v ∷ operands) = test v ≡ true

-- it is null, or the place of an array
abbrev pub is_array_reference : Heap → Value → Bool
is_array_reference heap null = true
is_array_reference heap (array p) = is_some (heap.array_at p)
is_array_reference heap _ = false

-- the local variables and the operands are what an instruction takes
abbrev pub OperandsFit : Heap → TypeEffect → (ℕ → Value) → List Value → Type 0
OperandsFit heap (exchanges kinds behind) locals operands = Begin heap kinds operands
OperandsFit heap takes_reference locals operands = OnTop is_reference operands
OperandsFit heap takes_array locals operands = OnTop (is_array_reference heap) operands
OperandsFit heap (types.loads kind i) locals operands = moves_value kind (locals i) ≡ true
OperandsFit heap (types.stores kind i) locals operands = OnTop (moves_value kind) operands
OperandsFit heap (types.increments i) locals operands = is_int (locals i) ≡ true
OperandsFit heap (shuffles forms) locals operands = IsSome (shuffled is_long_value forms operands)
OperandsFit heap never locals operands = ⊥

-- a long counts as two operands
abbrev pub slots_in : List Value → ℕ
slots_in [] = 0
slots_in (v ∷ operands) = (if is_long_value v then 2 else 1) + slots_in operands

-- the operands that an effect leaves, with the int that a call of the system gives, are no more than so many
abbrev pub LeavesWithin : ℕ → InstructionEffect → Type 0
LeavesWithin most (goes_on w) = slots_in w.operands ≤ most
LeavesWithin most (jumps k w) = slots_in w.operands ≤ most
LeavesWithin most (enters m arguments w) = slots_in w.operands ≤ most
LeavesWithin most (gives v w) = Unit {0}
LeavesWithin most (asks_host call readable writable w) = 1 + slots_in w.operands ≤ most
LeavesWithin most (faults f) = Unit {0}
LeavesWithin most (traps k) = Unit {0}
LeavesWithin most wrong = Unit {0}

-- what is known of the instruction at which a frame stands
pub record InstructionFits (program : Program) (words : ℕ) (s : JvmState) (f : Frame) : Type 0 where
  pub method : LinkedMethod
  pub method_is : program.method f.method ≡ Some method
  pub line : LinkedLine
  pub line_is : line_in method.lines f.at ≡ Some line
  pub local : local_within (type_effect program line.instruction) method.locals
  pub operands : OperandsFit s.heap (type_effect program line.instruction) f.locals f.operands
  pub not_wrong : instruction_effect program words line.instruction (workspace_of s f) ≢ wrong
  pub within : slots_in f.operands ≤ method.stack
  pub leaves : LeavesWithin method.stack (instruction_effect program words line.instruction (workspace_of s f))
