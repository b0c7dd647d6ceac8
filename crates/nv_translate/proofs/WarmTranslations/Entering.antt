-- Only a call of a method makes a frame.
use Rattle.std.proofs.Common.{◌≡◌, ℕ, ◌+◌, ◌^◌, Bool, true, false, if◌then◌else◌, nat_lt, nat_le, ◌==◌, List, [], ◌∷◌, slice_get, Option, Some, None, refl}
use Rattle.std.specs.Prelude.{ℤ, pos, not, int_lt}
use Rattle.run_definition.specs.Words.{signed_of}
use Rattle.jvm_definition.specs.declared.array_name.ArrayName.{ArrayName}
use Rattle.jvm_definition.specs.declared.array_name.ArrayName.TheVariants.{Iaload, Aaload, Iastore, Aastore}
use Rattle.jvm_definition.specs.declared.branch_name.BranchName.{BranchName}
use Rattle.jvm_definition.specs.declared.branch_name.BranchName.TheVariants.{Ifeq, Ifne, Iflt, Ifge, Ifgt, Ifle, IfIcmpeq, IfIcmpne, IfIcmplt, IfIcmpge, IfIcmpgt, IfIcmple, Goto, Ifnull, Ifnonnull}
use Rattle.jvm_definition.specs.declared.conversion.Conversion.{Conversion}
use Rattle.jvm_definition.specs.declared.conversion.Conversion.TheVariants.{I2l, L2i, I2b, I2c, I2s}
use Rattle.jvm_definition.specs.declared.return_name.ReturnName.{ReturnName}
use Rattle.jvm_definition.specs.declared.return_name.ReturnName.TheVariants.{Ireturn, Return as return_nothing}
use Rattle.jvm_definition.specs.declared.kind.Kind.{Kind}
use Rattle.jvm_definition.specs.declared.linked_method.LinkedMethod.{LinkedMethod}
use Rattle.jvm_definition.specs.declared.value.Value.{Value}
use Rattle.jvm_definition.specs.declared.value.Value.TheVariants.{Unset as unset, Int as int, Long as long, Null as null, Array as array, Text as text}
use Rattle.jvm_definition.specs.declared.instruction.Instruction.{Instruction}
use Rattle.jvm_definition.specs.declared.instruction.Instruction.TheVariants.{Nop, Push, Load, Store, Array, Stack, IntArithmetic, IntDivision, IntShift, LongArithmetic, LongDivision, LongShift, Increment, Convert, LongCompare, Branch, TableSwitch, LookupSwitch, Get, Put, Length, CharAt, Call, CallHost, FaultHost, Return, NewArray, ArrayLength, Wrong}
use Rattle.jvm_definition.specs.Values as values
use Rattle.jvm_definition.specs.Values.{ints, pages, Heap, conforms, is_long_value}
use Rattle.jvm_definition.specs.Shuffles.{forms_of, shuffled}
use Rattle.jvm_definition.specs.Program.{Program}
use Rattle.jvm_definition.specs.Effect.{Workspace, InstructionEffect, goes_on, jumps, enters, traps, wrong, instruction_effect, popping, popping_int, popping_ints, popping_long, popping_longs, as_int, as_long, as_array, as_ints, as_pages, as_element, as_text, as_nullness, as_table, accesses, converts, branches, tests, compares, tests_null, moved, moves_value, same_integer, pushes_length, character, null_trap, arguments, calls, calls_host, returned, last_first, with_operands}

-- a method that is entered is one of these
abbrev pub enters_such : (ℕ → Bool) → InstructionEffect → Bool
enters_such such (enters callee given w) = such callee
enters_such such _ = true

-- one that is called is
abbrev pub calls_such : (ℕ → Bool) → Instruction → Bool
calls_such such (Call m) = such m
calls_such such _ = true

module _ (such : ℕ → Bool) where
  abbrev Is : InstructionEffect → Type 0
  Is e = enters_such such e ≡ true

  either : (b : Bool) (x y : InstructionEffect) → Is x → Is y → Is (if b then x else y)
  either true x y first second = first
  either false x y first second = second

  pop : (f : Value → List Value → InstructionEffect) → ((v : Value) (rest : List Value) → Is (f v rest)) → (operands : List Value) → Is (popping operands f)
  pop f is [] = refl
  pop f is (v ∷ rest) = is v rest

  of-int : (f : ℕ → InstructionEffect) → ((n : ℕ) → Is (f n)) → (v : Value) → Is (as_int v f)
  of-int f is (int n) = is n
  of-int f is unset = refl
  of-int f is (long n) = refl
  of-int f is null = refl
  of-int f is (array p) = refl
  of-int f is (text class slot) = refl

  of-long : (f : ℕ → InstructionEffect) → ((n : ℕ) → Is (f n)) → (v : Value) → Is (as_long v f)
  of-long f is (long n) = is n
  of-long f is unset = refl
  of-long f is (int n) = refl
  of-long f is null = refl
  of-long f is (array p) = refl
  of-long f is (text class slot) = refl

  pop-int : (f : ℕ → List Value → InstructionEffect) → ((n : ℕ) (rest : List Value) → Is (f n rest)) → (operands : List Value) → Is (popping_int operands f)
  pop-int f is operands = pop (λ v rest. as_int v (λ n. f n rest)) (λ v rest. of-int (λ n. f n rest) (λ n. is n rest) v) operands

  pop-long : (f : ℕ → List Value → InstructionEffect) → ((n : ℕ) (rest : List Value) → Is (f n rest)) → (operands : List Value) → Is (popping_long operands f)
  pop-long f is operands = pop (λ v rest. as_long v (λ n. f n rest)) (λ v rest. of-long (λ n. f n rest) (λ n. is n rest) v) operands

  pop-ints : (f : ℕ → ℕ → List Value → InstructionEffect) → ((a b : ℕ) (rest : List Value) → Is (f a b rest)) → (operands : List Value)
      → Is (popping_ints operands f)
  pop-ints f is operands =
      pop-int (λ b rest. popping_int rest (λ a others. f a b others)) (λ b rest. pop-int (λ a others. f a b others) (λ a others. is a b others) rest)
      operands

  pop-longs : (f : ℕ → ℕ → List Value → InstructionEffect) → ((a b : ℕ) (rest : List Value) → Is (f a b rest)) → (operands : List Value)
      → Is (popping_longs operands f)
  pop-longs f is operands =
      pop-long (λ b rest. popping_long rest (λ a others. f a b others))
      (λ b rest. pop-long (λ a others. f a b others) (λ a others. is a b others) rest) operands

  of-array : (heap : Heap) (on_null : InstructionEffect) (f : ℕ → Option values.Array → InstructionEffect) → Is on_null → ((p : ℕ) (a : Option values.Array) → Is (f p a))
      → (v : Value) → Is (as_array heap v on_null f)
  of-array heap on_null f none is null = none
  of-array heap on_null f none is (array p) = is p (heap.array_at p)
  of-array heap on_null f none is unset = refl
  of-array heap on_null f none is (int n) = refl
  of-array heap on_null f none is (long n) = refl
  of-array heap on_null f none is (text class slot) = refl

  of-ints : (f : ℕ → (ℕ → ℕ) → InstructionEffect) → ((size : ℕ) (words : ℕ → ℕ) → Is (f size words)) → (a : Option values.Array) → Is (as_ints a f)
  of-ints f is None = refl
  of-ints f is (Some (ints size words)) = is size words
  of-ints f is (Some (pages size places)) = refl

  of-pages : (f : ℕ → (ℕ → Option ℕ) → InstructionEffect) → ((size : ℕ) (places : ℕ → Option ℕ) → Is (f size places)) → (a : Option values.Array)
      → Is (as_pages a f)
  of-pages f is None = refl
  of-pages f is (Some (ints size words)) = refl
  of-pages f is (Some (pages size places)) = is size places

  of-element : (heap : Heap) (f : Option ℕ → InstructionEffect) → ((p : Option ℕ) → Is (f p)) → (v : Value) → Is (as_element heap v f)
  of-element heap f is null = is None
  of-element heap f is (array p) = either (values.is_ints (heap.array_at p)) (f (Some p)) wrong (is (Some p)) refl
  of-element heap f is unset = refl
  of-element heap f is (int n) = refl
  of-element heap f is (long n) = refl
  of-element heap f is (text class slot) = refl

  of-table : (heap : Heap) (f : Option ℕ → InstructionEffect) → ((p : Option ℕ) → Is (f p)) → (v : Value) → Is (as_table heap v f)
  of-table heap f is null = is None
  of-table heap f is (array p) = either (values.is_pages (heap.array_at p)) (f (Some p)) wrong (is (Some p)) refl
  of-table heap f is unset = refl
  of-table heap f is (int n) = refl
  of-table heap f is (long n) = refl
  of-table heap f is (text class slot) = refl

  of-text : (f : ℕ → ℕ → InstructionEffect) → ((class slot : ℕ) → Is (f class slot)) → (v : Value) → Is (as_text v f)
  of-text f is null = refl
  of-text f is (text class slot) = is class slot
  of-text f is unset = refl
  of-text f is (int n) = refl
  of-text f is (long n) = refl
  of-text f is (array p) = refl

  of-nullness : (f : Bool → InstructionEffect) → ((b : Bool) → Is (f b)) → (v : Value) → Is (as_nullness v f)
  of-nullness f is null = is true
  of-nullness f is (array p) = is false
  of-nullness f is (text class slot) = is false
  of-nullness f is unset = refl
  of-nullness f is (int n) = refl
  of-nullness f is (long n) = refl

  -- ---- instructions

  chosen : (taken : Bool) (x y : Workspace) (k : ℕ) → Is (if taken then jumps k x else goes_on y)
  chosen true x y k = refl
  chosen false x y k = refl

  tested : (test : ℤ → Bool) (w : Workspace) → Is (tests test w)
  tested test w = pop-int _ (λ n rest. chosen (test (signed_of n)) _ _ 0) w.operands

  compared : (test : ℤ → ℤ → Bool) (w : Workspace) → Is (compares test w)
  compared test w = pop-ints _ (λ a b rest. chosen (test (signed_of a) (signed_of b)) _ _ 0) w.operands

  tested-null : (test : Bool → Bool) (w : Workspace) → Is (tests_null test w)
  tested-null test w = pop _ (λ v rest. of-nullness _ (λ b. chosen (test b) _ _ 0) v) w.operands

  branch : (name : BranchName) (w : Workspace) → Is (branches name w)
  branch Ifeq w = tested (λ n. same_integer n (pos 0)) w
  branch Ifne w = tested (λ n. not (same_integer n (pos 0))) w
  branch Iflt w = tested (λ n. int_lt n (pos 0)) w
  branch Ifge w = tested (λ n. not (int_lt n (pos 0))) w
  branch Ifgt w = tested (λ n. int_lt (pos 0) n) w
  branch Ifle w = tested (λ n. not (int_lt (pos 0) n)) w
  branch IfIcmpeq w = compared same_integer w
  branch IfIcmpne w = compared (λ a b. not (same_integer a b)) w
  branch IfIcmplt w = compared int_lt w
  branch IfIcmpge w = compared (λ a b. not (int_lt a b)) w
  branch IfIcmpgt w = compared (λ a b. int_lt b a) w
  branch IfIcmple w = compared (λ a b. not (int_lt b a)) w
  branch Goto w = refl
  branch Ifnull w = tested-null (λ is_null. is_null) w
  branch Ifnonnull w = tested-null not w

  access : (name : ArrayName) (w : Workspace) → Is (accesses name w)
  access Iaload w =
      pop-int _ (λ i rest. pop _ (λ v others. of-array w.heap (traps null_trap) _ refl
      (λ p a. of-ints _ (λ size words. either (nat_lt i size) _ _ refl refl) a) v) rest) w.operands
  access Aaload w =
      pop-int _ (λ i rest. pop _ (λ v others. of-array w.heap (traps null_trap) _ refl
      (λ p a. of-pages _ (λ size places. either (nat_lt i size) _ _ refl refl) a) v) rest) w.operands
  access Iastore w =
      pop-ints _ (λ i n rest. pop _ (λ v others. of-array w.heap (traps null_trap) _ refl
      (λ p a. of-ints _ (λ size words. either (nat_lt i size) _ _ refl refl) a) v) rest) w.operands
  access Aastore w =
      pop _ (λ u rest. of-element w.heap _ (λ element. pop-int _ (λ i below. pop _ (λ v others. of-array w.heap (traps null_trap) _ refl
      (λ p a. of-pages _ (λ size places. either (nat_lt i size) _ _ refl refl) a) v) below) rest) u) w.operands

  conversion : (name : Conversion) (w : Workspace) → Is (converts name w)
  conversion I2l w = pop-int _ (λ n rest. refl) w.operands
  conversion L2i w = pop-long _ (λ n rest. refl) w.operands
  conversion I2b w = pop-int _ (λ n rest. refl) w.operands
  conversion I2c w = pop-int _ (λ n rest. refl) w.operands
  conversion I2s w = pop-int _ (λ n rest. refl) w.operands

  shuffle : (w : Workspace) (operands : Option (List Value)) → Is (moved w operands)
  shuffle w None = refl
  shuffle w (Some operands) = refl

  size-of : (w : Workspace) (rest : List Value) (a : Option values.Array) → Is (pushes_length w rest a)
  size-of w rest None = refl
  size-of w rest (Some a) = refl

  character-of : (w : Workspace) (rest : List Value) (c : Option ℕ) → Is (character w rest c)
  character-of w rest None = refl
  character-of w rest (Some c) = refl

  arguments-of : (heap : Heap) (f : List Value → List Value → InstructionEffect) → ((given rest : List Value) → Is (f given rest)) → (kinds : List Kind)
      (operands taken : List Value) → Is (arguments heap kinds operands taken f)
  arguments-of heap f is [] operands taken = is taken operands
  arguments-of heap f is (k ∷ kinds) [] taken = refl
  arguments-of heap f is (k ∷ kinds) (v ∷ operands) taken =
      either (conforms heap k v) (arguments heap kinds operands (v ∷ taken) f) wrong (arguments-of heap f is kinds operands (v ∷ taken)) refl

  call : (m : ℕ) (w : Workspace) → such m ≡ true → (method : Option LinkedMethod) → Is (calls m method w)
  call m w is None = refl
  call m w is (Some method) =
      arguments-of w.heap (λ given rest. enters m given (with_operands w rest)) (λ given rest. is) (last_first method.parameters []) w.operands []

  call-host : (w : Workspace) → Is (calls_host w)
  call-host w =
      pop-ints _ (λ a2 a3 rest3. pop-ints _ (λ a0 a1 rest2. pop-int _ (λ number rest1. pop _ (λ writable rest0. of-table w.heap _ (λ second.
      pop _ (λ readable rest. of-table w.heap _ (λ first. refl) readable) rest0) writable) rest1) rest2) rest3) w.operands

  return : (name : ReturnName) (w : Workspace) → Is (returned name w)
  return Ireturn w = pop-int _ (λ n rest. refl) w.operands
  return return_nothing w = refl

  pub enters-called : (program : Program) (words : ℕ) (i : Instruction) (w : Workspace) → calls_such such i ≡ true → Is (instruction_effect program words i w)
  enters-called program words Nop w is = refl
  enters-called program words (Push constant) w is = refl
  enters-called program words (Load kind i) w is = either (moves_value kind (w.locals i)) _ wrong refl refl
  enters-called program words (Store kind i) w is = pop _ (λ v rest. either (moves_value kind v) _ wrong refl refl) w.operands
  enters-called program words (Array name) w is = access name w
  enters-called program words (Stack name) w is = shuffle w (shuffled is_long_value (forms_of name) w.operands)
  enters-called program words (IntArithmetic name) w is = pop-ints _ (λ a b rest. refl) w.operands
  enters-called program words (IntDivision name) w is = pop-ints _ (λ a b rest. either (b == 0) _ _ refl refl) w.operands
  enters-called program words (IntShift name) w is = pop-ints _ (λ a b rest. refl) w.operands
  enters-called program words (LongArithmetic name) w is = pop-longs _ (λ a b rest. refl) w.operands
  enters-called program words (LongDivision name) w is = pop-longs _ (λ a b rest. either (b == 0) _ _ refl refl) w.operands
  enters-called program words (LongShift name) w is = pop-int _ (λ n rest. pop-long _ (λ a others. refl) rest) w.operands
  enters-called program words (Increment i by) w is = of-int _ (λ n. refl) (w.locals i)
  enters-called program words (Convert name) w is = conversion name w
  enters-called program words LongCompare w is = pop-longs _ (λ a b rest. refl) w.operands
  enters-called program words (Branch name target) w is = branch name w
  enters-called program words (TableSwitch s) w is = pop-int _ (λ n rest. refl) w.operands
  enters-called program words (LookupSwitch s) w is = pop-int _ (λ n rest. refl) w.operands
  enters-called program words (Get f kind) w is = refl
  enters-called program words (Put f kind) w is = pop _ (λ v rest. either (conforms w.heap kind v) _ wrong refl refl) w.operands
  enters-called program words Length w is = pop _ (λ v rest. of-text _ (λ class slot. refl) v) w.operands
  enters-called program words CharAt w is =
      pop-int _ (λ i rest. pop _ (λ v others. of-text _ (λ class slot. character-of w others (slice_get (program.characters class slot) i)) v) rest)
      w.operands
  enters-called program words (Call m) w is = call m w is (program.method m)
  enters-called program words CallHost w is = call-host w
  enters-called program words FaultHost w is = pop-ints _ (λ a b rest. pop-int _ (λ kind others. refl) rest) w.operands
  enters-called program words (Return name) w is = return name w
  enters-called program words (NewArray kind) w is =
      pop-int _ (λ size rest. either (nat_le (2 ^ 31) size) _ _ refl (either (nat_lt words (w.heap.used + size + 2)) _ _ refl refl)) w.operands
  enters-called program words ArrayLength w is = pop _ (λ v rest. of-array w.heap (traps null_trap) _ refl (λ p a. size-of w rest a) v) w.operands
  enters-called program words Wrong w is = refl
