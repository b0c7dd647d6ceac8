-- What an instruction takes and leaves: the types before and behind it, and the forms in which its operands are taken.
use Rattle.std.proofs.Common.{◌≡◌, ◌≢◌, ℕ, ◌<◌, nat_lt, Bool, true, false, if◌then◌else◌, List, [], ◌∷◌, ◌++◌, length, Option, Some, None, is_some, option_map, refl, sym, subst, true≢false, arith}
use Rattle.std.proofs.lemmas.Bool.Decides.{nat_tests}
use Rattle.run_definition.specs.declared.call.Call.{Call}
use Rattle.run_definition.specs.declared.fault.Fault.{Fault}
use Rattle.jvm_definition.specs.declared.kind.Kind.{Kind}
use Rattle.jvm_definition.specs.declared.kind.Kind.TheVariants.{Int, Long}
use Rattle.jvm_definition.specs.declared.linked_method.LinkedMethod.{LinkedMethod}
use Rattle.jvm_definition.specs.declared.instruction.Instruction.{Instruction}
use Rattle.jvm_definition.specs.Values as values
use Rattle.jvm_definition.specs.Values.{ints, pages, Heap, reference_value, is_int, is_long_value, is_ints, is_pages, is_ints_reference, is_pages_reference, is_text_reference, conforms}
use Rattle.jvm_definition.specs.declared.value.Value.{Value}
use Rattle.jvm_definition.specs.declared.value.Value.TheVariants.{Unset as unset, Int as int, Long as long, Null as null, Array as array, Text as text}
use Rattle.jvm_definition.specs.Program.{Program, instruction_targets, falls_through}
use Rattle.jvm_definition.specs.Effect.{Workspace, InstructionEffect, goes_on, jumps, enters, gives, asks_host, faults, traps, index_trap, with_operands, workspace_with_heap, popping, as_int, as_long, popping_int, popping_long, popping_ints, popping_longs, as_array, as_element, is_reference, within, as_text, as_nullness, as_table}
use Rattle.jvm_definition.specs.Typing.{TypeFrame, exchanges, given_by, with_stack, taken, applied, GivesAs}
use Rattle.jvm_definition_laws.specs.Safety.{Conform, HeapIsSafe, FieldsAreSafe, given, is_array_reference}
use Rattle.jvm_definition_laws.proofs.KindLaws.{some_same, Conform-taken}
use Rattle.jvm_definition_laws.proofs.HeapLaws.{Continues, conforms_kept, fields_kept, continues_itself}

-- ---- before and behind an instruction

-- the values with which an instruction is entered, but for the operands
pub record Stands (program : Program) (f : TypeFrame) (w : Workspace) : Type 0 where
  pub heap : HeapIsSafe w.heap
  pub fields : FieldsAreSafe program w.heap w.fields
  pub locals : (i : ℕ) → conforms w.heap (f.locals i) (w.locals i) ≡ true

-- the values behind it
pub record Fits (program : Program) (before : Heap) (g : TypeFrame) (w : Workspace) : Type 0 where
  pub heap : Continues before w.heap
  pub fields : FieldsAreSafe program w.heap w.fields
  pub locals : (i : ℕ) → conforms w.heap (g.locals i) (w.locals i) ≡ true
  pub operands : Conform w.heap g.stack w.operands

-- what an effect leaves, by the types behind the instruction; none is of another kind than its operands
pub data Leaves (program : Program) (before : Heap) (by : Instruction) (g : TypeFrame) : InstructionEffect → Type 0 where
  on : {w : Workspace} → falls_through by ≡ true → Fits program before g w → Leaves program before by g (goes_on w)
  to : {k : ℕ} {w : Workspace} → k < length (instruction_targets by) → Fits program before g w → Leaves program before by g (jumps k w)
  into : {m : ℕ} {passed : List Value} {w : Workspace} (method : LinkedMethod) (kinds : List Kind) → program.method m ≡ Some method → falls_through by ≡ true → g.stack ≡ given_by method.gives_int ++ kinds → Conform before method.parameters passed → Fits program before (with_stack g kinds) w → Leaves program before by g (enters m passed w)
  back : {v : Option Value} {w : Workspace} (gives_int : Bool) (n : ℕ) → v ≡ given gives_int n → ((method : LinkedMethod) → GivesAs method by → gives_int ≡ method.gives_int) → Continues before w.heap → FieldsAreSafe program w.heap w.fields → Leaves program before by g (gives v w)
  out : {call : Call} {readable writable : Option ℕ} {w : Workspace} (kinds : List Kind) → falls_through by ≡ true → g.stack ≡ Int ∷ kinds → Fits program before (with_stack g kinds) w → Leaves program before by g (asks_host call readable writable w)
  faulted : {f : Fault} → Leaves program before by g (faults f)
  trapped : {k : ℕ} → k ≢ 0 → Leaves program before by g (traps k)

-- other operands
pub settles : (program : Program) (f : TypeFrame) (w : Workspace) → Stands program f w → (kinds : List Kind) (operands : List Value) → Conform w.heap kinds operands → Fits program w.heap (with_stack f kinds) (with_operands w operands)
settles program f w s kinds operands c =
    record { heap = continues_itself w.heap s.heap; fields = s.fields; locals = s.locals; operands = c }

-- other operands over a heap that follows
pub settles_on : (program : Program) (f : TypeFrame) (w : Workspace) → Stands program f w → (after : Heap) → Continues w.heap after → (kinds : List Kind) (operands : List Value) → Conform after kinds operands → Fits program w.heap (with_stack f kinds) (workspace_with_heap w operands after)
settles_on program f w s after h kinds operands c = record {
  heap = h;
  fields = fields_kept program w.heap after w.fields h.keeps s.fields;
  locals = λ i. conforms_kept w.heap after h.keeps (f.locals i) (w.locals i) (s.locals i);
  operands = c;
}

-- ---- the types behind an instruction

pub mapped : {A B : Type 0} (h : A → B) (o : Option A) (y : B) → option_map h o ≡ Some y → (x : A) × (o ≡ Some x) × (h x ≡ y)
mapped h None y e = cc
mapped h (Some x) y e = (x, refl, some_same (h x) y e)

pub exchanged : (P : TypeFrame → Type 0) (heap : Heap) (kinds behind : List Kind) (f g : TypeFrame) (operands : List Value) → applied (exchanges kinds behind) f ≡ Some g → Conform heap f.stack operands → ((rest : List Kind) → Conform heap (kinds ++ rest) operands → P (with_stack f (behind ++ rest))) → P g
exchanged P heap kinds behind f g operands e c h =
    let parts = mapped (λ stack. with_stack f (behind ++ stack)) (taken kinds f.stack) g e in
    subst P parts.2 (h parts.0 (Conform-taken heap kinds f.stack parts.0 operands parts.1 c))

-- ---- operands of a type

module _ {program : Program} {before : Heap} {by : Instruction} {g : TypeFrame} where
  pub on_test : (x y : InstructionEffect) (b : Bool) → b ≡ true → Leaves program before by g x → Leaves program before by g (if b then x else y)
  on_test x y true e h = h
  on_test x y false e h = absurd (true≢false (sym e))

  pub on_either : (x y : InstructionEffect) (b : Bool) → Leaves program before by g x → Leaves program before by g y → Leaves program before by g (if b then x else y)
  on_either x y true h k = h
  on_either x y false h k = k

  pub on_top : (f : Value → List Value → InstructionEffect) (heap : Heap) (kind : Kind) (rest : List Kind) (operands : List Value) → Conform heap (kind ∷ rest) operands → ((v : Value) (others : List Value) → conforms heap kind v ≡ true → Conform heap rest others → Leaves program before by g (f v others)) → Leaves program before by g (popping operands f)
  on_top f heap kind rest [] c h = absurd c
  on_top f heap kind rest (v ∷ others) c h = h v others c.0 c.1

  pub on_as_int : (f : ℕ → InstructionEffect) (v : Value) → is_int v ≡ true → ((n : ℕ) → Leaves program before by g (f n)) → Leaves program before by g (as_int v f)
  on_as_int f (int n) e h = h n
  on_as_int f _ e h = absurd (true≢false (sym e))

  pub on_as_long : (f : ℕ → InstructionEffect) (v : Value) → is_long_value v ≡ true → ((n : ℕ) → Leaves program before by g (f n)) → Leaves program before by g (as_long v f)
  on_as_long f (long n) e h = h n
  on_as_long f _ e h = absurd (true≢false (sym e))

  pub on_int : (f : ℕ → List Value → InstructionEffect) (heap : Heap) (rest : List Kind) (operands : List Value) → Conform heap (Int ∷ rest) operands → ((n : ℕ) (others : List Value) → Conform heap rest others → Leaves program before by g (f n others)) → Leaves program before by g (popping_int operands f)
  on_int f heap rest operands c h =
      on_top _ heap Int rest operands c (λ v others e d. on_as_int _ v e (λ n. h n others d))

  pub on_long : (f : ℕ → List Value → InstructionEffect) (heap : Heap) (rest : List Kind) (operands : List Value) → Conform heap (Long ∷ rest) operands → ((n : ℕ) (others : List Value) → Conform heap rest others → Leaves program before by g (f n others)) → Leaves program before by g (popping_long operands f)
  on_long f heap rest operands c h =
      on_top _ heap Long rest operands c (λ v others e d. on_as_long _ v e (λ n. h n others d))

  pub on_ints : (f : ℕ → ℕ → List Value → InstructionEffect) (heap : Heap) (rest : List Kind) (operands : List Value) → Conform heap (Int ∷ Int ∷ rest) operands → ((a b : ℕ) (others : List Value) → Conform heap rest others → Leaves program before by g (f a b others)) → Leaves program before by g (popping_ints operands f)
  on_ints f heap rest operands c h =
      on_int _ heap (Int ∷ rest) operands c (λ b others d. on_int _ heap rest others d (λ a below e. h a b below e))

  pub on_longs : (f : ℕ → ℕ → List Value → InstructionEffect) (heap : Heap) (rest : List Kind) (operands : List Value) → Conform heap (Long ∷ Long ∷ rest) operands → ((a b : ℕ) (others : List Value) → Conform heap rest others → Leaves program before by g (f a b others)) → Leaves program before by g (popping_longs operands f)
  on_longs f heap rest operands c h =
      on_long _ heap (Long ∷ rest) operands c (λ b others d. on_long _ heap rest others d (λ a below e. h a b below e))

  -- a reference to an array of ints, or to one of arrays, which is there
  pub on_int_array : (on_null : InstructionEffect) (f : ℕ → Option values.Array → InstructionEffect) (heap : Heap) (v : Value) → is_ints_reference heap v ≡ true → Leaves program before by g on_null → ((p size : ℕ) (words : ℕ → ℕ) → heap.array_at p ≡ Some (ints size words) → Leaves program before by g (f p (Some (ints size words)))) → Leaves program before by g (as_array heap v on_null f)
  on_int_array on_null f heap null e h k = h
  on_int_array on_null f heap (array p) e h k = looked (heap.array_at p) refl e
    where
      looked : (a : Option values.Array) → heap.array_at p ≡ a → is_ints a ≡ true → Leaves program before by g (f p a)
      looked (Some (ints size words)) i e = k p size words i
      looked (Some (pages size places)) i e = absurd (true≢false (sym e))
      looked None i e = absurd (true≢false (sym e))
  on_int_array on_null f heap unset e h k = absurd (true≢false (sym e))
  on_int_array on_null f heap (int n) e h k = absurd (true≢false (sym e))
  on_int_array on_null f heap (long n) e h k = absurd (true≢false (sym e))
  on_int_array on_null f heap (text class slot) e h k = absurd (true≢false (sym e))

  pub on_page_array : (on_null : InstructionEffect) (f : ℕ → Option values.Array → InstructionEffect) (heap : Heap) (v : Value) → is_pages_reference heap v ≡ true → Leaves program before by g on_null → ((p size : ℕ) (places : ℕ → Option ℕ) → heap.array_at p ≡ Some (pages size places) → Leaves program before by g (f p (Some (pages size places)))) → Leaves program before by g (as_array heap v on_null f)
  on_page_array on_null f heap null e h k = h
  on_page_array on_null f heap (array p) e h k = looked (heap.array_at p) refl e
    where
      looked : (a : Option values.Array) → heap.array_at p ≡ a → is_pages a ≡ true → Leaves program before by g (f p a)
      looked (Some (pages size places)) i e = k p size places i
      looked (Some (ints size words)) i e = absurd (true≢false (sym e))
      looked None i e = absurd (true≢false (sym e))
  on_page_array on_null f heap unset e h k = absurd (true≢false (sym e))
  on_page_array on_null f heap (int n) e h k = absurd (true≢false (sym e))
  on_page_array on_null f heap (long n) e h k = absurd (true≢false (sym e))
  on_page_array on_null f heap (text class slot) e h k = absurd (true≢false (sym e))

  -- either kind of array
  pub on_array : (on_null : InstructionEffect) (f : ℕ → Option values.Array → InstructionEffect) (heap : Heap) (v : Value) → is_array_reference heap v ≡ true → Leaves program before by g on_null → ((p : ℕ) (a : values.Array) → Leaves program before by g (f p (Some a))) → Leaves program before by g (as_array heap v on_null f)
  on_array on_null f heap null e h k = h
  on_array on_null f heap (array p) e h k = looked (heap.array_at p) e
    where
      looked : (a : Option values.Array) → is_some a ≡ true → Leaves program before by g (f p a)
      looked (Some a) e = k p a
      looked None e = absurd (true≢false (sym e))
  on_array on_null f heap unset e h k = absurd (true≢false (sym e))
  on_array on_null f heap (int n) e h k = absurd (true≢false (sym e))
  on_array on_null f heap (long n) e h k = absurd (true≢false (sym e))
  on_array on_null f heap (text class slot) e h k = absurd (true≢false (sym e))

  pub on_within : (e : InstructionEffect) (i size : ℕ) → (i < size → Leaves program before by g e) → Leaves program before by g (within i size e)
  on_within e i size h = by_test (nat_lt i size) refl
    where
      by_test : (b : Bool) → nat_lt i size ≡ b → Leaves program before by g (if b then e else traps index_trap)
      by_test true t = h (grind (arith, nat_tests))
      by_test false t = trapped (λ z. omega arith)

  -- an element of an array of arrays
  pub on_element : (f : Option ℕ → InstructionEffect) (heap : Heap) (v : Value) → is_ints_reference heap v ≡ true → ((p : Option ℕ) → ((q : ℕ) → p ≡ Some q → is_ints (heap.array_at q) ≡ true) → Leaves program before by g (f p)) → Leaves program before by g (as_element heap v f)
  on_element f heap null e h = h None (λ q i. cc)
  on_element f heap (array p) e h =
      on_test _ _ (is_ints (heap.array_at p)) e (h (Some p) (λ q i. subst (λ r. is_ints (heap.array_at r) ≡ true) (some_same p q i) e))
  on_element f heap _ e h = absurd (true≢false (sym e))

  pub on_table : (f : Option ℕ → InstructionEffect) (heap : Heap) (v : Value) → is_pages_reference heap v ≡ true → ((p : Option ℕ) → Leaves program before by g (f p)) → Leaves program before by g (as_table heap v f)
  on_table f heap null e h = h None
  on_table f heap (array p) e h = on_test _ _ (is_pages (heap.array_at p)) e (h (Some p))
  on_table f heap _ e h = absurd (true≢false (sym e))

  pub on_text : (f : ℕ → ℕ → InstructionEffect) (v : Value) → is_text_reference v ≡ true → ((class slot : ℕ) → Leaves program before by g (f class slot)) → Leaves program before by g (as_text v f)
  on_text f null e h = trapped (λ z. omega arith)
  on_text f (text class slot) e h = h class slot
  on_text f _ e h = absurd (true≢false (sym e))

  pub on_nullness : (f : Bool → InstructionEffect) (v : Value) → is_reference v ≡ true → ((b : Bool) → Leaves program before by g (f b)) → Leaves program before by g (as_nullness v f)
  on_nullness f null e h = h true
  on_nullness f (array p) e h = h false
  on_nullness f (text class slot) e h = h false
  on_nullness f _ e h = absurd (true≢false (sym e))
