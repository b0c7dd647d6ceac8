-- What instructions leave of a frame whose values are of the types with which they are entered.
use Rattle.std.proofs.Common.{◌≡◌, ℕ, suc, ◌+◌, ◌^◌, ◌<◌, ◌==◌, nat_lt, nat_le, ℤ, pos, negsuc, ◌-ℤ◌, int_lt, Bool, true, false, not, if◌then◌else◌, List, [], ◌∷◌, ◌++◌, length, map, Option, Some, None, is_some, slice_get, refl, sym, ap, subst, ◌∙◌, true≢false, arith}
use Rattle.std.proofs.lemmas.Bool.Decides.{nat_tests}
use Rattle.std.proofs.lemmas.List.{append-nil}
use Rattle.run_definition.specs.Words.{signed_of}
use Rattle.jvm_definition.specs.declared.pair.Pair.{Pair}
use Rattle.jvm_definition.specs.declared.array_name.ArrayName.{ArrayName}
use Rattle.jvm_definition.specs.declared.array_name.ArrayName.TheVariants.{Iaload, Aaload, Iastore, Aastore}
use Rattle.jvm_definition.specs.declared.branch_name.BranchName.{BranchName}
use Rattle.jvm_definition.specs.declared.branch_name.BranchName.TheVariants.{Ifeq, Ifne, Iflt, Ifge, Ifgt, Ifle, IfIcmpeq, IfIcmpne, IfIcmplt, IfIcmpge, IfIcmpgt, IfIcmple, Goto, Ifnull, Ifnonnull}
use Rattle.jvm_definition.specs.declared.conversion.Conversion.{Conversion}
use Rattle.jvm_definition.specs.declared.conversion.Conversion.TheVariants.{I2l, L2i, I2b, I2c, I2s}
use Rattle.jvm_definition.specs.declared.return_name.ReturnName.{ReturnName}
use Rattle.jvm_definition.specs.declared.return_name.ReturnName.TheVariants as returns
use Rattle.jvm_definition.specs.declared.array_kind.ArrayKind.{ArrayKind}
use Rattle.jvm_definition.specs.declared.array_kind.ArrayKind.TheVariants as array_kinds
use Rattle.jvm_definition.specs.declared.constant.Constant.{Constant}
use Rattle.jvm_definition.specs.declared.constant.Constant.TheVariants as constants
use Rattle.jvm_definition.specs.declared.kind.Kind.{Kind}
use Rattle.jvm_definition.specs.declared.kind.Kind.TheVariants.{Top, Int, Long, Null, Ints, Pages, Text}
use Rattle.jvm_definition.specs.declared.local_kind.LocalKind.{LocalKind}
use Rattle.jvm_definition.specs.declared.local_kind.LocalKind.TheVariants as local_kinds
use Rattle.jvm_definition.specs.declared.linked_method.LinkedMethod.{LinkedMethod}
use Rattle.jvm_definition.specs.declared.instruction.Instruction.{Instruction}
use Rattle.jvm_definition.specs.declared.instruction.Instruction.TheVariants as instructions
use Rattle.jvm_definition.specs.Values as values
use Rattle.jvm_definition.specs.Values.{ints, pages, Heap, reference_value, array_length, is_int, is_long_value, is_ints, is_pages, is_ints_reference, new_array, with_new, with_int, with_page, conforms}
use Rattle.jvm_definition.specs.declared.value.Value.{Value}
use Rattle.jvm_definition.specs.declared.value.Value.TheVariants.{Unset as unset, Int as int, Long as long, Null as null, Array as array, Text as text}
use Rattle.jvm_definition.specs.Words.{int_result, int_quotient, int_shifted, long_result, long_quotient, long_shifted, long_order}
use Rattle.jvm_definition.specs.Shuffles.{Shuffle, forms_of, shuffled}
use Rattle.jvm_definition.specs.Program.{Program, instruction_targets, falls_through}
use Rattle.jvm_definition.specs.Effect as effects
use Rattle.jvm_definition.specs.Effect.{Workspace, InstructionEffect, goes_on, jumps, with_operands, pushes, popping_int, constant_value, is_reference, moves_value, converts, accesses, allocates, measures, character, chooses, compares, tests, tests_null, branches, table_target, lookup_target, same_integer, puts, last_first, arguments, calls, calls_host, faults_host, returned, moved, instruction_effect}
use Rattle.jvm_definition.specs.Typing as types
use Rattle.jvm_definition.specs.Typing.{TypeFrame, same_kind, is_reference_kind, exchanges, takes_reference, takes_array, shuffles, constant_kind, access_type, conversion_type, branch_type, given_by, call_type, return_type, array_type, type_effect, with_stack, with_local_kind, taken, taken_one, is_array_kind, moves_kind, stored_type, applied, NamesField, no_top, is_long_kind}
use Rattle.jvm_definition_laws.specs.Safety.{Conform, FieldsAreSafe, given, is_array_reference}
use Rattle.jvm_definition_laws.proofs.KindLaws.{tested, some_same, Conform-taken}
use Rattle.jvm_definition_laws.proofs.HeapLaws.{Conform-kept, continues_itself, continues_new, continues_int, continues_page}
use Rattle.jvm_definition_laws.proofs.ShuffleLaws.{shuffled_conform}
use Rattle.jvm_definition_laws.proofs.TakingLaws.{Stands, Leaves, on, to, into, back, out, faulted, trapped, settles, settles_on, mapped, exchanged, on_test, on_either, on_top, on_as_int, on_int, on_long, on_ints, on_longs, on_int_array, on_page_array, on_array, on_within, on_element, on_table, on_text, on_nullness}

-- ---- branches

module _ (program : Program) (by : Instruction) (g f : TypeFrame) (w : Workspace) (falls : falls_through by ≡ true) (goes : 0 < length (instruction_targets by)) (s : Stands program f w) where
  choice_leaves : (taken : Bool) (kinds : List Kind) (operands : List Value) → with_stack f kinds ≡ g → Conform w.heap kinds operands → Leaves program w.heap by g (chooses taken w operands)
  choice_leaves taken kinds operands e c =
      subst (λ g. Leaves program w.heap by g (chooses taken w operands)) e (on_either _ _ taken (to goes (settles program f w s kinds operands c)) (on falls (settles program f w s kinds operands c)))

  tests_leave : (test : ℤ → Bool) → applied (exchanges (Int ∷ []) []) f ≡ Some g → Conform w.heap f.stack w.operands → Leaves program w.heap by g (tests test w)
  tests_leave test e c =
      let parts = mapped (λ stack. with_stack f ([] ++ stack)) (taken (Int ∷ []) f.stack) g e in
      on_int _ w.heap parts.0 w.operands (Conform-taken w.heap (Int ∷ []) f.stack parts.0 w.operands parts.1 c) (λ n others d. choice_leaves (test (signed_of n)) parts.0 others parts.2 d)

  compares_leave : (test : ℤ → ℤ → Bool) → applied (exchanges (Int ∷ Int ∷ []) []) f ≡ Some g → Conform w.heap f.stack w.operands → Leaves program w.heap by g (compares test w)
  compares_leave test e c =
      let parts = mapped (λ stack. with_stack f ([] ++ stack)) (taken (Int ∷ Int ∷ []) f.stack) g e in
      on_ints _ w.heap parts.0 w.operands (Conform-taken w.heap (Int ∷ Int ∷ []) f.stack parts.0 w.operands parts.1 c) (λ a b others d. choice_leaves (test (signed_of a) (signed_of b)) parts.0 others parts.2 d)

pub is_reference_of : (heap : Heap) (k : Kind) (v : Value) → is_reference_kind k ≡ true → conforms heap k v ≡ true → is_reference v ≡ true
is_reference_of heap k null h c = refl
is_reference_of heap k (array p) h c = refl
is_reference_of heap k (text class slot) h c = refl
is_reference_of heap Top unset h c = cc
is_reference_of heap Int unset h c = cc
is_reference_of heap Long unset h c = cc
is_reference_of heap _ unset h c = c
is_reference_of heap Top (int n) h c = cc
is_reference_of heap Int (int n) h c = cc
is_reference_of heap Long (int n) h c = cc
is_reference_of heap _ (int n) h c = c
is_reference_of heap Top (long n) h c = cc
is_reference_of heap Int (long n) h c = cc
is_reference_of heap Long (long n) h c = cc
is_reference_of heap _ (long n) h c = c

-- the operand on top, where its type passes a test
pub Conform-one : (heap : Heap) (test : Kind → Bool) (stack rest : List Kind) (operands : List Value) → taken_one test stack ≡ Some rest → Conform heap stack operands → (k : Kind) × (test k ≡ true) × Conform heap (k ∷ rest) operands
Conform-one heap test [] rest operands e c = cc
Conform-one heap test (k ∷ stack) rest operands e c =
    let parts = tested (test k) (Some stack) rest e in
    (k, parts.0, subst (λ s. Conform heap (k ∷ s) operands) (some_same stack rest parts.1) c)

nulls_leave : (program : Program) (by : Instruction) (g f : TypeFrame) (w : Workspace) → falls_through by ≡ true → 0 < length (instruction_targets by) → Stands program f w → (test : Bool → Bool) → applied takes_reference f ≡ Some g → Conform w.heap f.stack w.operands → Leaves program w.heap by g (tests_null test w)
nulls_leave program by g f w falls goes s test e c =
    let parts = mapped (with_stack f) (taken_one is_reference_kind f.stack) g e in
    let top = Conform-one w.heap is_reference_kind f.stack parts.0 w.operands parts.1 c in
    on_top _ w.heap top.0 parts.0 w.operands top.2 (λ v others i d. on_nullness _ v (is_reference_of w.heap top.0 v top.1 i) (λ b. choice_leaves program by g f w falls goes s (test b) parts.0 others parts.2 d))

one_target : (target : ℕ) → 0 < length (target ∷ [])
one_target target = omega arith

branches_leave : (program : Program) (name : BranchName) (target : ℕ) (g f : TypeFrame) (w : Workspace) → Stands program f w → applied (branch_type name) f ≡ Some g → Conform w.heap f.stack w.operands → Leaves program w.heap (instructions.Branch name target) g (branches name w)
branches_leave program Ifeq target g f w s e c =
    tests_leave program (instructions.Branch Ifeq target) g f w refl (one_target target) s (λ n. same_integer n (pos 0)) e c
branches_leave program Ifne target g f w s e c =
    tests_leave program (instructions.Branch Ifne target) g f w refl (one_target target) s (λ n. not (same_integer n (pos 0))) e c
branches_leave program Iflt target g f w s e c =
    tests_leave program (instructions.Branch Iflt target) g f w refl (one_target target) s (λ n. int_lt n (pos 0)) e c
branches_leave program Ifge target g f w s e c =
    tests_leave program (instructions.Branch Ifge target) g f w refl (one_target target) s (λ n. not (int_lt n (pos 0))) e c
branches_leave program Ifgt target g f w s e c =
    tests_leave program (instructions.Branch Ifgt target) g f w refl (one_target target) s (λ n. int_lt (pos 0) n) e c
branches_leave program Ifle target g f w s e c =
    tests_leave program (instructions.Branch Ifle target) g f w refl (one_target target) s (λ n. not (int_lt (pos 0) n)) e c
branches_leave program IfIcmpeq target g f w s e c =
    compares_leave program (instructions.Branch IfIcmpeq target) g f w refl (one_target target) s same_integer e c
branches_leave program IfIcmpne target g f w s e c =
    compares_leave program (instructions.Branch IfIcmpne target) g f w refl (one_target target) s (λ a b. not (same_integer a b)) e c
branches_leave program IfIcmplt target g f w s e c =
    compares_leave program (instructions.Branch IfIcmplt target) g f w refl (one_target target) s int_lt e c
branches_leave program IfIcmpge target g f w s e c =
    compares_leave program (instructions.Branch IfIcmpge target) g f w refl (one_target target) s (λ a b. not (int_lt a b)) e c
branches_leave program IfIcmpgt target g f w s e c =
    compares_leave program (instructions.Branch IfIcmpgt target) g f w refl (one_target target) s (λ a b. int_lt b a) e c
branches_leave program IfIcmple target g f w s e c =
    compares_leave program (instructions.Branch IfIcmple target) g f w refl (one_target target) s (λ a b. not (int_lt b a)) e c
branches_leave program Ifnull target g f w s e c =
    nulls_leave program (instructions.Branch Ifnull target) g f w refl (one_target target) s (λ b. b) e c
branches_leave program Ifnonnull target g f w s e c =
    nulls_leave program (instructions.Branch Ifnonnull target) g f w refl (one_target target) s not e c
branches_leave program Goto target g f w s e c =
    exchanged (λ g. Leaves program w.heap (instructions.Branch Goto target) g (jumps 0 w)) w.heap [] [] f g w.operands e c (λ rest d. to (one_target target) (settles program f w s rest w.operands d))

-- the number of a switch's target is one of its targets'
table_within : (z : ℤ) (count : ℕ) → table_target z count < suc count
table_within (negsuc i) count = omega arith
table_within (pos i) count = by_test (nat_lt i count) refl
  where
    by_test : (b : Bool) → nat_lt i count ≡ b → (if b then suc i else 0) < suc count
    by_test true t = grind (arith, nat_tests)
    by_test false t = omega arith

lookup_within : (pairs : List Pair) (key : ℤ) (number : ℕ) → 0 < number → lookup_target pairs key number < number + length pairs
lookup_within [] key number h = omega arith
lookup_within (p ∷ pairs) key number h =
    by_test (same_integer p.key key) (lookup_within pairs key (suc number) (omega arith))
  where
    by_test : (b : Bool) → lookup_target pairs key (suc number) < suc number + length pairs → (if b then number else lookup_target pairs key (suc number)) < number + length (p ∷ pairs)
    by_test true t = omega arith
    by_test false t = omega arith

pair_targets : (pairs : List Pair) → length (map (λ (p : Pair). p.target) pairs) ≡ length pairs
pair_targets [] = refl
pair_targets (p ∷ pairs) = ap suc (pair_targets pairs)

switch_leaves : (program : Program) (by : Instruction) (g f : TypeFrame) (w : Workspace) → Stands program f w → (number : ℕ → ℕ) → ((n : ℕ) → number n < length (instruction_targets by)) → applied (exchanges (Int ∷ []) []) f ≡ Some g → Conform w.heap f.stack w.operands → Leaves program w.heap by g (popping_int w.operands (λ n rest. jumps (number n) (with_operands w rest)))
switch_leaves program by g f w s number goes e c =
    exchanged (λ g. Leaves program w.heap by g (popping_int w.operands (λ n rest. jumps (number n) (with_operands w rest)))) w.heap (Int ∷ []) [] f g w.operands e c (λ rest d. on_int _ w.heap rest w.operands d (λ n others d. to (goes n) (settles program f w s rest others d)))

-- ---- local variables

module _ (heap : Heap) where
  local_set : (b : Bool) (k l : Kind) (v u : Value) → conforms heap k v ≡ true → conforms heap l u ≡ true → conforms heap (if b then k else l) (if b then v else u) ≡ true
  local_set true k l v u c d = c
  local_set false k l v u c d = d

  pub int_of : (k : Kind) (v : Value) → same_kind k Int ≡ true → conforms heap k v ≡ true → is_int v ≡ true
  int_of Int v h c = c
  int_of _ v h c = absurd (true≢false (sym h))

  of_int : (k : Kind) (n : ℕ) → same_kind k Int ≡ true → conforms heap k (int n) ≡ true
  of_int Int n h = refl
  of_int _ n h = absurd (true≢false (sym h))

  pub moves_of : (moved : LocalKind) (k : Kind) (v : Value) → moves_kind moved k ≡ true → conforms heap k v ≡ true → moves_value moved v ≡ true
  moves_of local_kinds.Int k v h c = int_of k v h c
  moves_of local_kinds.Reference k v h c = is_reference_of heap k v h c

  pub array_of : (k : Kind) (v : Value) → is_array_kind k ≡ true → conforms heap k v ≡ true → is_array_reference heap v ≡ true
  array_of Null null h c = refl
  array_of Null _ h c = absurd (true≢false (sym c))
  array_of Ints null h c = refl
  array_of Ints (array p) h c = some_array (heap.array_at p) c
    where
      some_array : (a : Option values.Array) → is_ints a ≡ true → is_some a ≡ true
      some_array (Some a) e = refl
      some_array None e = e
  array_of Ints _ h c = absurd (true≢false (sym c))
  array_of Pages null h c = refl
  array_of Pages (array p) h c = some_array (heap.array_at p) c
    where
      some_array : (a : Option values.Array) → is_pages a ≡ true → is_some a ≡ true
      some_array (Some a) e = refl
      some_array None e = e
  array_of Pages _ h c = absurd (true≢false (sym c))
  array_of _ v h c = absurd (true≢false (sym h))

loads_leave : (program : Program) (kind : LocalKind) (i : ℕ) (g f : TypeFrame) (w : Workspace) → Stands program f w → applied (types.loads kind i) f ≡ Some g → Conform w.heap f.stack w.operands → Leaves program w.heap (instructions.Load kind i) g (effects.load_effect_of kind i w)
loads_leave program kind i g f w s e c =
    let parts = tested (moves_kind kind (f.locals i)) (Some (with_stack f (f.locals i ∷ f.stack))) g e in
    subst (λ g. Leaves program w.heap (instructions.Load kind i) g (effects.load_effect_of kind i w)) (some_same (with_stack f (f.locals i ∷ f.stack)) g parts.1)
    (on_test _ _ (moves_value kind (w.locals i)) (moves_of w.heap kind (f.locals i) (w.locals i) parts.0 (s.locals i)) (on refl (settles program f w s (f.locals i ∷ f.stack) (w.locals i ∷ w.operands) (s.locals i, c))))

stored_leaves : (program : Program) (kind : LocalKind) (i : ℕ) (g f : TypeFrame) (w : Workspace) (stack : List Kind) → Stands program f w → stored_type kind i f stack ≡ Some g → Conform w.heap stack w.operands → Leaves program w.heap (instructions.Store kind i) g (effects.stores kind i w)
stored_leaves program kind i g f w [] s e c = cc
stored_leaves program kind i g f w (k ∷ stack) s e c =
    let parts = tested (moves_kind kind k) (Some (with_local_kind f i k stack)) g e in
    subst (λ g. Leaves program w.heap (instructions.Store kind i) g (effects.stores kind i w)) (some_same (with_local_kind f i k stack) g parts.1)
    (on_top _ w.heap k stack w.operands c (λ v others d c. on_test _ _ (moves_value kind v) (moves_of w.heap kind k v parts.0 d) (on refl (record {
      heap = continues_itself w.heap s.heap;
      fields = s.fields;
      locals = λ j. local_set w.heap (j == i) k (f.locals j) v (w.locals j) d (s.locals j);
      operands = c;
    }))))

incremented : (heap : Heap) (kinds : ℕ → Kind) (locals : ℕ → Value) (i j n : ℕ) → same_kind (kinds i) Int ≡ true → conforms heap (kinds j) (locals j) ≡ true → conforms heap (kinds j) (if j == i then int n else locals j) ≡ true
incremented heap kinds locals i j n h c = by_test (j == i) refl
  where
    by_test : (b : Bool) → (j == i) ≡ b → conforms heap (kinds j) (if b then int n else locals j) ≡ true
    by_test true t =
        let e : j ≡ i = grind (arith, nat_tests) in of_int heap (kinds j) n (ap (λ k. same_kind (kinds k) Int) e ∙ h)
    by_test false t = c

increments_leave : (program : Program) (i by : ℕ) (g f : TypeFrame) (w : Workspace) → Stands program f w → applied (types.increments i) f ≡ Some g → Conform w.heap f.stack w.operands → Leaves program w.heap (instructions.Increment i by) g (effects.increments i by w)
increments_leave program i by g f w s e c =
    let parts = tested (same_kind (f.locals i) Int) (Some f) g e in
    subst (λ g. Leaves program w.heap (instructions.Increment i by) g (effects.increments i by w)) (some_same f g parts.1)
    (on_as_int _ (w.locals i) (int_of w.heap (f.locals i) (w.locals i) parts.0 (s.locals i)) (λ n. on refl (record {
      heap = continues_itself w.heap s.heap;
      fields = s.fields;
      locals = λ j. incremented w.heap f.locals w.locals i j _ parts.0 (s.locals j);
      operands = c;
    })))

-- ---- arrays

reference_conforms : (heap : Heap) (p : Option ℕ) → ((q : ℕ) → p ≡ Some q → is_ints (heap.array_at q) ≡ true) → is_ints_reference heap (reference_value p) ≡ true
reference_conforms heap None h = refl
reference_conforms heap (Some q) h = h q refl

accesses_leave : (program : Program) (name : ArrayName) (g f : TypeFrame) (w : Workspace) → Stands program f w → applied (access_type name) f ≡ Some g → Conform w.heap f.stack w.operands → Leaves program w.heap (instructions.Array name) g (accesses name w)
accesses_leave program Iaload g f w s e c =
    exchanged (λ g. Leaves program w.heap (instructions.Array Iaload) g (accesses Iaload w)) w.heap (Int ∷ Ints ∷ []) (Int ∷ []) f g w.operands e c (λ rest c.
    on_int _ w.heap (Ints ∷ rest) w.operands c (λ i below c. on_top _ w.heap Ints rest below c (λ v others h c.
    on_int_array _ _ w.heap v h (trapped (λ z. omega arith)) (λ p size words a.
    on_within _ i size (λ l. on refl (settles program f w s (Int ∷ rest) (int (words i) ∷ others) (refl, c)))))))
accesses_leave program Aaload g f w s e c =
    exchanged (λ g. Leaves program w.heap (instructions.Array Aaload) g (accesses Aaload w)) w.heap (Int ∷ Pages ∷ []) (Ints ∷ []) f g w.operands e c (λ rest c.
    on_int _ w.heap (Pages ∷ rest) w.operands c (λ i below c. on_top _ w.heap Pages rest below c (λ v others h c.
    on_page_array _ _ w.heap v h (trapped (λ z. omega arith)) (λ p size places a.
    on_within _ i size (λ l. on refl (settles program f w s (Ints ∷ rest) (reference_value (places i) ∷ others) (reference_conforms w.heap (places i) (λ q k. s.heap.elements p size places i q a l k), c)))))))
accesses_leave program Iastore g f w s e c =
    exchanged (λ g. Leaves program w.heap (instructions.Array Iastore) g (accesses Iastore w)) w.heap (Int ∷ Int ∷ Ints ∷ []) [] f g w.operands e c (λ rest c.
    on_ints _ w.heap (Ints ∷ rest) w.operands c (λ i n below c. on_top _ w.heap Ints rest below c (λ v others h c.
    on_int_array _ _ w.heap v h (trapped (λ z. omega arith)) (λ p size words a.
    let after = continues_int w.heap p i n s.heap in
    on_within _ i size (λ l. on refl (settles_on program f w s (with_int w.heap p i n) after rest others (Conform-kept w.heap (with_int w.heap p i n) after.keeps rest others c)))))))
accesses_leave program Aastore g f w s e c =
    exchanged (λ g. Leaves program w.heap (instructions.Array Aastore) g (accesses Aastore w)) w.heap (Ints ∷ Int ∷ Pages ∷ []) [] f g w.operands e c (λ rest c.
    on_top _ w.heap Ints (Int ∷ Pages ∷ rest) w.operands c (λ u under t c. on_element _ w.heap u t (λ element is.
    on_int _ w.heap (Pages ∷ rest) under c (λ i below c. on_top _ w.heap Pages rest below c (λ v others h c.
    on_page_array _ _ w.heap v h (trapped (λ z. omega arith)) (λ p size places a.
    let after = continues_page w.heap p i element s.heap is in
    on_within _ i size (λ l. on refl (settles_on program f w s (with_page w.heap p i element) after rest others (Conform-kept w.heap (with_page w.heap p i element) after.keeps rest others c)))))))))

chosen_first : (test : Option values.Array → Bool) (b : Bool) (x y : Option values.Array) → b ≡ true → test x ≡ true → test (if b then x else y) ≡ true
chosen_first test true x y e h = h
chosen_first test false x y e h = absurd (true≢false (sym e))

itself : (n : ℕ) → (n == n) ≡ true
itself n = grind (arith, nat_tests)

stands_new : (heap : Heap) (kind : ArrayKind) (size : ℕ) → conforms (with_new heap (new_array kind size)) (array_type kind) (array heap.used) ≡ true
stands_new heap array_kinds.Ints size =
    chosen_first is_ints (heap.used == heap.used) (Some (ints size (λ i. 0))) (heap.array_at heap.used) (itself heap.used) refl
stands_new heap array_kinds.Pages size =
    chosen_first is_pages (heap.used == heap.used) (Some (pages size (λ i. None))) (heap.array_at heap.used) (itself heap.used) refl

allocates_leave : (program : Program) (words : ℕ) (kind : ArrayKind) (size : ℕ) (f : TypeFrame) (w : Workspace) (rest : List Kind) (others : List Value) → Stands program f w → Conform w.heap rest others → Leaves program w.heap (instructions.NewArray kind) (with_stack f (array_type kind ∷ rest)) (allocates words kind size others w)
allocates_leave program words kind size f w rest others s c =
    let after = continues_new w.heap kind size s.heap in
    let heap = with_new w.heap (new_array kind size) in
    on_either _ _ (nat_le (2 ^ 31) size) (trapped (λ z. omega arith))
    (on_either _ _ (nat_lt words (w.heap.used + size + 2)) (trapped (λ z. omega arith))
    (on refl (settles_on program f w s heap after (array_type kind ∷ rest) (array w.heap.used ∷ others) (stands_new w.heap kind size, Conform-kept w.heap heap after.keeps rest others c))))

measures_leave : (program : Program) (g f : TypeFrame) (w : Workspace) → Stands program f w → applied takes_array f ≡ Some g → Conform w.heap f.stack w.operands → Leaves program w.heap instructions.ArrayLength g (measures w)
measures_leave program g f w s e c =
    let parts = mapped (λ stack. with_stack f (Int ∷ stack)) (taken_one is_array_kind f.stack) g e in
    let top = Conform-one w.heap is_array_kind f.stack parts.0 w.operands parts.1 c in
    subst (λ g. Leaves program w.heap instructions.ArrayLength g (measures w)) parts.2
    (on_top _ w.heap top.0 parts.0 w.operands top.2 (λ v others h c.
    on_array _ _ w.heap v (array_of w.heap top.0 v top.1 h) (trapped (λ z. omega arith)) (λ p a. on refl (settles program f w s (Int ∷ parts.0) (int (array_length a) ∷ others) (refl, c)))))

-- ---- fields and strings

put_conforms : (program : Program) (heap : Heap) (f : ℕ) (kind : Kind) (v : Value) (fields : ℕ → Value) → program.field f ≡ Some kind → conforms heap kind v ≡ true → FieldsAreSafe program heap fields → FieldsAreSafe program heap (λ g. if g == f then v else fields g)
put_conforms program heap f kind v fields e c h g other is = by_test (g == f) refl
  where
    by_test : (b : Bool) → (g == f) ≡ b → conforms heap other (if b then v else fields g) ≡ true
    by_test true t =
        let i : g ≡ f = grind (arith, nat_tests) in
        let k : kind ≡ other = some_same kind other (sym e ∙ ap program.field (sym i) ∙ is) in
        subst (λ kind. conforms heap kind v ≡ true) k c
    by_test false t = h g other is

puts_leave : (program : Program) (field : ℕ) (kind : Kind) (g f : TypeFrame) (w : Workspace) → Stands program f w → program.field field ≡ Some kind → applied (exchanges (kind ∷ []) []) f ≡ Some g → Conform w.heap f.stack w.operands → Leaves program w.heap (instructions.Put field kind) g (puts field kind w)
puts_leave program field kind g f w s named e c =
    exchanged (λ g. Leaves program w.heap (instructions.Put field kind) g (puts field kind w)) w.heap (kind ∷ []) [] f g w.operands e c (λ rest c.
    on_top _ w.heap kind rest w.operands c (λ v others h c. on_test _ _ (conforms w.heap kind v) h (on refl (record {
      heap = continues_itself w.heap s.heap;
      fields = put_conforms program w.heap field kind v w.fields named h s.fields;
      locals = s.locals;
      operands = c;
    }))))

character_leaves : (program : Program) (f : TypeFrame) (w : Workspace) (rest : List Kind) (others : List Value) (character : Option ℕ) → Stands program f w → Conform w.heap rest others → Leaves program w.heap instructions.CharAt (with_stack f (Int ∷ rest)) (effects.character w others character)
character_leaves program f w rest others None s c = trapped (λ z. omega arith)
character_leaves program f w rest others (Some n) s c = on refl (settles program f w s (Int ∷ rest) (int n ∷ others) (refl, c))

-- ---- calls and returns

last_first-twice : (kinds others front : List Kind) → last_first (last_first kinds others) front ≡ last_first others (kinds ++ front)
last_first-twice [] others front = refl
last_first-twice (k ∷ kinds) others front = last_first-twice kinds (k ∷ others) front

on_arguments : {program : Program} {before : Heap} {by : Instruction} {g : TypeFrame} (f : List Value → List Value → InstructionEffect) (heap : Heap) (kinds done rest : List Kind) (operands given : List Value) → Conform heap (kinds ++ rest) operands → Conform heap done given → ((passed others : List Value) → Conform heap (last_first kinds done) passed → Conform heap rest others → Leaves program before by g (f passed others)) → Leaves program before by g (arguments heap kinds operands given f)
on_arguments f heap [] done rest operands given c d h = h given operands d c
on_arguments f heap (k ∷ kinds) done rest [] given c d h = absurd c
on_arguments f heap (k ∷ kinds) done rest (v ∷ operands) given c d h =
    on_test _ _ (conforms heap k v) c.0 (on_arguments f heap kinds (k ∷ done) rest operands (v ∷ given) c.1 (c.0, d) h)

calls_leave : (program : Program) (m : ℕ) (method : Option LinkedMethod) (g f : TypeFrame) (w : Workspace) → Stands program f w → program.method m ≡ method → applied (call_type method) f ≡ Some g → Conform w.heap f.stack w.operands → Leaves program w.heap (instructions.Call m) g (calls m method w)
calls_leave program m None g f w s is e c = cc
calls_leave program m (Some method) g f w s is e c =
    exchanged (λ g. Leaves program w.heap (instructions.Call m) g (calls m (Some method) w)) w.heap (last_first method.parameters []) (given_by method.gives_int) f g w.operands e c (λ rest c.
    on_arguments _ w.heap (last_first method.parameters []) [] rest w.operands [] c tt (λ passed others d c.
    into method rest is refl refl (subst (λ kinds. Conform w.heap kinds passed) (last_first-twice method.parameters [] [] ∙ append-nil method.parameters) d) (settles program f w s rest others c)))

calls_host_leave : (program : Program) (g f : TypeFrame) (w : Workspace) → Stands program f w → applied (exchanges (Int ∷ Int ∷ Int ∷ Int ∷ Int ∷ Pages ∷ Pages ∷ []) (Int ∷ [])) f ≡ Some g → Conform w.heap f.stack w.operands → Leaves program w.heap instructions.CallHost g (calls_host w)
calls_host_leave program g f w s e c =
    exchanged (λ g. Leaves program w.heap instructions.CallHost g (calls_host w)) w.heap (Int ∷ Int ∷ Int ∷ Int ∷ Int ∷ Pages ∷ Pages ∷ []) (Int ∷ []) f g w.operands e c (λ rest c.
    on_ints _ w.heap (Int ∷ Int ∷ Int ∷ Pages ∷ Pages ∷ rest) w.operands c (λ a2 a3 rest3 c.
    on_ints _ w.heap (Int ∷ Pages ∷ Pages ∷ rest) rest3 c (λ a0 a1 rest2 c.
    on_int _ w.heap (Pages ∷ Pages ∷ rest) rest2 c (λ number rest1 c.
    on_top _ w.heap Pages (Pages ∷ rest) rest1 c (λ writable rest0 h c. on_table _ w.heap writable h (λ second.
    on_top _ w.heap Pages rest rest0 c (λ readable others k c. on_table _ w.heap readable k (λ first.
    out rest refl refl (settles program f w s rest others c)))))))))

faults_leave : (program : Program) (g f : TypeFrame) (w : Workspace) → Stands program f w → applied (exchanges (Int ∷ Int ∷ Int ∷ []) []) f ≡ Some g → Conform w.heap f.stack w.operands → Leaves program w.heap instructions.FaultHost g (faults_host w)
faults_leave program g f w s e c =
    exchanged (λ g. Leaves program w.heap instructions.FaultHost g (faults_host w)) w.heap (Int ∷ Int ∷ Int ∷ []) [] f g w.operands e c (λ rest c.
    on_ints _ w.heap (Int ∷ rest) w.operands c (λ pc value below c. on_int _ w.heap rest below c (λ kind others c. faulted)))

returned_leaves : (program : Program) (name : ReturnName) (g f : TypeFrame) (w : Workspace) → Stands program f w → applied (return_type name) f ≡ Some g → Conform w.heap f.stack w.operands → Leaves program w.heap (instructions.Return name) g (returned name w)
returned_leaves program returns.Ireturn g f w s e c =
    exchanged (λ g. Leaves program w.heap (instructions.Return returns.Ireturn) g (returned returns.Ireturn w)) w.heap (Int ∷ []) [] f g w.operands e c (λ rest c.
    on_int _ w.heap rest w.operands c (λ n others c. back true n refl (λ method h. h) (continues_itself w.heap s.heap) s.fields))
returned_leaves program returns.Return g f w s e c =
    back false 0 refl (λ method h. h) (continues_itself w.heap s.heap) s.fields

-- ---- conversions, constants and operands that are moved

converts_leave : (program : Program) (name : Conversion) (g f : TypeFrame) (w : Workspace) → Stands program f w → applied (conversion_type name) f ≡ Some g → Conform w.heap f.stack w.operands → Leaves program w.heap (instructions.Convert name) g (converts name w)
converts_leave program I2l g f w s e c =
    exchanged (λ g. Leaves program w.heap (instructions.Convert I2l) g (converts I2l w)) w.heap (Int ∷ []) (Long ∷ []) f g w.operands e c (λ rest c.
    on_int _ w.heap rest w.operands c (λ n others c. on refl (settles program f w s (Long ∷ rest) (long _ ∷ others) (refl, c))))
converts_leave program L2i g f w s e c =
    exchanged (λ g. Leaves program w.heap (instructions.Convert L2i) g (converts L2i w)) w.heap (Long ∷ []) (Int ∷ []) f g w.operands e c (λ rest c.
    on_long _ w.heap rest w.operands c (λ n others c. on refl (settles program f w s (Int ∷ rest) (int _ ∷ others) (refl, c))))
converts_leave program I2b g f w s e c =
    exchanged (λ g. Leaves program w.heap (instructions.Convert I2b) g (converts I2b w)) w.heap (Int ∷ []) (Int ∷ []) f g w.operands e c (λ rest c.
    on_int _ w.heap rest w.operands c (λ n others c. on refl (settles program f w s (Int ∷ rest) (int _ ∷ others) (refl, c))))
converts_leave program I2c g f w s e c =
    exchanged (λ g. Leaves program w.heap (instructions.Convert I2c) g (converts I2c w)) w.heap (Int ∷ []) (Int ∷ []) f g w.operands e c (λ rest c.
    on_int _ w.heap rest w.operands c (λ n others c. on refl (settles program f w s (Int ∷ rest) (int _ ∷ others) (refl, c))))
converts_leave program I2s g f w s e c =
    exchanged (λ g. Leaves program w.heap (instructions.Convert I2s) g (converts I2s w)) w.heap (Int ∷ []) (Int ∷ []) f g w.operands e c (λ rest c.
    on_int _ w.heap rest w.operands c (λ n others c. on refl (settles program f w s (Int ∷ rest) (int _ ∷ others) (refl, c))))

constant_conforms : (heap : Heap) (constant : Constant) → conforms heap (constant_kind constant) (constant_value constant) ≡ true
constant_conforms heap constants.Null = refl
constant_conforms heap (constants.Int n) = refl
constant_conforms heap (constants.Long n) = refl
constant_conforms heap (constants.Text class slot) = refl

shuffles_leave : (program : Program) (by : Instruction) (forms : List Shuffle) (g f : TypeFrame) (w : Workspace) → falls_through by ≡ true → Stands program f w → no_top f.stack ≡ true → applied (shuffles forms) f ≡ Some g → Conform w.heap f.stack w.operands → Leaves program w.heap by g (moved w (shuffled is_long_value forms w.operands))
shuffles_leave program by forms g f w falls s tops e c =
    let parts = mapped (with_stack f) (shuffled is_long_kind forms f.stack) g e in
    let found = shuffled_conform w.heap forms f.stack w.operands tops c parts.0 parts.1 in
    subst (λ g. Leaves program w.heap by g (moved w (shuffled is_long_value forms w.operands))) parts.2
    (subst (λ operands. Leaves program w.heap by (with_stack f parts.0) (moved w operands)) (sym found.1) (on falls (settles program f w s parts.0 found.0 found.2)))

-- ---- all instructions

-- progress and preservation of an instruction
pub effect_leaves : (program : Program) (words : ℕ) (by : Instruction) (g f : TypeFrame) (w : Workspace) → Stands program f w → no_top f.stack ≡ true → NamesField program by → applied (type_effect program by) f ≡ Some g → Conform w.heap f.stack w.operands → Leaves program w.heap by g (instruction_effect program words by w)
effect_leaves program words instructions.Nop g f w s tops named e c =
    exchanged (λ g. Leaves program w.heap instructions.Nop g (goes_on w)) w.heap [] [] f g w.operands e c (λ rest c.
    on refl (settles program f w s rest w.operands c))
effect_leaves program words (instructions.Push constant) g f w s tops named e c =
    exchanged (λ g. Leaves program w.heap (instructions.Push constant) g (pushes w (constant_value constant) w.operands)) w.heap [] (constant_kind constant ∷ []) f g w.operands e c (λ rest c.
    on refl (settles program f w s (constant_kind constant ∷ rest) (constant_value constant ∷ w.operands) (constant_conforms w.heap constant, c)))
effect_leaves program words (instructions.Load kind i) g f w s tops named e c = loads_leave program kind i g f w s e c
effect_leaves program words (instructions.Store kind i) g f w s tops named e c =
    stored_leaves program kind i g f w f.stack s e c
effect_leaves program words (instructions.Array name) g f w s tops named e c = accesses_leave program name g f w s e c
effect_leaves program words (instructions.Stack name) g f w s tops named e c =
    shuffles_leave program (instructions.Stack name) (forms_of name) g f w refl s tops e c
effect_leaves program words (instructions.IntArithmetic name) g f w s tops named e c =
    exchanged (λ g. Leaves program w.heap (instructions.IntArithmetic name) g (instruction_effect program words (instructions.IntArithmetic name) w)) w.heap (Int ∷ Int ∷ []) (Int ∷ []) f g w.operands e c (λ rest c.
    on_ints _ w.heap rest w.operands c (λ a b others c. on refl (settles program f w s (Int ∷ rest) (int (int_result name a b) ∷ others) (refl, c))))
effect_leaves program words (instructions.IntDivision name) g f w s tops named e c =
    exchanged (λ g. Leaves program w.heap (instructions.IntDivision name) g (instruction_effect program words (instructions.IntDivision name) w)) w.heap (Int ∷ Int ∷ []) (Int ∷ []) f g w.operands e c (λ rest c.
    on_ints _ w.heap rest w.operands c (λ a b others c. on_either _ _ (b == 0) (trapped (λ z. omega arith)) (on refl (settles program f w s (Int ∷ rest) (int (int_quotient name a b) ∷ others) (refl, c)))))
effect_leaves program words (instructions.IntShift name) g f w s tops named e c =
    exchanged (λ g. Leaves program w.heap (instructions.IntShift name) g (instruction_effect program words (instructions.IntShift name) w)) w.heap (Int ∷ Int ∷ []) (Int ∷ []) f g w.operands e c (λ rest c.
    on_ints _ w.heap rest w.operands c (λ a n others c. on refl (settles program f w s (Int ∷ rest) (int (int_shifted name a n) ∷ others) (refl, c))))
effect_leaves program words (instructions.LongArithmetic name) g f w s tops named e c =
    exchanged (λ g. Leaves program w.heap (instructions.LongArithmetic name) g (instruction_effect program words (instructions.LongArithmetic name) w)) w.heap (Long ∷ Long ∷ []) (Long ∷ []) f g w.operands e c (λ rest c.
    on_longs _ w.heap rest w.operands c (λ a b others c. on refl (settles program f w s (Long ∷ rest) (long (long_result name a b) ∷ others) (refl, c))))
effect_leaves program words (instructions.LongDivision name) g f w s tops named e c =
    exchanged (λ g. Leaves program w.heap (instructions.LongDivision name) g (instruction_effect program words (instructions.LongDivision name) w)) w.heap (Long ∷ Long ∷ []) (Long ∷ []) f g w.operands e c (λ rest c.
    on_longs _ w.heap rest w.operands c (λ a b others c. on_either _ _ (b == 0) (trapped (λ z. omega arith)) (on refl (settles program f w s (Long ∷ rest) (long (long_quotient name a b) ∷ others) (refl, c)))))
effect_leaves program words (instructions.LongShift name) g f w s tops named e c =
    exchanged (λ g. Leaves program w.heap (instructions.LongShift name) g (instruction_effect program words (instructions.LongShift name) w)) w.heap (Int ∷ Long ∷ []) (Long ∷ []) f g w.operands e c (λ rest c.
    on_int _ w.heap (Long ∷ rest) w.operands c (λ n below c. on_long _ w.heap rest below c (λ a others c.
    on refl (settles program f w s (Long ∷ rest) (long (long_shifted name a n) ∷ others) (refl, c)))))
effect_leaves program words (instructions.Increment i by) g f w s tops named e c = increments_leave program i by g f w s e c
effect_leaves program words (instructions.Convert name) g f w s tops named e c = converts_leave program name g f w s e c
effect_leaves program words instructions.LongCompare g f w s tops named e c =
    exchanged (λ g. Leaves program w.heap instructions.LongCompare g (instruction_effect program words instructions.LongCompare w)) w.heap (Long ∷ Long ∷ []) (Int ∷ []) f g w.operands e c (λ rest c.
    on_longs _ w.heap rest w.operands c (λ a b others c. on refl (settles program f w s (Int ∷ rest) (int (long_order a b) ∷ others) (refl, c))))
effect_leaves program words (instructions.Branch name target) g f w s tops named e c =
    branches_leave program name target g f w s e c
effect_leaves program words (instructions.TableSwitch t) g f w s tops named e c =
    switch_leaves program (instructions.TableSwitch t) g f w s (λ n. table_target (signed_of n -ℤ t.low) (length t.targets)) (λ n. table_within (signed_of n -ℤ t.low) (length t.targets)) e c
effect_leaves program words (instructions.LookupSwitch t) g f w s tops named e c =
    switch_leaves program (instructions.LookupSwitch t) g f w s (λ n. lookup_target t.pairs (signed_of n) 1) (λ n. omega (arith, pair_targets t.pairs, lookup_within t.pairs (signed_of n) 1 (omega arith))) e c
effect_leaves program words (instructions.Get field kind) g f w s tops named e c =
    exchanged (λ g. Leaves program w.heap (instructions.Get field kind) g (pushes w (w.fields field) w.operands)) w.heap [] (kind ∷ []) f g w.operands e c (λ rest c.
    on refl (settles program f w s (kind ∷ rest) (w.fields field ∷ w.operands) (s.fields field kind named, c)))
effect_leaves program words (instructions.Put field kind) g f w s tops named e c = puts_leave program field kind g f w s named e c
effect_leaves program words instructions.Length g f w s tops named e c =
    exchanged (λ g. Leaves program w.heap instructions.Length g (instruction_effect program words instructions.Length w)) w.heap (Text ∷ []) (Int ∷ []) f g w.operands e c (λ rest c.
    on_top _ w.heap Text rest w.operands c (λ v others h c. on_text _ v h (λ class slot.
    on refl (settles program f w s (Int ∷ rest) (int (length (program.characters class slot)) ∷ others) (refl, c)))))
effect_leaves program words instructions.CharAt g f w s tops named e c =
    exchanged (λ g. Leaves program w.heap instructions.CharAt g (instruction_effect program words instructions.CharAt w)) w.heap (Int ∷ Text ∷ []) (Int ∷ []) f g w.operands e c (λ rest c.
    on_int _ w.heap (Text ∷ rest) w.operands c (λ i below c. on_top _ w.heap Text rest below c (λ v others h c. on_text _ v h (λ class slot.
    character_leaves program f w rest others (slice_get (program.characters class slot) i) s c))))
effect_leaves program words (instructions.Call m) g f w s tops named e c =
    calls_leave program m (program.method m) g f w s refl e c
effect_leaves program words instructions.CallHost g f w s tops named e c = calls_host_leave program g f w s e c
effect_leaves program words instructions.FaultHost g f w s tops named e c = faults_leave program g f w s e c
effect_leaves program words (instructions.Return name) g f w s tops named e c = returned_leaves program name g f w s e c
effect_leaves program words (instructions.NewArray kind) g f w s tops named e c =
    exchanged (λ g. Leaves program w.heap (instructions.NewArray kind) g (instruction_effect program words (instructions.NewArray kind) w)) w.heap (Int ∷ []) (array_type kind ∷ []) f g w.operands e c (λ rest c.
    on_int _ w.heap rest w.operands c (λ size others c. allocates_leave program words kind size f w rest others s c))
effect_leaves program words instructions.ArrayLength g f w s tops named e c = measures_leave program g f w s e c
effect_leaves program words instructions.Wrong g f w s tops named e c = cc
