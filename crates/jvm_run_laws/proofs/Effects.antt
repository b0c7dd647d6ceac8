-- What an instruction does behind other arrays is what it does without them, further on.
use Rattle.std.proofs.Common.{◌≡◌, ℕ, ◌+◌, ◌%◌, ◌==◌, ◌^◌, nat_lt, ℤ, pos, int_lt, Bool, true, false, not, if◌then◌else◌, List, [], ◌∷◌, map, slice_get, Option, Some, None, option_map, refl, sym, ap, ◌∙◌, true≢false}
use Rattle.run_definition.specs.Words.{signed_of}
use Rattle.jvm_definition.specs.declared.array_name.ArrayName.{ArrayName}
use Rattle.jvm_definition.specs.declared.array_name.ArrayName.TheVariants.{Iaload, Aaload, Iastore, Aastore}
use Rattle.jvm_definition.specs.declared.branch_name.BranchName.{BranchName}
use Rattle.jvm_definition.specs.declared.branch_name.BranchName.TheVariants as branch
use Rattle.jvm_definition.specs.declared.conversion.Conversion.{Conversion}
use Rattle.jvm_definition.specs.declared.conversion.Conversion.TheVariants.{I2l, L2i, I2b, I2c, I2s}
use Rattle.jvm_definition.specs.declared.return_name.ReturnName.{ReturnName}
use Rattle.jvm_definition.specs.declared.return_name.ReturnName.TheVariants as returns
use Rattle.jvm_definition.specs.declared.array_kind.ArrayKind.{ArrayKind}
use Rattle.jvm_definition.specs.declared.kind.Kind.{Kind}
use Rattle.jvm_definition.specs.declared.linked_method.LinkedMethod.{LinkedMethod}
use Rattle.jvm_definition.specs.declared.instruction.Instruction.{Instruction}
use Rattle.jvm_definition.specs.declared.instruction.Instruction.TheVariants as instructions
use Rattle.jvm_definition.specs.Values as values
use Rattle.jvm_definition.specs.declared.value.Value.{Value}
use Rattle.jvm_definition.specs.declared.value.Value.TheVariants.{Int as int, Long as long, Null as null, Array as array, Text as text}
use Rattle.jvm_definition.specs.Values.{ints, pages, Heap, reference_value, is_ints, is_pages, is_long_value, new_array, with_new, with_int, with_page, array_length, conforms}
use Rattle.jvm_definition.specs.Program.{Program}
use Rattle.jvm_definition.specs.Shuffles.{forms_of, shuffled}
use Rattle.jvm_definition.specs.Effect as effects
use Rattle.jvm_definition.specs.Effect.{Workspace, InstructionEffect, goes_on, jumps, enters, gives, asks_host, faults, traps, wrong, instruction_effect, with_operands, workspace_with_heap, with_local, with_field, pushes, popping, as_int, as_long, popping_int, popping_ints, popping_long, popping_longs, as_array, as_ints, as_pages, as_element, as_text, as_nullness, as_table, arguments, character, pushes_length, moves_value, constant_value, last_first, index_trap, null_trap}
use Rattle.jvm_run_laws.specs.Relocation.{relocated_place, relocated_value, relocated_array, relocated_heap}
use Rattle.jvm_run_laws.proofs.Values.{same_moves, far_constant, far_reference, far_choice, far_shuffled}
use Rattle.jvm_run_laws.proofs.Heaps.{same_room, same_is_ints, same_is_pages, same_new, far_array, same_conforms, far_int, far_page, far_new}

module _ (below : Heap) where
  -- ---- further on

  abbrev pub far_value : Value → Value
  far_value v = relocated_value below.used v

  abbrev pub far_values : List Value → List Value
  far_values operands = map (relocated_value below.used) operands

  abbrev pub far_workspace : Workspace → Workspace
  far_workspace w = record {
    locals = λ i. relocated_value below.used (w.locals i);
    operands = map (relocated_value below.used) w.operands;
    fields = λ f. relocated_value below.used (w.fields f);
    heap = relocated_heap below w.heap;
  }

  abbrev pub far_effect : InstructionEffect → InstructionEffect
  far_effect (goes_on w) = goes_on (far_workspace w)
  far_effect (jumps n w) = jumps n (far_workspace w)
  far_effect (enters m given w) = enters m (map (relocated_value below.used) given) (far_workspace w)
  far_effect (gives v w) = gives (option_map (relocated_value below.used) v) (far_workspace w)
  far_effect (asks_host call readable writable w) =
      asks_host call (relocated_place below.used readable) (relocated_place below.used writable) (far_workspace w)
  far_effect (faults f) = faults f
  far_effect (traps k) = traps k
  far_effect wrong = wrong

  -- ---- how operands are taken

  tested : (b c : Bool) (x y far_x far_y : InstructionEffect) → b ≡ c → far_x ≡ far_effect x → far_y ≡ far_effect y → (if b then far_x else far_y) ≡ far_effect (if c then x else y)
  tested true true x y far_x far_y e h k = h
  tested true false x y far_x far_y e h k = absurd (true≢false e)
  tested false true x y far_x far_y e h k = absurd (true≢false (sym e))
  tested false false x y far_x far_y e h k = k

  pops : (operands : List Value) (on far : Value → List Value → InstructionEffect) → ((v : Value) (rest : List Value) → far (far_value v) (far_values rest) ≡ far_effect (on v rest)) → popping (far_values operands) far ≡ far_effect (popping operands on)
  pops [] on far h = refl
  pops (v ∷ rest) on far h = h v rest

  int-taken : (v : Value) (on far : ℕ → InstructionEffect) → ((n : ℕ) → far n ≡ far_effect (on n)) → as_int (far_value v) far ≡ far_effect (as_int v on)
  int-taken (int n) on far h = h n
  int-taken _ on far h = refl

  long-taken : (v : Value) (on far : ℕ → InstructionEffect) → ((n : ℕ) → far n ≡ far_effect (on n)) → as_long (far_value v) far ≡ far_effect (as_long v on)
  long-taken (long n) on far h = h n
  long-taken _ on far h = refl

  pops-int : (operands : List Value) (on far : ℕ → List Value → InstructionEffect) → ((n : ℕ) (rest : List Value) → far n (far_values rest) ≡ far_effect (on n rest)) → popping_int (far_values operands) far ≡ far_effect (popping_int operands on)
  pops-int operands on far h =
      pops operands (λ v rest. as_int v (λ n. on n rest)) (λ v rest. as_int v (λ n. far n rest))
      (λ v rest. int-taken v (λ n. on n rest) (λ n. far n (far_values rest)) (λ n. h n rest))

  pops-long : (operands : List Value) (on far : ℕ → List Value → InstructionEffect) → ((n : ℕ) (rest : List Value) → far n (far_values rest) ≡ far_effect (on n rest)) → popping_long (far_values operands) far ≡ far_effect (popping_long operands on)
  pops-long operands on far h =
      pops operands (λ v rest. as_long v (λ n. on n rest)) (λ v rest. as_long v (λ n. far n rest))
      (λ v rest. long-taken v (λ n. on n rest) (λ n. far n (far_values rest)) (λ n. h n rest))

  pops-ints : (operands : List Value) (on far : ℕ → ℕ → List Value → InstructionEffect) → ((a b : ℕ) (rest : List Value) → far a b (far_values rest) ≡ far_effect (on a b rest)) → popping_ints (far_values operands) far ≡ far_effect (popping_ints operands on)
  pops-ints operands on far h =
      pops-int operands (λ b rest. popping_int rest (λ a others. on a b others)) (λ b rest. popping_int rest (λ a others. far a b others))
      (λ b rest. pops-int rest (λ a others. on a b others) (λ a others. far a b others) (λ a others. h a b others))

  pops-longs : (operands : List Value) (on far : ℕ → ℕ → List Value → InstructionEffect) → ((a b : ℕ) (rest : List Value) → far a b (far_values rest) ≡ far_effect (on a b rest)) → popping_longs (far_values operands) far ≡ far_effect (popping_longs operands on)
  pops-longs operands on far h =
      pops-long operands (λ b rest. popping_long rest (λ a others. on a b others)) (λ b rest. popping_long rest (λ a others. far a b others))
      (λ b rest. pops-long rest (λ a others. on a b others) (λ a others. far a b others) (λ a others. h a b others))

  array-taken : (heap : Heap) (v : Value) (none far_none : InstructionEffect) (on far : ℕ → Option values.Array → InstructionEffect) → far_none ≡ far_effect none → ((p : ℕ) (a : Option values.Array) → far (below.used + p) (option_map (relocated_array below.used) a) ≡ far_effect (on p a)) → as_array (relocated_heap below heap) (far_value v) far_none far ≡ far_effect (as_array heap v none on)
  array-taken heap null none far_none on far h k = h
  array-taken heap (array p) none far_none on far h k = ap (far (below.used + p)) (far_array below heap p) ∙ k p (heap.array_at p)
  array-taken heap _ none far_none on far h k = refl

  ints-taken : (a : Option values.Array) (on far : ℕ → (ℕ → ℕ) → InstructionEffect) → ((size : ℕ) (words : ℕ → ℕ) → far size words ≡ far_effect (on size words)) → as_ints (option_map (relocated_array below.used) a) far ≡ far_effect (as_ints a on)
  ints-taken None on far h = refl
  ints-taken (Some (ints size words)) on far h = h size words
  ints-taken (Some (pages size places)) on far h = refl

  pages-taken : (a : Option values.Array) (on far : ℕ → (ℕ → Option ℕ) → InstructionEffect) → ((size : ℕ) (places : ℕ → Option ℕ) → far size (λ i. relocated_place below.used (places i)) ≡ far_effect (on size places)) → as_pages (option_map (relocated_array below.used) a) far ≡ far_effect (as_pages a on)
  pages-taken None on far h = refl
  pages-taken (Some (ints size words)) on far h = refl
  pages-taken (Some (pages size places)) on far h = h size places

  element-taken : (heap : Heap) (v : Value) (on far : Option ℕ → InstructionEffect) → ((p : Option ℕ) → far (relocated_place below.used p) ≡ far_effect (on p)) → as_element (relocated_heap below heap) (far_value v) far ≡ far_effect (as_element heap v on)
  element-taken heap null on far h = h None
  element-taken heap (array p) on far h =
      tested (is_ints ((relocated_heap below heap).array_at (below.used + p))) (is_ints (heap.array_at p)) (on (Some p)) wrong (far (Some (below.used + p))) wrong (ap is_ints (far_array below heap p) ∙ same_is_ints below.used (heap.array_at p)) (h (Some p)) refl
  element-taken heap _ on far h = refl

  table-taken : (heap : Heap) (v : Value) (on far : Option ℕ → InstructionEffect) → ((p : Option ℕ) → far (relocated_place below.used p) ≡ far_effect (on p)) → as_table (relocated_heap below heap) (far_value v) far ≡ far_effect (as_table heap v on)
  table-taken heap null on far h = h None
  table-taken heap (array p) on far h =
      tested (is_pages ((relocated_heap below heap).array_at (below.used + p))) (is_pages (heap.array_at p)) (on (Some p)) wrong (far (Some (below.used + p))) wrong (ap is_pages (far_array below heap p) ∙ same_is_pages below.used (heap.array_at p)) (h (Some p)) refl
  table-taken heap _ on far h = refl

  text-taken : (v : Value) (on far : ℕ → ℕ → InstructionEffect) → ((class slot : ℕ) → far class slot ≡ far_effect (on class slot)) → as_text (far_value v) far ≡ far_effect (as_text v on)
  text-taken null on far h = refl
  text-taken (text class slot) on far h = h class slot
  text-taken _ on far h = refl

  nullness-taken : (v : Value) (on far : Bool → InstructionEffect) → ((b : Bool) → far b ≡ far_effect (on b)) → as_nullness (far_value v) far ≡ far_effect (as_nullness v on)
  nullness-taken null on far h = h true
  nullness-taken (array p) on far h = h false
  nullness-taken (text class slot) on far h = h false
  nullness-taken _ on far h = refl

  arguments-taken : (heap : Heap) (kinds : List Kind) (operands taken : List Value) (on far : List Value → List Value → InstructionEffect) → ((given rest : List Value) → far (far_values given) (far_values rest) ≡ far_effect (on given rest)) → arguments (relocated_heap below heap) kinds (far_values operands) (far_values taken) far ≡ far_effect (arguments heap kinds operands taken on)
  arguments-taken heap [] operands taken on far h = h taken operands
  arguments-taken heap (k ∷ kinds) [] taken on far h = refl
  arguments-taken heap (k ∷ kinds) (v ∷ operands) taken on far h =
      tested (conforms (relocated_heap below heap) k (far_value v)) (conforms heap k v) (arguments heap kinds operands (v ∷ taken) on) wrong (arguments (relocated_heap below heap) kinds (far_values operands) (far_values (v ∷ taken)) far) wrong (same_conforms below heap k v) (arguments-taken heap kinds operands (v ∷ taken) on far h) refl

  -- ---- instructions

  module _ (w : Workspace) where
    within-does : (i size : ℕ) (x far : InstructionEffect) → far ≡ far_effect x → effects.within i size far ≡ far_effect (effects.within i size x)
    within-does i size x far h = tested (nat_lt i size) (nat_lt i size) x (traps index_trap) far (traps index_trap) refl h refl

    far_local : (i : ℕ) (v : Value) (operands : List Value) → with_local (far_workspace w) i (far_value v) (far_values operands) ≡ far_workspace (with_local w i v operands)
    far_local i v operands = λ x. record {
      locals = λ k. far_choice below.used (k == i) v (w.locals k) x;
      operands = far_values operands;
      fields = λ f. relocated_value below.used (w.fields f);
      heap = relocated_heap below w.heap;
    }

    far_field : (f : ℕ) (v : Value) (operands : List Value) → with_field (far_workspace w) f (far_value v) (far_values operands) ≡ far_workspace (with_field w f v operands)
    far_field f v operands = λ x. record {
      locals = λ i. relocated_value below.used (w.locals i);
      operands = far_values operands;
      fields = λ g. far_choice below.used (g == f) v (w.fields g) x;
      heap = relocated_heap below w.heap;
    }

    same_heap : (operands : List Value) (far : Heap) (heap : Heap) → far ≡ relocated_heap below heap → goes_on (workspace_with_heap (far_workspace w) (far_values operands) far) ≡ far_effect (goes_on (workspace_with_heap w operands heap))
    same_heap operands far heap h = ap (λ (u : Heap). goes_on (workspace_with_heap (far_workspace w) (far_values operands) u)) h

    accesses-do : (name : ArrayName) → effects.accesses name (far_workspace w) ≡ far_effect (effects.accesses name w)
    accesses-do Iaload =
        pops-int w.operands _ _ (λ i rest. pops rest _ _ (λ v others. array-taken w.heap v _ _ _ _ refl (λ p a. ints-taken a _ _ (λ size words. within-does i size _ _ refl))))
    accesses-do Aaload =
        pops-int w.operands _ _ (λ i rest. pops rest _ _ (λ v others. array-taken w.heap v _ _ _ _ refl (λ p a. pages-taken a _ _ (λ size places. within-does i size _ _ (ap (λ u. pushes (far_workspace w) u (far_values others)) (far_reference below.used (places i)))))))
    accesses-do Iastore =
        pops-ints w.operands _ _ (λ i n rest. pops rest _ _ (λ v others. array-taken w.heap v _ _ _ _ refl (λ p a. ints-taken a _ _ (λ size words. within-does i size _ _ (same_heap others _ (with_int w.heap p i n) (far_int below w.heap p i n))))))
    accesses-do Aastore =
        pops w.operands _ _ (λ u rest. element-taken w.heap u _ _ (λ element. pops-int rest _ _ (λ i under. pops under _ _ (λ v others. array-taken w.heap v _ _ _ _ refl (λ p a. pages-taken a _ _ (λ size places. within-does i size _ _ (same_heap others _ (with_page w.heap p i element) (far_page below w.heap p i element))))))))

    chooses-does : (taken : Bool) (rest : List Value) → effects.chooses taken (far_workspace w) (far_values rest) ≡ far_effect (effects.chooses taken w rest)
    chooses-does taken rest = tested taken taken (jumps 0 (with_operands w rest)) (goes_on (with_operands w rest)) (jumps 0 (with_operands (far_workspace w) (far_values rest))) (goes_on (with_operands (far_workspace w) (far_values rest))) refl refl refl

    tests-do : (test : ℤ → Bool) → effects.tests test (far_workspace w) ≡ far_effect (effects.tests test w)
    tests-do test = pops-int w.operands _ _ (λ n rest. chooses-does (test (signed_of n)) rest)

    compares-do : (test : ℤ → ℤ → Bool) → effects.compares test (far_workspace w) ≡ far_effect (effects.compares test w)
    compares-do test = pops-ints w.operands _ _ (λ a b rest. chooses-does (test (signed_of a) (signed_of b)) rest)

    null-tests-do : (test : Bool → Bool) → effects.tests_null test (far_workspace w) ≡ far_effect (effects.tests_null test w)
    null-tests-do test = pops w.operands _ _ (λ v rest. nullness-taken v _ _ (λ is_null. chooses-does (test is_null) rest))

    branches-do : (name : BranchName) → effects.branches name (far_workspace w) ≡ far_effect (effects.branches name w)
    branches-do branch.Ifeq = tests-do (λ n. effects.same_integer n (pos 0))
    branches-do branch.Ifne = tests-do (λ n. not (effects.same_integer n (pos 0)))
    branches-do branch.Iflt = tests-do (λ n. int_lt n (pos 0))
    branches-do branch.Ifge = tests-do (λ n. not (int_lt n (pos 0)))
    branches-do branch.Ifgt = tests-do (λ n. int_lt (pos 0) n)
    branches-do branch.Ifle = tests-do (λ n. not (int_lt (pos 0) n))
    branches-do branch.IfIcmpeq = compares-do effects.same_integer
    branches-do branch.IfIcmpne = compares-do (λ a b. not (effects.same_integer a b))
    branches-do branch.IfIcmplt = compares-do int_lt
    branches-do branch.IfIcmpge = compares-do (λ a b. not (int_lt a b))
    branches-do branch.IfIcmpgt = compares-do (λ a b. int_lt b a)
    branches-do branch.IfIcmple = compares-do (λ a b. not (int_lt b a))
    branches-do branch.Goto = refl
    branches-do branch.Ifnull = null-tests-do (λ is_null. is_null)
    branches-do branch.Ifnonnull = null-tests-do not

    converts-do : (name : Conversion) → effects.converts name (far_workspace w) ≡ far_effect (effects.converts name w)
    converts-do I2l = pops-int w.operands _ _ (λ n rest. refl)
    converts-do L2i = pops-long w.operands _ _ (λ n rest. refl)
    converts-do I2b = pops-int w.operands _ _ (λ n rest. refl)
    converts-do I2c = pops-int w.operands _ _ (λ n rest. refl)
    converts-do I2s = pops-int w.operands _ _ (λ n rest. refl)

    divides-does : (b : ℕ) (v : Value) (rest : List Value) → effects.divides b (far_value v) (far_values rest) (far_workspace w) ≡ far_effect (effects.divides b v rest w)
    divides-does b v rest = tested (b == 0) (b == 0) (traps effects.divisor_trap) (pushes w v rest) (traps effects.divisor_trap) (pushes (far_workspace w) (far_value v) (far_values rest)) refl refl refl

    moved-does : (operands : Option (List Value)) → effects.moved (far_workspace w) (option_map (map (relocated_value below.used)) operands) ≡ far_effect (effects.moved w operands)
    moved-does None = refl
    moved-does (Some operands) = refl

    character-does : (rest : List Value) (c : Option ℕ) → character (far_workspace w) (far_values rest) c ≡ far_effect (character w rest c)
    character-does rest None = refl
    character-does rest (Some c) = refl

    far_length : (a : values.Array) → array_length (relocated_array below.used a) ≡ array_length a
    far_length (ints size words) = refl
    far_length (pages size places) = refl

    length-does : (rest : List Value) (a : Option values.Array) → pushes_length (far_workspace w) (far_values rest) (option_map (relocated_array below.used) a) ≡ far_effect (pushes_length w rest a)
    length-does rest None = refl
    length-does rest (Some a) = ap (λ n. pushes (far_workspace w) (int n) (far_values rest)) (far_length a)

    calls-do : (m : ℕ) (method : Option LinkedMethod) → effects.calls m method (far_workspace w) ≡ far_effect (effects.calls m method w)
    calls-do m None = refl
    calls-do m (Some method) =
        arguments-taken w.heap (last_first method.parameters []) w.operands [] _ _ (λ given rest. refl)

    host-called : effects.calls_host (far_workspace w) ≡ far_effect (effects.calls_host w)
    host-called =
        pops-ints w.operands _ _ (λ a2 a3 rest3. pops-ints rest3 _ _ (λ a0 a1 rest2. pops-int rest2 _ _ (λ number rest1.
        pops rest1 _ _ (λ writable rest0. table-taken w.heap writable _ _ (λ second. pops rest0 _ _ (λ readable rest. table-taken w.heap readable _ _ (λ first. refl)))))))

    host-faulted : effects.faults_host (far_workspace w) ≡ far_effect (effects.faults_host w)
    host-faulted = pops-ints w.operands _ _ (λ pc value rest. pops-int rest _ _ (λ kind under. refl))

    returned-does : (name : ReturnName) → effects.returned name (far_workspace w) ≡ far_effect (effects.returned name w)
    returned-does returns.Ireturn = pops-int w.operands _ _ (λ n rest. refl)
    returned-does returns.Return = refl

    loads-does : (kind : _) (i : ℕ) → effects.load_effect_of kind i (far_workspace w) ≡ far_effect (effects.load_effect_of kind i w)
    loads-does kind i = tested _ _ _ _ _ _ (same_moves below.used kind (w.locals i)) refl refl

    stores-does : (kind : _) (i : ℕ) → effects.stores kind i (far_workspace w) ≡ far_effect (effects.stores kind i w)
    stores-does kind i = pops w.operands _ _ (λ v rest. tested _ _ _ _ _ _ (same_moves below.used kind v) (ap goes_on (far_local i v rest)) refl)

    puts-does : (f : ℕ) (kind : Kind) → effects.puts f kind (far_workspace w) ≡ far_effect (effects.puts f kind w)
    puts-does f kind = pops w.operands _ _ (λ v rest. tested _ _ _ _ _ _ (same_conforms below w.heap kind v) (ap goes_on (far_field f v rest)) refl)

    allocates-does : (words : ℕ) (kind : ArrayKind) (size : ℕ) (rest : List Value) → effects.allocates (below.used + words) kind size (far_values rest) (far_workspace w) ≡ far_effect (effects.allocates words kind size rest w)
    allocates-does words kind size rest =
        tested _ _ _ _ _ _ refl refl
        (tested _ _ _ _ _ _ (same_room below.used words w.heap.used size) refl
        (same_heap (array w.heap.used ∷ rest) _ (with_new w.heap (new_array kind size)) (far_new below w.heap (new_array kind size) (same_new below.used kind size))))

  -- ---- each instruction

  pub effect-far : (program : Program) (words : ℕ) (instruction : Instruction) (w : Workspace) → instruction_effect program (below.used + words) instruction (far_workspace w) ≡ far_effect (instruction_effect program words instruction w)
  effect-far program words instructions.Nop w = refl
  effect-far program words (instructions.Push constant) w = ap (λ v. pushes (far_workspace w) v (far_values w.operands)) (far_constant below.used constant)
  effect-far program words (instructions.Load kind i) w = loads-does w kind i
  effect-far program words (instructions.Store kind i) w = stores-does w kind i
  effect-far program words (instructions.Array name) w = accesses-do w name
  effect-far program words (instructions.Stack name) w =
      ap (effects.moved (far_workspace w)) (far_shuffled below.used (forms_of name) w.operands) ∙ moved-does w (shuffled is_long_value (forms_of name) w.operands)
  effect-far program words (instructions.IntArithmetic name) w = pops-ints w.operands _ _ (λ a b rest. refl)
  effect-far program words (instructions.IntDivision name) w = pops-ints w.operands _ _ (λ a b rest. divides-does w b _ rest)
  effect-far program words (instructions.IntShift name) w = pops-ints w.operands _ _ (λ a n rest. refl)
  effect-far program words (instructions.LongArithmetic name) w = pops-longs w.operands _ _ (λ a b rest. refl)
  effect-far program words (instructions.LongDivision name) w = pops-longs w.operands _ _ (λ a b rest. divides-does w b _ rest)
  effect-far program words (instructions.LongShift name) w =
      pops-int w.operands _ _ (λ n rest. pops-long rest _ _ (λ a others. refl))
  effect-far program words (instructions.Increment i by) w =
      int-taken (w.locals i) _ _ (λ n. ap goes_on (far_local w i (int ((n + by) % 2 ^ 32)) w.operands))
  effect-far program words (instructions.Convert name) w = converts-do w name
  effect-far program words instructions.LongCompare w = pops-longs w.operands _ _ (λ a b rest. refl)
  effect-far program words (instructions.Branch name target) w = branches-do w name
  effect-far program words (instructions.TableSwitch s) w = pops-int w.operands _ _ (λ n rest. refl)
  effect-far program words (instructions.LookupSwitch s) w = pops-int w.operands _ _ (λ n rest. refl)
  effect-far program words (instructions.Get f kind) w = refl
  effect-far program words (instructions.Put f kind) w = puts-does w f kind
  effect-far program words instructions.Length w =
      pops w.operands _ _ (λ v rest. text-taken v _ _ (λ class slot. refl))
  effect-far program words instructions.CharAt w =
      pops-int w.operands _ _ (λ i rest. pops rest _ _ (λ v others. text-taken v _ _ (λ class slot. character-does w others (slice_get (program.characters class slot) i))))
  effect-far program words (instructions.Call m) w = calls-do w m (program.method m)
  effect-far program words instructions.CallHost w = host-called w
  effect-far program words instructions.FaultHost w = host-faulted w
  effect-far program words (instructions.Return name) w = returned-does w name
  effect-far program words (instructions.NewArray kind) w = pops-int w.operands _ _ (λ size rest. allocates-does w words kind size rest)
  effect-far program words instructions.ArrayLength w =
      pops w.operands _ _ (λ v rest. array-taken w.heap v _ _ _ _ refl (λ p a. length-does w rest a))
  effect-far program words instructions.Wrong w = refl
