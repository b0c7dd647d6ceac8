-- The texts among the values of a run are those that instructions push.
use Rattle.std.proofs.Common.{◌≡◌, ℕ, zero, suc, ◌+◌, ◌^◌, Bool, true, false, List, [], ◌∷◌, ◌++◌, length, drop, refl, Option, Some, None}
use Rattle.std.specs.Prelude.{ℤ, pos, int_lt, not, if◌then◌else◌, slice_get, nat_lt, nat_le, nat_eq}
use Rattle.jvm_definition.specs.declared.array_name.ArrayName.TheVariants.{Iaload, Aaload, Iastore, Aastore}
use Rattle.jvm_definition.specs.declared.branch_name.BranchName.{BranchName}
use Rattle.jvm_definition.specs.declared.branch_name.BranchName.TheVariants.{Ifeq, Ifne, Iflt, Ifge, Ifgt, Ifle, IfIcmpeq, IfIcmpne, IfIcmplt, IfIcmpge, IfIcmpgt, IfIcmple, Goto, Ifnull, Ifnonnull}
use Rattle.jvm_definition.specs.declared.conversion.Conversion.TheVariants.{I2l, L2i, I2b, I2c, I2s}
use Rattle.jvm_definition.specs.declared.return_name.ReturnName.TheVariants as returns
use Rattle.run_definition.specs.Words.{signed_of}
use Rattle.jvm_definition.specs.declared.constant.Constant.{Constant}
use Rattle.jvm_definition.specs.declared.constant.Constant.TheVariants as constants
use Rattle.jvm_definition.specs.declared.kind.Kind.{Kind}
use Rattle.jvm_definition.specs.declared.instruction.Instruction.{Instruction}
use Rattle.jvm_definition.specs.declared.instruction.Instruction.TheVariants as instructions
use Rattle.jvm_definition.specs.declared.linked_method.LinkedMethod.{LinkedMethod}
use Rattle.jvm_definition.specs.Values as heap
use Rattle.jvm_definition.specs.Values.{Heap, conforms, is_long_value, is_ints, is_pages, ints, pages, reference_value, array_length}
use Rattle.jvm_definition.specs.declared.value.Value.{Value}
use Rattle.jvm_definition.specs.declared.value.Value.TheVariants as values
use Rattle.jvm_definition.specs.Shuffles.{Shuffle, fits_longs, picked, item_before, shuffled, forms_of}
use Rattle.jvm_definition.specs.Program.{Program}
use Rattle.jvm_definition.specs.Effect.{Workspace, InstructionEffect, goes_on, jumps, enters, gives, asks_host, faults, traps, wrong, popping, as_int, as_long, popping_int, popping_long, popping_ints, popping_longs, as_array, as_ints, as_pages, as_element, as_table, as_text, as_nullness, constant_value, moves_value, pushes, with_operands, workspace_with_heap, with_local, with_field, pushes_length, character, chooses, compares, tests, tests_null, branches, arguments, last_first, calls, moved, same_integer, instruction_effect}
use Rattle.stackmap_laws.specs.Alike.{PushesGood}

module _ (good : ℕ → ℕ → Bool) where
  abbrev pub is_good : Value → Bool
  is_good values.Unset = true
  is_good (values.Int n) = true
  is_good (values.Long n) = true
  is_good values.Null = true
  is_good (values.Array p) = true
  is_good (values.Text class slot) = good class slot

  abbrev pub AllGood : List Value → Type 0
  AllGood [] = Unit {0}
  AllGood (v ∷ vs) = (is_good v ≡ true) × AllGood vs

  pub record IsGoodSpace (w : Workspace) : Type 0 where
    pub locals : (i : ℕ) → is_good (w.locals i) ≡ true
    pub operands : AllGood w.operands
    pub fields : (f : ℕ) → is_good (w.fields f) ≡ true

  abbrev pub IsGoodResult : Option Value → Type 0
  IsGoodResult None = Unit {0}
  IsGoodResult (Some v) = is_good v ≡ true

  abbrev pub IsGoodEffect : InstructionEffect → Type 0
  IsGoodEffect (goes_on w) = IsGoodSpace w
  IsGoodEffect (jumps k w) = IsGoodSpace w
  IsGoodEffect (enters m given w) = AllGood given × IsGoodSpace w
  IsGoodEffect (gives v w) = IsGoodResult v × IsGoodSpace w
  IsGoodEffect (asks_host c r s w) = IsGoodSpace w
  IsGoodEffect (faults f) = Unit {0}
  IsGoodEffect (traps k) = Unit {0}
  IsGoodEffect wrong = Unit {0}

  -- ---- spaces

  operands-good : (w : Workspace) (rest : List Value) → IsGoodSpace w → AllGood rest → IsGoodSpace (with_operands w rest)
  operands-good w rest g r = record { locals = g.locals; operands = r; fields = g.fields }

  heap-good : (w : Workspace) (rest : List Value) (h : Heap) → IsGoodSpace w → AllGood rest → IsGoodSpace (workspace_with_heap w rest h)
  heap-good w rest h g r = record { locals = g.locals; operands = r; fields = g.fields }

  either-good : (b : Bool) (v u : Value) → is_good v ≡ true → is_good u ≡ true → is_good (if b then v else u) ≡ true
  either-good true v u g h = g
  either-good false v u g h = h

  local-good : (w : Workspace) (i : ℕ) (v : Value) (rest : List Value) → IsGoodSpace w → is_good v ≡ true → AllGood rest → IsGoodSpace (with_local w i v rest)
  local-good w i v rest g h r = record { locals = λ k. either-good (nat_eq k i) v (w.locals k) h (g.locals k); operands = r; fields = g.fields }

  field-good : (w : Workspace) (f : ℕ) (v : Value) (rest : List Value) → IsGoodSpace w → is_good v ≡ true → AllGood rest → IsGoodSpace (with_field w f v rest)
  field-good w f v rest g h r = record { locals = g.locals; operands = r; fields = λ k. either-good (nat_eq k f) v (w.fields k) h (g.fields k) }

  if-good : (b : Bool) (e f : InstructionEffect) → IsGoodEffect e → IsGoodEffect f → IsGoodEffect (if b then e else f)
  if-good true e f g h = g
  if-good false e f g h = h

  reference-good : (o : Option ℕ) → is_good (reference_value o) ≡ true
  reference-good None = refl
  reference-good (Some p) = refl

  -- ---- operands

  popping-good : (operands : List Value) (f : Value → List Value → InstructionEffect) → AllGood operands → ((v : Value) (rest : List Value) → is_good v ≡ true → AllGood rest → IsGoodEffect (f v rest)) → IsGoodEffect (popping operands f)
  popping-good [] f g h = tt
  popping-good (v ∷ rest) f g h = h v rest g.0 g.1

  as_int-good : (v : Value) (f : ℕ → InstructionEffect) → ((n : ℕ) → IsGoodEffect (f n)) → IsGoodEffect (as_int v f)
  as_int-good values.Unset f h = tt
  as_int-good (values.Int n) f h = h n
  as_int-good (values.Long n) f h = tt
  as_int-good values.Null f h = tt
  as_int-good (values.Array p) f h = tt
  as_int-good (values.Text c s) f h = tt

  as_long-good : (v : Value) (f : ℕ → InstructionEffect) → ((n : ℕ) → IsGoodEffect (f n)) → IsGoodEffect (as_long v f)
  as_long-good values.Unset f h = tt
  as_long-good (values.Int n) f h = tt
  as_long-good (values.Long n) f h = h n
  as_long-good values.Null f h = tt
  as_long-good (values.Array p) f h = tt
  as_long-good (values.Text c s) f h = tt

  int-good : (operands : List Value) (f : ℕ → List Value → InstructionEffect) → AllGood operands → ((n : ℕ) (rest : List Value) → AllGood rest → IsGoodEffect (f n rest)) → IsGoodEffect (popping_int operands f)
  int-good operands f g h = popping-good operands (λ v rest. as_int v (λ n. f n rest)) g (λ v rest a b. as_int-good v (λ n. f n rest) (λ n. h n rest b))

  long-good : (operands : List Value) (f : ℕ → List Value → InstructionEffect) → AllGood operands → ((n : ℕ) (rest : List Value) → AllGood rest → IsGoodEffect (f n rest)) → IsGoodEffect (popping_long operands f)
  long-good operands f g h = popping-good operands (λ v rest. as_long v (λ n. f n rest)) g (λ v rest a b. as_long-good v (λ n. f n rest) (λ n. h n rest b))

  ints-good : (operands : List Value) (f : ℕ → ℕ → List Value → InstructionEffect) → AllGood operands → ((a b : ℕ) (rest : List Value) → AllGood rest → IsGoodEffect (f a b rest)) → IsGoodEffect (popping_ints operands f)
  ints-good operands f g h = int-good operands (λ b rest. popping_int rest (λ a others. f a b others)) g (λ b rest r. int-good rest (λ a others. f a b others) r (λ a others q. h a b others q))

  longs-good : (operands : List Value) (f : ℕ → ℕ → List Value → InstructionEffect) → AllGood operands → ((a b : ℕ) (rest : List Value) → AllGood rest → IsGoodEffect (f a b rest)) → IsGoodEffect (popping_longs operands f)
  longs-good operands f g h = long-good operands (λ b rest. popping_long rest (λ a others. f a b others)) g (λ b rest r. long-good rest (λ a others. f a b others) r (λ a others q. h a b others q))

  array-good : (h : Heap) (v : Value) (on_null : InstructionEffect) (f : ℕ → Option heap.Array → InstructionEffect) → IsGoodEffect on_null → ((p : ℕ) (a : Option heap.Array) → IsGoodEffect (f p a)) → IsGoodEffect (as_array h v on_null f)
  array-good h values.Unset on_null f g k = tt
  array-good h (values.Int n) on_null f g k = tt
  array-good h (values.Long n) on_null f g k = tt
  array-good h values.Null on_null f g k = g
  array-good h (values.Array p) on_null f g k = k p (h.array_at p)
  array-good h (values.Text c s) on_null f g k = tt

  as_ints-good : (a : Option heap.Array) (f : ℕ → (ℕ → ℕ) → InstructionEffect) → ((size : ℕ) (words : ℕ → ℕ) → IsGoodEffect (f size words)) → IsGoodEffect (as_ints a f)
  as_ints-good None f h = tt
  as_ints-good (Some (ints size words)) f h = h size words
  as_ints-good (Some (pages size places)) f h = tt

  as_pages-good : (a : Option heap.Array) (f : ℕ → (ℕ → Option ℕ) → InstructionEffect) → ((size : ℕ) (places : ℕ → Option ℕ) → IsGoodEffect (f size places)) → IsGoodEffect (as_pages a f)
  as_pages-good None f h = tt
  as_pages-good (Some (ints size words)) f h = tt
  as_pages-good (Some (pages size places)) f h = h size places

  element-good : (h : Heap) (v : Value) (f : Option ℕ → InstructionEffect) → ((o : Option ℕ) → IsGoodEffect (f o)) → IsGoodEffect (as_element h v f)
  element-good h values.Unset f k = tt
  element-good h (values.Int n) f k = tt
  element-good h (values.Long n) f k = tt
  element-good h values.Null f k = k None
  element-good h (values.Array p) f k = if-good (is_ints (h.array_at p)) (f (Some p)) wrong (k (Some p)) tt
  element-good h (values.Text c s) f k = tt

  table-good : (h : Heap) (v : Value) (f : Option ℕ → InstructionEffect) → ((o : Option ℕ) → IsGoodEffect (f o)) → IsGoodEffect (as_table h v f)
  table-good h values.Unset f k = tt
  table-good h (values.Int n) f k = tt
  table-good h (values.Long n) f k = tt
  table-good h values.Null f k = k None
  table-good h (values.Array p) f k = if-good (is_pages (h.array_at p)) (f (Some p)) wrong (k (Some p)) tt
  table-good h (values.Text c s) f k = tt

  text-good : (v : Value) (f : ℕ → ℕ → InstructionEffect) → ((c s : ℕ) → IsGoodEffect (f c s)) → IsGoodEffect (as_text v f)
  text-good values.Unset f k = tt
  text-good (values.Int n) f k = tt
  text-good (values.Long n) f k = tt
  text-good values.Null f k = tt
  text-good (values.Array p) f k = tt
  text-good (values.Text c s) f k = k c s

  nullness-good : (v : Value) (f : Bool → InstructionEffect) → ((b : Bool) → IsGoodEffect (f b)) → IsGoodEffect (as_nullness v f)
  nullness-good values.Unset f k = tt
  nullness-good (values.Int n) f k = tt
  nullness-good (values.Long n) f k = tt
  nullness-good values.Null f k = k true
  nullness-good (values.Array p) f k = k false
  nullness-good (values.Text c s) f k = k false

  -- ---- shuffles

  drop-good : (n : ℕ) (vs : List Value) → AllGood vs → AllGood (drop n vs)
  drop-good zero vs g = g
  drop-good (suc n) [] g = tt
  drop-good (suc n) (v ∷ vs) g = drop-good n vs g.1

  append-good : (us vs : List Value) → AllGood us → AllGood vs → AllGood (us ++ vs)
  append-good [] vs g h = h
  append-good (u ∷ us) vs g h = (g.0, append-good us vs g.1 h)

  item-good : (k : ℕ) (vs us : List Value) → AllGood vs → AllGood us → AllGood (item_before (slice_get vs k) us)
  item-good k [] us g h = h
  item-good zero (v ∷ vs) us g h = (g.0, h)
  item-good (suc k) (v ∷ vs) us g h = item-good k vs us g.1 h

  picked-good : (ks : List ℕ) (vs : List Value) → AllGood vs → AllGood (picked ks vs)
  picked-good [] vs g = tt
  picked-good (k ∷ ks) vs g = item-good k vs (picked ks vs) g (picked-good ks vs g)

  moved-step : (b : Bool) (w : Workspace) (one : List Value) (o : Option (List Value)) → IsGoodEffect (moved w (Some one)) → IsGoodEffect (moved w o) → IsGoodEffect (moved w (if b then Some one else o))
  moved-step true w one o g h = g
  moved-step false w one o g h = h

  moved-good : (w : Workspace) (forms : List Shuffle) (vs : List Value) → IsGoodSpace w → AllGood vs → IsGoodEffect (moved w (shuffled is_long_value forms vs))
  moved-good w [] vs g h = tt
  moved-good w (form ∷ forms) vs g h =
      let one = picked form.given vs ++ drop (length form.longs) vs in
      moved-step (fits_longs is_long_value form.longs vs) w one (shuffled is_long_value forms vs)
      (operands-good w one g (append-good (picked form.given vs) (drop (length form.longs) vs) (picked-good form.given vs h) (drop-good (length form.longs) vs h)))
      (moved-good w forms vs g h)

  -- ---- calls

  arguments-good : (h : Heap) (kinds : List Kind) (operands given : List Value) (f : List Value → List Value → InstructionEffect) → AllGood operands → AllGood given → ((passed rest : List Value) → AllGood passed → AllGood rest → IsGoodEffect (f passed rest)) → IsGoodEffect (arguments h kinds operands given f)
  arguments-good h [] operands given f g t k = k given operands t g
  arguments-good h (kind ∷ kinds) [] given f g t k = tt
  arguments-good h (kind ∷ kinds) (v ∷ operands) given f g t k =
      if-good (conforms h kind v) (arguments h kinds operands (v ∷ given) f) wrong (arguments-good h kinds operands (v ∷ given) f g.1 (g.0, t) k) tt

  calls-good : (m : ℕ) (o : Option LinkedMethod) (w : Workspace) → IsGoodSpace w → IsGoodEffect (calls m o w)
  calls-good m None w g = tt
  calls-good m (Some method) w g =
      arguments-good w.heap (last_first method.parameters []) w.operands [] (λ given rest. enters m given (with_operands w rest)) g.operands tt
      (λ given rest a r. (a, operands-good w rest g r))

  chooses-good : (b : Bool) (w : Workspace) (rest : List Value) → IsGoodSpace w → AllGood rest → IsGoodEffect (chooses b w rest)
  chooses-good true w rest g r = operands-good w rest g r
  chooses-good false w rest g r = operands-good w rest g r

  character-good : (w : Workspace) (rest : List Value) (o : Option ℕ) → IsGoodSpace w → AllGood rest → IsGoodEffect (character w rest o)
  character-good w rest None g r = tt
  character-good w rest (Some c) g r = operands-good w (values.Int c ∷ rest) g (refl, r)

  length-good : (w : Workspace) (rest : List Value) (o : Option heap.Array) → IsGoodSpace w → AllGood rest → IsGoodEffect (pushes_length w rest o)
  length-good w rest None g r = tt
  length-good w rest (Some a) g r = operands-good w (values.Int (array_length a) ∷ rest) g (refl, r)

  constant-good : (c : Constant) → PushesGood good (instructions.Push c) → is_good (constant_value c) ≡ true
  constant-good constants.Null h = refl
  constant-good (constants.Int n) h = refl
  constant-good (constants.Long n) h = refl
  constant-good (constants.Text class slot) h = h

  tests-good : (test : ℤ → Bool) (w : Workspace) → IsGoodSpace w → IsGoodEffect (tests test w)
  tests-good test w g = int-good w.operands (λ n rest. chooses (test (signed_of n)) w rest) g.operands (λ n rest r. chooses-good (test (signed_of n)) w rest g r)

  compares-good : (test : ℤ → ℤ → Bool) (w : Workspace) → IsGoodSpace w → IsGoodEffect (compares test w)
  compares-good test w g = ints-good w.operands (λ a b rest. chooses (test (signed_of a) (signed_of b)) w rest) g.operands (λ a b rest r. chooses-good (test (signed_of a) (signed_of b)) w rest g r)

  null-good : (test : Bool → Bool) (w : Workspace) → IsGoodSpace w → IsGoodEffect (tests_null test w)
  null-good test w g = popping-good w.operands (λ v rest. as_nullness v (λ is_null. chooses (test is_null) w rest)) g.operands (λ v rest a r. nullness-good v (λ is_null. chooses (test is_null) w rest) (λ b. chooses-good (test b) w rest g r))

  branches-good : (name : BranchName) (w : Workspace) → IsGoodSpace w → IsGoodEffect (branches name w)
  branches-good Ifeq w g = tests-good (λ n. same_integer n (pos 0)) w g
  branches-good Ifne w g = tests-good (λ n. not (same_integer n (pos 0))) w g
  branches-good Iflt w g = tests-good (λ n. int_lt n (pos 0)) w g
  branches-good Ifge w g = tests-good (λ n. not (int_lt n (pos 0))) w g
  branches-good Ifgt w g = tests-good (λ n. int_lt (pos 0) n) w g
  branches-good Ifle w g = tests-good (λ n. not (int_lt (pos 0) n)) w g
  branches-good IfIcmpeq w g = compares-good (same_integer) w g
  branches-good IfIcmpne w g = compares-good (λ a b. not (same_integer a b)) w g
  branches-good IfIcmplt w g = compares-good (int_lt) w g
  branches-good IfIcmpge w g = compares-good (λ a b. not (int_lt a b)) w g
  branches-good IfIcmpgt w g = compares-good (λ a b. int_lt b a) w g
  branches-good IfIcmple w g = compares-good (λ a b. not (int_lt b a)) w g
  branches-good Goto w g = g
  branches-good Ifnull w g = null-good (λ is_null. is_null) w g
  branches-good Ifnonnull w g = null-good (not) w g

  -- ---- instructions

  pub effect-good : (p : Program) (words : ℕ) (i : Instruction) (w : Workspace) → PushesGood good i → IsGoodSpace w → IsGoodEffect (instruction_effect p words i w)
  effect-good p words instructions.Nop w h g = g
  effect-good p words (instructions.Push c) w h g = operands-good w (constant_value c ∷ w.operands) g (constant-good c h, g.operands)
  effect-good p words (instructions.Load kind i) w h g =
      if-good (moves_value kind (w.locals i)) (pushes w (w.locals i) w.operands) wrong (operands-good w (w.locals i ∷ w.operands) g (g.locals i, g.operands)) tt
  effect-good p words (instructions.Store kind i) w h g =
      popping-good w.operands (λ v rest. if moves_value kind v then goes_on (with_local w i v rest) else wrong) g.operands
      (λ v rest a r. if-good (moves_value kind v) (goes_on (with_local w i v rest)) wrong (local-good w i v rest g a r) tt)
  effect-good p words (instructions.Array Iaload) w h g =
      int-good w.operands _ g.operands (λ i rest r. popping-good rest _ r (λ v others a q. array-good w.heap v _ _ tt (λ p' a'.
      as_ints-good a' _ (λ size ws. if-good (nat_lt i size) _ _ (operands-good w (values.Int (ws i) ∷ others) g (refl, q)) tt))))
  effect-good p words (instructions.Array Aaload) w h g =
      int-good w.operands _ g.operands (λ i rest r. popping-good rest _ r (λ v others a q. array-good w.heap v _ _ tt (λ p' a'.
      as_pages-good a' _ (λ size places. if-good (nat_lt i size) _ _ (operands-good w (reference_value (places i) ∷ others) g (reference-good (places i), q)) tt))))
  effect-good p words (instructions.Array Iastore) w h g =
      ints-good w.operands _ g.operands (λ i n rest r. popping-good rest _ r (λ v others a q. array-good w.heap v _ _ tt (λ p' a'.
      as_ints-good a' _ (λ size ws. if-good (nat_lt i size) _ _ (heap-good w others _ g q) tt))))
  effect-good p words (instructions.Array Aastore) w h g =
      popping-good w.operands _ g.operands (λ u rest a r. element-good w.heap u _ (λ o. int-good rest _ r (λ i below q. popping-good below _ q (λ v others b t.
      array-good w.heap v _ _ tt (λ p' a'. as_pages-good a' _ (λ size places. if-good (nat_lt i size) _ _ (heap-good w others _ g t) tt))))))
  effect-good p words (instructions.Stack name) w h g = moved-good w (forms_of name) w.operands g g.operands
  effect-good p words (instructions.IntArithmetic name) w h g = ints-good w.operands _ g.operands (λ a b rest r. operands-good w _ g (refl, r))
  effect-good p words (instructions.IntDivision name) w h g = ints-good w.operands _ g.operands (λ a b rest r. if-good (nat_eq b 0) _ _ tt (operands-good w _ g (refl, r)))
  effect-good p words (instructions.IntShift name) w h g = ints-good w.operands _ g.operands (λ a b rest r. operands-good w _ g (refl, r))
  effect-good p words (instructions.LongArithmetic name) w h g = longs-good w.operands _ g.operands (λ a b rest r. operands-good w _ g (refl, r))
  effect-good p words (instructions.LongDivision name) w h g = longs-good w.operands _ g.operands (λ a b rest r. if-good (nat_eq b 0) _ _ tt (operands-good w _ g (refl, r)))
  effect-good p words (instructions.LongShift name) w h g = int-good w.operands _ g.operands (λ n rest r. long-good rest _ r (λ a others q. operands-good w _ g (refl, q)))
  effect-good p words (instructions.Increment i by) w h g = as_int-good (w.locals i) _ (λ n. local-good w i _ w.operands g refl g.operands)
  effect-good p words (instructions.Convert I2l) w h g = int-good w.operands _ g.operands (λ n rest r. operands-good w _ g (refl, r))
  effect-good p words (instructions.Convert L2i) w h g = long-good w.operands _ g.operands (λ n rest r. operands-good w _ g (refl, r))
  effect-good p words (instructions.Convert I2b) w h g = int-good w.operands _ g.operands (λ n rest r. operands-good w _ g (refl, r))
  effect-good p words (instructions.Convert I2c) w h g = int-good w.operands _ g.operands (λ n rest r. operands-good w _ g (refl, r))
  effect-good p words (instructions.Convert I2s) w h g = int-good w.operands _ g.operands (λ n rest r. operands-good w _ g (refl, r))
  effect-good p words instructions.LongCompare w h g = longs-good w.operands _ g.operands (λ a b rest r. operands-good w _ g (refl, r))
  effect-good p words (instructions.Branch name target) w h g = branches-good name w g
  effect-good p words (instructions.TableSwitch s) w h g = int-good w.operands _ g.operands (λ n rest r. operands-good w rest g r)
  effect-good p words (instructions.LookupSwitch s) w h g = int-good w.operands _ g.operands (λ n rest r. operands-good w rest g r)
  effect-good p words (instructions.Get f kind) w h g = operands-good w (w.fields f ∷ w.operands) g (g.fields f, g.operands)
  effect-good p words (instructions.Put f kind) w h g =
      popping-good w.operands _ g.operands (λ v rest a r. if-good (conforms w.heap kind v) _ _ (field-good w f v rest g a r) tt)
  effect-good p words instructions.Length w h g = popping-good w.operands _ g.operands (λ v rest a r. text-good v _ (λ c s. operands-good w _ g (refl, r)))
  effect-good p words instructions.CharAt w h g =
      int-good w.operands _ g.operands (λ i rest r. popping-good rest _ r (λ v others a q. text-good v _ (λ c s. character-good w others (slice_get (p.characters c s) i) g q)))
  effect-good p words (instructions.Call m) w h g = calls-good m (p.method m) w g
  effect-good p words instructions.CallHost w h g =
      ints-good w.operands _ g.operands (λ a2 a3 rest3 r3. ints-good rest3 _ r3 (λ a0 a1 rest2 r2. int-good rest2 _ r2 (λ number rest1 r1.
      popping-good rest1 _ r1 (λ writable rest0 b r0. table-good w.heap writable _ (λ second. popping-good rest0 _ r0 (λ readable rest c r.
      table-good w.heap readable _ (λ first. operands-good w rest g r)))))))
  effect-good p words instructions.FaultHost w h g = ints-good w.operands _ g.operands (λ pc value rest r. int-good rest _ r (λ kind others q. tt))
  effect-good p words (instructions.Return returns.Ireturn) w h g = int-good w.operands _ g.operands (λ n rest r. (refl, g))
  effect-good p words (instructions.Return returns.Return) w h g = (tt, g)
  effect-good p words (instructions.NewArray kind) w h g =
      int-good w.operands _ g.operands (λ size rest r.
      if-good (nat_le (2 ^ 31) size) _ _ tt (if-good (nat_lt words (w.heap.used + size + 2)) _ _ tt (heap-good w _ _ g (refl, r))))
  effect-good p words instructions.ArrayLength w h g =
      popping-good w.operands _ g.operands (λ v rest a r. array-good w.heap v _ _ tt (λ p' o. length-good w rest o g r))
  effect-good p words instructions.Wrong w h g = tt
