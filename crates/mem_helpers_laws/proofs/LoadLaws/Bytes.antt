-- LB, LBU, LH and LHU by their methods.
use Rattle.std.proofs.Common.{◌≡◌, ℕ, ◌+◌, ◌/◌, ◌%◌, ◌^◌, ◌≤◌, ◌==◌, true, List, [], ◌∷◌, ◌++◌, is_none, refl, ap, sym, ◌∙◌, arith, lit≤, append_assoc}
use Rattle.std.proofs.lemmas.Bool.{eq-eqb}
use Rattle.std.proofs.lemmas.Nat.{and_mask}
use Rattle.run_definition.specs.declared.order.Order.{Order}
use Rattle.run_definition.specs.declared.order.Order.TheVariants.{Big, Little}
use Rattle.run_definition.specs.Memory.{Memory}
use Rattle.mips_definition.specs.Memory.{byte_at, half_at}
use Rattle.mips_definition.specs.Arithmetic.{sign_extended}
use Rattle.mips_definition.specs.declared.names.load_name.LoadName.TheVariants.{Lb, Lbu, Lh, Lhu}
use Rattle.jvm_definition.specs.declared.conversion.Conversion.{Conversion}
use Rattle.jvm_definition.specs.declared.conversion.Conversion.TheVariants.{I2b, I2c, I2s}
use Rattle.jvm_definition.specs.declared.int_arithmetic.IntArithmetic.TheVariants.{Iand}
use Rattle.jvm_definition.specs.declared.int_shift.IntShift.TheVariants.{Iushr}
use Rattle.jvm_definition.specs.declared.value.Value.{Value}
use Rattle.jvm_definition.specs.declared.value.Value.TheVariants.{Int as int}
use Rattle.jvm_definition.specs.Program.{Program}
use Rattle.jvm_definition.specs.Values.{Heap}
use Rattle.jvm_definition.specs.Effect.{Workspace}
use Rattle.jvm_definition_laws.specs.Stretch.{body_workspace}
use Rattle.emit_steps.specs.declared.step.Step.{Step}
use Rattle.emit_steps.specs.Outcomes.{Outcome, outcome}
use Rattle.emit_instructions.specs.Access.{push_word, arithmetic}
use Rattle.mem_helpers.specs.Parts.{shift, backward_code}
use Rattle.mem_helpers.specs.Loads.{gives, loading, byte_code, half_code, turned_half_code, converted}
use Rattle.mem_helpers_laws.specs.Loading.{LoadsAs, LoadsByName}
use Rattle.mem_helpers_laws.proofs.LoadLaws.Coming.{laters}
use Rattle.mem_helpers_laws.proofs.LoadLaws.Widths.{over_all, one_byte, two_bytes}
use Rattle.mem_helpers_laws.proofs.LoadLaws.Accessing.{IsCalled, IsWordAt, Ends, loads-as}
use Rattle.mem_helpers_laws.proofs.LoadLaws.Ending.{Ends-returned, Ends-after}
use Rattle.mem_helpers_laws.proofs.LoadLaws.Lanes.{backward, byte-bits, half-bits, turned, turned-half-bits}
use Rattle.mem_helpers_laws.proofs.LoadLaws.Whole.{byte-is}

-- half-words in the guest's order, with other bits above them
abbrev ordered_half : Order → ℕ → ℕ
ordered_half Big n = n
ordered_half Little n = turned n

abbrev half_turns : Order → ℕ
half_turns Big = 6
half_turns Little = 15

few-half-turns : (order : Order) → half_turns order ≤ 15
few-half-turns Big = lit≤ tt
few-half-turns Little = lit≤ tt

half-is : (a : ℕ) (order : Order) (memory : Memory) (v : ℕ) → IsWordAt memory a v → a % 2 ≡ 0 → ordered_half order (v / 2 ^ backward 2 a) % 2 ^ 16 ≡ half_at order memory a
half-is a Big memory v at aligned =
    let first = byte-is memory a v a (a % 4) at refl refl in
    let second = byte-is memory a v (a + 1) (a % 4 + 1) at (omega arith) (omega arith) in
    half-bits v a at.word aligned ∙ sym (simp (first, second) refl)
half-is a Little memory v at aligned =
    let first = byte-is memory a v a (a % 4) at refl refl in
    let second = byte-is memory a v (a + 1) (a % 4 + 1) at (omega arith) (omega arith) in
    turned-half-bits v a at.word aligned ∙ sym (simp (first, second) refl)

-- ---- the code

module _ (program : Program) (words a : ℕ) (locals : ℕ → Value) (fields : ℕ → Value) (heap : Heap) where
  -- the outcome with these operands
  abbrev with_stack : List Step → List Value → Outcome
  with_stack code operands = outcome program words code (over_all locals operands fields heap)

  shifted-down : (low v : ℕ) (rest : List Step) → locals 0 ≡ int a → with_stack (backward_code low 0 ++ shift Iushr ∷ rest) (int v ∷ []) ≡ laters 6 (with_stack rest (int (v / 2 ^ backward low a) ∷ []))
  shifted-down low v rest is = simp is refl

  turned-round : (n : ℕ) (rest : List Step) → with_stack (turned_half_code ++ rest) (int n ∷ []) ≡ laters 9 (with_stack rest (int (turned n) ∷ []))
  turned-round n rest = refl

  narrowed-byte : (n : ℕ) (rest : List Step) → with_stack (converted I2b ++ rest) (int n ∷ []) ≡ laters 1 (with_stack rest (int (sign_extended 8 (n % 2 ^ 8)) ∷ []))
  narrowed-byte n rest = refl

  plain-byte : (n : ℕ) (rest : List Step) → with_stack (push_word 255 ∷ arithmetic Iand ∷ rest) (int n ∷ []) ≡ laters 2 (with_stack rest (int (n % 2 ^ 8) ∷ []))
  plain-byte n rest = ap (λ x. laters 2 (with_stack rest (int x ∷ []))) (and_mask n 8)

  narrowed-half : (n : ℕ) (rest : List Step) → with_stack (converted I2s ++ rest) (int n ∷ []) ≡ laters 1 (with_stack rest (int (sign_extended 16 (n % 2 ^ 16)) ∷ []))
  narrowed-half n rest = refl

  plain-half : (n : ℕ) (rest : List Step) → with_stack (converted I2c ++ rest) (int n ∷ []) ≡ laters 1 (with_stack rest (int (n % 2 ^ 16) ∷ []))
  plain-half n rest = refl

  half-read : (order : Order) (v : ℕ) (rest : List Step) → locals 0 ≡ int a → with_stack (half_code order ++ rest) (int v ∷ []) ≡ laters (half_turns order) (with_stack rest (int (ordered_half order (v / 2 ^ backward 2 a)) ∷ []))
  half-read Big v rest is = shifted-down 2 v rest is
  half-read Little v rest is = shifted-down 2 v (turned_half_code ++ rest) is ∙ ap (laters 6) (turned-round (v / 2 ^ backward 2 a) rest)

  -- code that leads to a word, which is returned
  gives-word : (k v r result : ℕ) (code tail : List Step) → with_stack code (int v ∷ []) ≡ laters k (with_stack (gives ++ tail) (int r ∷ [])) → r ≡ result → k ≤ 43 → Ends (with_stack code (int v ∷ [])) 43 result fields heap
  gives-word k v r result code tail runs same few = Ends-after k runs (omega arith) (Ends-returned program words locals fields heap tail r result same)

-- ---- the methods

module _ (program : Program) (words old a pc : ℕ) (order : Order) (memory : Memory) (caller : Workspace) (called : IsCalled program order memory caller a) where
  abbrev given : List Value
  given = int a ∷ int pc ∷ []

  abbrev locals : ℕ → Value
  locals = (body_workspace given caller).locals

  -- what is to be shown of the code behind the word that was read
  abbrev Finishes : ℕ → List Step → ℕ → Type 0
  Finishes bytes middle result =
      (v : ℕ) → IsWordAt memory a v → a % bytes ≡ 0 → (tail : List Step) → Ends (outcome program words ((middle ++ gives) ++ tail) (over_all locals (int v ∷ []) caller.fields caller.heap)) 43 result caller.fields caller.heap

  byte-there : (v : ℕ) → IsWordAt memory a v → v / 2 ^ backward 3 a % 2 ^ 8 ≡ byte_at memory a
  byte-there v at = byte-bits v a ∙ sym (byte-is memory a v a (a % 4) at refl refl)

  loads-byte : (middle : List Step) (result : ℕ) → Finishes 1 middle result → LoadsAs program words order (loading 0 1 0 middle) given caller pc a result caller.fields true (is_none (memory.byte a))
  loads-byte middle result finishes =
      loads-as program words 1 0 2 order one_byte (lit≤ tt) 0 middle given caller memory a pc called refl refl result caller.fields true (is_none (memory.byte a)) (sym (eq-eqb (a % 1) 0 (omega arith))) refl finishes

  loads-half : (middle : List Step) (result : ℕ) → Finishes 2 middle result → LoadsAs program words order (loading 0 2 1 middle) given caller pc a result caller.fields (a % 2 == 0) (is_none (memory.byte a))
  loads-half middle result finishes =
      loads-as program words 2 1 4 order two_bytes (lit≤ tt) 0 middle given caller memory a pc called refl refl result caller.fields (a % 2 == 0) (is_none (memory.byte a)) refl refl finishes

  pub lb-loads : LoadsByName program words order Lb memory caller old a pc
  lb-loads = loads-byte (byte_code ++ converted I2b) (sign_extended 8 (byte_at memory a)) finishes
    where
      finishes : Finishes 1 (byte_code ++ converted I2b) (sign_extended 8 (byte_at memory a))
      finishes v at aligned tail =
          let n = v / 2 ^ backward 3 a in
          let runs = shifted-down program words a locals caller.fields caller.heap 3 v (converted I2b ++ (gives ++ tail)) refl ∙ ap (laters 6) (narrowed-byte program words a locals caller.fields caller.heap n (gives ++ tail)) in
          gives-word program words a locals caller.fields caller.heap 7 v (sign_extended 8 (n % 2 ^ 8)) (sign_extended 8 (byte_at memory a)) (byte_code ++ converted I2b ++ gives ++ tail) tail runs (ap (sign_extended 8) (byte-there v at)) (lit≤ tt)

  pub lbu-loads : LoadsByName program words order Lbu memory caller old a pc
  lbu-loads = loads-byte (byte_code ++ push_word 255 ∷ arithmetic Iand ∷ []) (byte_at memory a) finishes
    where
      finishes : Finishes 1 (byte_code ++ push_word 255 ∷ arithmetic Iand ∷ []) (byte_at memory a)
      finishes v at aligned tail =
          let n = v / 2 ^ backward 3 a in
          let runs = shifted-down program words a locals caller.fields caller.heap 3 v (push_word 255 ∷ arithmetic Iand ∷ (gives ++ tail)) refl ∙ ap (laters 6) (plain-byte program words a locals caller.fields caller.heap n (gives ++ tail)) in
          gives-word program words a locals caller.fields caller.heap 8 v (n % 2 ^ 8) (byte_at memory a) (byte_code ++ push_word 255 ∷ arithmetic Iand ∷ (gives ++ tail)) tail runs (byte-there v at) (lit≤ tt)

  -- half-words, by the conversion at the end
  half-finishes : (name : Conversion) (r : ℕ → ℕ) → ((n : ℕ) (rest : List Step) → outcome program words (converted name ++ rest) (over_all locals (int n ∷ []) caller.fields caller.heap) ≡ laters 1 (outcome program words rest (over_all locals (int (r (n % 2 ^ 16)) ∷ []) caller.fields caller.heap))) → Finishes 2 (half_code order ++ converted name) (r (half_at order memory a))
  half-finishes name r converts v at aligned tail =
      let n = ordered_half order (v / 2 ^ backward 2 a) in
      let few = few-half-turns order in
      let begins = over_all locals (int v ∷ []) caller.fields caller.heap in
      let same = append_assoc (half_code order ++ converted name) gives tail ∙ append_assoc (half_code order) (converted name) (gives ++ tail) in
      let runs = ap (λ l. outcome program words l begins) same ∙ half-read program words a locals caller.fields caller.heap order v (converted name ++ (gives ++ tail)) refl in
      let ends : Ends (outcome program words (converted name ++ (gives ++ tail)) (over_all locals (int n ∷ []) caller.fields caller.heap)) 1 (r (half_at order memory a)) caller.fields caller.heap =
      Ends-after 1 (converts n (gives ++ tail)) (lit≤ tt) (Ends-returned program words locals caller.fields caller.heap tail (r (n % 2 ^ 16)) (r (half_at order memory a)) (ap r (half-is a order memory v at aligned))) in
      Ends-after (half_turns order) runs (omega arith) ends

  pub lh-loads : LoadsByName program words order Lh memory caller old a pc
  lh-loads =
      loads-half (half_code order ++ converted I2s) (sign_extended 16 (half_at order memory a))
      (half-finishes I2s (sign_extended 16) (narrowed-half program words a locals caller.fields caller.heap))

  pub lhu-loads : LoadsByName program words order Lhu memory caller old a pc
  lhu-loads =
      loads-half (half_code order ++ converted I2c) (half_at order memory a)
      (half-finishes I2c (λ n. n) (plain-half program words a locals caller.fields caller.heap))
