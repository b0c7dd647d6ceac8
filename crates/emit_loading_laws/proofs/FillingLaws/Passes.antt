-- A pass of the loop that puts words into an array.
use Rattle.std.proofs.Common.{◌≡◌, ℕ, ◌+◌, ◌%◌, ◌^◌, ◌<◌, int_lt, true, false, List, [], ◌∷◌, ◌++◌, length, slice_get, Some, None, refl, ap, ◌∙◌, arith}
use Rattle.std.proofs.lemmas.Bool.{lt-ltb}
use Rattle.run_definition.specs.Words.{signed_of}
use Rattle.jvm_definition.specs.declared.int_shift.IntShift.TheVariants.{Ishl}
use Rattle.jvm_definition.specs.declared.int_arithmetic.IntArithmetic.TheVariants.{Iadd}
use Rattle.jvm_definition.specs.declared.value.Value.{Value}
use Rattle.jvm_definition.specs.declared.value.Value.TheVariants.{Int as int, Null as null, Array as array, Text as text}
use Rattle.jvm_definition.specs.Program.{Program}
use Rattle.jvm_definition.specs.Values.{Heap, ints, with_int}
use Rattle.jvm_definition.specs.Words.{int_shifted}
use Rattle.jvm_definition.specs.Effect.{gives}
use Rattle.emit_steps.specs.declared.step.Step.{Step}
use Rattle.emit_steps.specs.Outcomes.{Outcome, left, stopped, outcome}
use Rattle.emit_instructions.specs.Access.{arithmetic}
use Rattle.emit_steps.specs.Returning.{returns}
use Rattle.emit_loading.specs.Parts.{load, load_reference, ended_code}
use Rattle.emit_loading.specs.Words.{joined_code, word_code, put_code, words_body, words_code}
use Rattle.emit_loading_laws.specs.Texts.{joined, int_of_five}
use Rattle.emit_loading_laws.proofs.FillingLaws.Reading.{laters, over_all, with_int_in, run, next-read, goes-on, has-ended}

-- the local variables when five characters were read
abbrev pub five_read : (ℕ → Value) → ℕ → ℕ → Value
five_read locals n =
    with_int_in (with_int_in (with_int_in (with_int_in (with_int_in locals 3 (n + 1)) 3 (n + 2)) 3 (n + 3)) 3 (n + 4)) 3 (n + 5)

-- and when the word was put
abbrev pub word_put : (ℕ → Value) → ℕ → ℕ → ℕ → Value
word_put locals k n = with_int_in (five_read locals n) 2 (k + 1)

-- the code of the loop, and what stands behind it
abbrev pub loop_code : List Step
loop_code = ended_code 1 3 (length words_body) ++ (words_body ++ returns ∷ [])

module _ (program : Program) (words class slot : ℕ) (fields : ℕ → Value) where
  -- the outcome of code
  abbrev goes : List Step → (ℕ → Value) → List Value → Heap → Outcome
  goes code locals operands heap = run program words class slot fields code locals operands heap

  abbrev text_chars : List ℕ
  text_chars = program.characters class slot

  -- a character more
  joins : (x n m c : ℕ) (locals : ℕ → Value) (operands : List Value) (heap : Heap) (rest : List Step) → locals 1 ≡ text class slot → locals 3 ≡ int n → slice_get text_chars n ≡ Some c → (n + 1) % 2 ^ 32 ≡ m → goes (joined_code ++ rest) locals (int x ∷ operands) heap ≡ laters 7 (goes rest (with_int_in locals 3 m) (int (joined x c) ∷ operands) heap)
  joins x n m c locals operands heap rest text_is place_is there next =
      ap (laters 2) (next-read program words class slot fields 1 3 n m c locals (int (int_shifted Ishl x 7) ∷ operands) heap (arithmetic Iadd ∷ rest) text_is place_is there next)

  module _ (n a b c d e : ℕ) (locals : ℕ → Value) (heap : Heap) (text_is : locals 1 ≡ text class slot) (place_is : locals 3 ≡ int n) (small : n + 5 < 2 ^ 31) (a_is : slice_get text_chars n ≡ Some a) (b_is : slice_get text_chars (n + 1) ≡ Some b) (c_is : slice_get text_chars (n + 2) ≡ Some c) (d_is : slice_get text_chars (n + 3) ≡ Some d) (e_is : slice_get text_chars (n + 4) ≡ Some e) where
    -- the word of five characters is pushed
    reads : (operands : List Value) (rest : List Step) → goes (word_code ++ rest) locals operands heap ≡ laters 32 (goes rest (five_read locals n) (int (int_of_five a b c d e) ∷ operands) heap)
    reads operands rest =
        let l1 = with_int_in locals 3 (n + 1) in
        let l2 = with_int_in l1 3 (n + 2) in
        let l3 = with_int_in l2 3 (n + 3) in
        let l4 = with_int_in l3 3 (n + 4) in
        let second = joined_code ++ (joined_code ++ (joined_code ++ (joined_code ++ rest))) in
        let x1 = joined a b in
        let x2 = joined x1 c in
        let x3 = joined x2 d in
        next-read program words class slot fields 1 3 n (n + 1) a locals operands heap second text_is place_is a_is (omega arith)
        ∙ ap (laters 4) (joins a (n + 1) (n + 2) b l1 operands heap (joined_code ++ (joined_code ++ (joined_code ++ rest))) text_is refl b_is (omega arith))
        ∙ ap (laters 11) (joins x1 (n + 2) (n + 3) c l2 operands heap (joined_code ++ (joined_code ++ rest)) text_is refl c_is (omega arith))
        ∙ ap (laters 18) (joins x2 (n + 3) (n + 4) d l3 operands heap (joined_code ++ rest) text_is refl d_is (omega arith))
        ∙ ap (laters 25) (joins x3 (n + 4) (n + 5) e l4 operands heap rest text_is refl e_is (omega arith))

    module _ (p k : ℕ) (old : ℕ → ℕ) (operands : List Value) (array_is : locals 0 ≡ array p) (number_is : locals 2 ≡ int k) (there : heap.array_at p ≡ Some (ints 1024 old)) (within : k < 1024) (more : int_lt (signed_of n) (signed_of (length text_chars)) ≡ true) where
      abbrev value : ℕ
      value = int_of_five a b c d e

      abbrev behind : List Step
      behind = put_code ++ returns ∷ []

      puts : (v : ℕ) → goes behind (five_read locals n) (int v ∷ int k ∷ array p ∷ operands) heap ≡ left 3 8 (over_all (word_put locals k n) operands fields (with_int heap p k v))
      puts v =
          let next : (k + 1) % 2 ^ 32 ≡ k + 1 = omega arith in
          let inside = lt-ltb k 1024 within in
          simp (there, number_is, inside, next) refl

      begins : (rest : List Step) → goes (load_reference 0 ∷ load 2 ∷ rest) locals operands heap ≡ laters 2 (goes rest locals (int k ∷ array p ∷ operands) heap)
      begins rest = simp (array_is, number_is) refl

      pub passes : outcome program words loop_code (over_all locals operands fields heap) ≡ left 41 8 (over_all (word_put locals k n) operands fields (with_int heap p k value))
      passes =
          goes-on program words class slot fields 1 3 n (length words_body) locals operands heap (words_body ++ returns ∷ []) text_is place_is more
          ∙ ap (laters 4) (begins (word_code ++ behind))
          ∙ ap (laters 6) (reads (int k ∷ array p ∷ operands) behind)
          ∙ ap (laters 38) (puts value)

  -- behind the text it returns
  pub ends : (n : ℕ) (locals : ℕ → Value) (operands : List Value) (heap : Heap) → locals 1 ≡ text class slot → locals 3 ≡ int n → int_lt (signed_of n) (signed_of (length text_chars)) ≡ false → outcome program words loop_code (over_all locals operands fields heap) ≡ stopped 4 41 (over_all locals operands fields heap) (gives None (over_all locals operands fields heap))
  ends n locals operands heap text_is place_is test =
      has-ended program words class slot fields 1 3 n (length words_body) locals operands heap (words_body ++ returns ∷ []) text_is place_is test

-- ---- before the loop

abbrev pub begun : (ℕ → Value) → ℕ → Value
begun locals = with_int_in (with_int_in locals 2 0) 3 0

pub array-there : (program : Program) (words p : ℕ) (locals : ℕ → Value) (operands : List Value) (fields : ℕ → Value) (heap : Heap) → locals 0 ≡ array p → outcome program words words_code (over_all locals operands fields heap) ≡ laters 6 (outcome program words loop_code (over_all (begun locals) operands fields heap))
array-there program words p locals operands fields heap is = simp is refl

-- without an array it returns
pub no-array : (program : Program) (words : ℕ) (locals : ℕ → Value) (operands : List Value) (fields : ℕ → Value) (heap : Heap) → locals 0 ≡ null → outcome program words words_code (over_all locals operands fields heap) ≡ stopped 2 47 (over_all locals operands fields heap) (gives None (over_all locals operands fields heap))
no-array program words locals operands fields heap is = simp is refl
