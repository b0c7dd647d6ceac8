-- The code that reads the characters of a text.
use Rattle.std.proofs.Common.{◌≡◌, ℕ, zero, suc, ◌+◌, ◌%◌, ◌^◌, ◌<◌, ◌==◌, nat_lt, int_lt, pos, true, false, if◌then◌else◌, List, ◌∷◌, ◌++◌, length, slice_get, Some, refl, ap, ◌∙◌, arith}
use Rattle.std.proofs.lemmas.Int.{ints}
use Rattle.run_definition.specs.Words.{signed_of}
use Rattle.jvm_definition.specs.declared.value.Value.{Value}
use Rattle.jvm_definition.specs.declared.value.Value.TheVariants.{Int as int, Text as text}
use Rattle.jvm_definition.specs.Program.{Program}
use Rattle.jvm_definition.specs.Values.{Heap}
use Rattle.jvm_definition.specs.Effect.{Workspace}
use Rattle.emit_steps.specs.declared.step.Step.{Step}
use Rattle.emit_steps.specs.Outcomes.{Outcome, later, outcome, outcome_from}
use Rattle.emit_loading.specs.Parts.{next_character, ended_code}

-- the outcome where so many steps were executed before
abbrev pub laters : ℕ → Outcome → Outcome
laters zero o = o
laters (suc n) o = later (laters n o)

-- what code stands over
abbrev pub over_all : (ℕ → Value) → List Value → (ℕ → Value) → Heap → Workspace
over_all locals operands fields heap = record { locals = locals; operands = operands; fields = fields; heap = heap }

-- local variables of which one holds another int
abbrev pub with_int_in : (ℕ → Value) → ℕ → ℕ → ℕ → Value
with_int_in locals i n = λ k. if k == i then int n else locals k

-- small numbers are compared as they are
pub compared : (a b : ℕ) → a < 2 ^ 31 → b < 2 ^ 31 → int_lt (signed_of a) (signed_of b) ≡ nat_lt a b
compared a b small_a small_b =
    let first : signed_of a ≡ pos a = grind (arith, ints) in
    let second : signed_of b ≡ pos b = grind (arith, ints) in
    ap (λ z. int_lt z (signed_of b)) first ∙ ap (λ z. int_lt (pos a) z) second

module _ (program : Program) (words class slot : ℕ) (fields : ℕ → Value) where
  -- the outcome of code with these local variables and operands
  abbrev pub run : List Step → (ℕ → Value) → List Value → Heap → Outcome
  run code locals operands heap = outcome program words code (over_all locals operands fields heap)

  -- the character at the place is pushed, and the place is the next one
  pub next-read : (t i n m c : ℕ) (locals : ℕ → Value) (operands : List Value) (heap : Heap) (rest : List Step) → locals t ≡ text class slot → locals i ≡ int n → slice_get (program.characters class slot) n ≡ Some c → (n + 1) % 2 ^ 32 ≡ m → run (next_character t i ++ rest) locals operands heap ≡ laters 4 (run rest (with_int_in locals i m) (int c ∷ operands) heap)
  next-read t i n m c locals operands heap rest text_is place_is there next = simp (text_is, place_is, there, next) refl

  -- the place is in the text, or behind it
  pub goes-on : (t i n over : ℕ) (locals : ℕ → Value) (operands : List Value) (heap : Heap) (rest : List Step) → locals t ≡ text class slot → locals i ≡ int n → int_lt (signed_of n) (signed_of (length (program.characters class slot))) ≡ true → run (ended_code t i over ++ rest) locals operands heap ≡ laters 4 (run rest locals operands heap)
  goes-on t i n over locals operands heap rest text_is place_is test = simp (text_is, place_is, test) refl

  pub has-ended : (t i n over : ℕ) (locals : ℕ → Value) (operands : List Value) (heap : Heap) (rest : List Step) → locals t ≡ text class slot → locals i ≡ int n → int_lt (signed_of n) (signed_of (length (program.characters class slot))) ≡ false → run (ended_code t i over ++ rest) locals operands heap ≡ laters 4 (outcome_from program words rest over (over_all locals operands fields heap))
  has-ended t i n over locals operands heap rest text_is place_is test = simp (text_is, place_is, test) refl
