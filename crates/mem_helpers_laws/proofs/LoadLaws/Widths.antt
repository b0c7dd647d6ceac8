-- The tests of an address: by bytes, halves and words it is aligned and below 80000000, or the code behind is passed over.
use Rattle.std.proofs.Common.{◌≡◌, ℕ, ◌+◌, ◌*◌, ◌/◌, ◌%◌, ◌^◌, ◌<◌, ◌≤◌, ◌==◌, bit_and, int_lt, pos, not, true, false, ◌⊎◌, inl, inr, List, [], ◌++◌, refl, ap, sym, ◌∙◌, arith, lit<}
use Rattle.std.proofs.lemmas.Bool.{lt-ltb, le-ltb, eq-eqb, ne_eqb, cases_lt}
use Rattle.std.proofs.lemmas.Nat.{and_mask, and_block}
use Rattle.run_definition.specs.Words.{IsWord, signed_of}
use Rattle.jvm_definition.specs.declared.value.Value.{Value}
use Rattle.jvm_definition.specs.declared.value.Value.TheVariants.{Int as int}
use Rattle.jvm_definition.specs.Program.{Program}
use Rattle.jvm_definition.specs.Values.{Heap}
use Rattle.jvm_definition.specs.Effect.{Workspace, same_integer}
use Rattle.emit_steps.specs.declared.step.Step.{Step}
use Rattle.emit_steps.specs.Outcomes.{outcome, outcome_from}
use Rattle.mem_helpers.specs.Parts.{unfit_code}
use Rattle.emit_simulation_laws.proofs.Signs.{same-signed, below-zero}
use Rattle.mem_helpers_laws.proofs.LoadLaws.Coming.{laters}

-- what code stands over
abbrev pub over_all : (ℕ → Value) → List Value → (ℕ → Value) → Heap → Workspace
over_all locals operands fields heap = record { locals = locals; operands = operands; fields = fields; heap = heap }

-- An access of so many bytes: its test takes so many instructions, and of a fault's address these bits are looked at.
pub record IsWidth (bytes bits turns : ℕ) : Type 0 where
  pub fits : (program : Program) (words i a over : ℕ) (rest : List Step) (locals : ℕ → Value) (fields : ℕ → Value) (heap : Heap) → locals i ≡ int a → a % bytes ≡ 0 → a < 2 ^ 31 → outcome program words (unfit_code i bytes over ++ rest) (over_all locals [] fields heap) ≡ laters turns (outcome program words rest (over_all locals [] fields heap))
  pub unfit : (program : Program) (words i a over : ℕ) (rest : List Step) (locals : ℕ → Value) (fields : ℕ → Value) (heap : Heap) → IsWord a → locals i ≡ int a → (a % bytes ≡ 0 → a < 2 ^ 31 → ⊥) → outcome program words (unfit_code i bytes over ++ rest) (over_all locals [] fields heap) ≡ laters turns (outcome_from program words rest over (over_all locals [] fields heap))
  pub kind : (a : ℕ) → same_integer (signed_of (bit_and a bits)) (pos 0) ≡ (a % bytes == 0)

zero-is-same : (x : ℕ) → x ≡ 0 → same_integer (signed_of x) (pos 0) ≡ true
zero-is-same x e = ap (λ n. same_integer (signed_of n) (pos 0)) e

other-is-apart : (x : ℕ) → IsWord x → (x ≡ 0 → ⊥) → same_integer (signed_of x) (pos 0) ≡ false
other-is-apart x word ne = same-signed x 0 word (lit< tt) ∙ ne_eqb x 0 ne

-- ---- the top bit and low bits

high-and : (a : ℕ) → bit_and (a / 2 ^ 31) 1 ≡ a / 2 ^ 31 % 2
high-and a = and_mask (a / 2 ^ 31) 1

top-and-two : (a : ℕ) → IsWord a → bit_and a 0x8000_0003 ≡ a / 2 ^ 31 * 2 ^ 31 + a % 4
top-and-two a word =
    let split : a ≡ a / 2 ^ 31 * 2 ^ 31 + a % 2 ^ 31 = omega arith in
    let r : a % 2 ^ 31 < 2 ^ 31 = omega arith in
    let block = and_block 31 (a / 2 ^ 31) 1 (a % 2 ^ 31) 3 r (lit< tt) in
    let low = and_mask (a % 2 ^ 31) 2 in
    let high = high-and a in
    ap (λ n. bit_and n 0x8000_0003) split ∙ block ∙ omega arith

top-and-one : (a : ℕ) → IsWord a → bit_and a 0x8000_0001 ≡ a / 2 ^ 31 * 2 ^ 31 + a % 2
top-and-one a word =
    let split : a ≡ a / 2 ^ 31 * 2 ^ 31 + a % 2 ^ 31 = omega arith in
    let r : a % 2 ^ 31 < 2 ^ 31 = omega arith in
    let block = and_block 31 (a / 2 ^ 31) 1 (a % 2 ^ 31) 1 r (lit< tt) in
    let low = and_mask (a % 2 ^ 31) 1 in
    let high = high-and a in
    ap (λ n. bit_and n 0x8000_0001) split ∙ block ∙ omega arith

-- ---- the three widths

pub one_byte : IsWidth 1 0 2
one_byte = record {
  fits = λ program words i a over rest locals fields heap is aligned low.
      let test : int_lt (signed_of a) (pos 0) ≡ false = below-zero a (omega arith) ∙ ap not (lt-ltb a (2 ^ 31) low) in
      simp (is, test) refl;
  unfit = λ program words i a over rest locals fields heap word is misfit.
      let test : int_lt (signed_of a) (pos 0) ≡ true = below-zero a word ∙ ap not (le-ltb a (2 ^ 31) (not-low a misfit (cases_lt a (2 ^ 31)))) in
      simp (is, test) refl;
  kind = λ a. zero-is-same (bit_and a 0) (and_mask a 0 ∙ omega arith) ∙ sym (eq-eqb (a % 1) 0 (omega arith));
}
  where
    not-low : (a : ℕ) → (a % 1 ≡ 0 → a < 2 ^ 31 → ⊥) → (a < 2 ^ 31) ⊎ (2 ^ 31 ≤ a) → 2 ^ 31 ≤ a
    not-low a misfit (inl low) = absurd (misfit (omega arith) low)
    not-low a misfit (inr high) = high

pub two_bytes : IsWidth 2 1 4
two_bytes = record {
  fits = λ program words i a over rest locals fields heap is aligned low.
      let test : same_integer (signed_of (bit_and a 0x8000_0001)) (pos 0) ≡ true = zero-is-same (bit_and a 0x8000_0001) (top-and-one a (omega arith) ∙ omega arith) in
      simp (is, test) refl;
  unfit = λ program words i a over rest locals fields heap word is misfit.
      let bits = top-and-one a word in
      let test : same_integer (signed_of (bit_and a 0x8000_0001)) (pos 0) ≡ false = other-is-apart (bit_and a 0x8000_0001) (omega arith) (λ e. misfit (omega arith) (omega arith)) in
      simp (is, test) refl;
  kind = λ a.
      let low : a % 2 < 2 ^ 32 = omega arith in
      ap (λ n. same_integer (signed_of n) (pos 0)) (and_mask a 1) ∙ same-signed (a % 2) 0 low (lit< tt);
}

pub four_bytes : IsWidth 4 3 4
four_bytes = record {
  fits = λ program words i a over rest locals fields heap is aligned low.
      let test : same_integer (signed_of (bit_and a 0x8000_0003)) (pos 0) ≡ true = zero-is-same (bit_and a 0x8000_0003) (top-and-two a (omega arith) ∙ omega arith) in
      simp (is, test) refl;
  unfit = λ program words i a over rest locals fields heap word is misfit.
      let bits = top-and-two a word in
      let test : same_integer (signed_of (bit_and a 0x8000_0003)) (pos 0) ≡ false = other-is-apart (bit_and a 0x8000_0003) (omega arith) (λ e. misfit (omega arith) (omega arith)) in
      simp (is, test) refl;
  kind = λ a.
      let low : a % 4 < 2 ^ 32 = omega arith in
      ap (λ n. same_integer (signed_of n) (pos 0)) (and_mask a 2) ∙ same-signed (a % 4) 0 low (lit< tt);
}
