-- The unit at a word of a range, and what is fetched there and behind it.
use Rattle.std.proofs.Common.{◌≡◌, ℕ, zero, suc, ◌+◌, ◌*◌, ◌%◌, ◌^◌, ◌<◌, ◌==◌, ◌&&◌, true, if◌then◌else◌, List, [], ◌∷◌, length, Option, Some, None, option_map, refl, ap, sym, ◌∙◌, arith, eq-eqb}
use Rattle.std.proofs.Math.Nat.{mod-eq_of_lt}
use Rattle.std.specs.List.{slice_get}
use Rattle.mips_definition.specs.Table.{inst}
use Rattle.mips_definition.specs.State.{State}
use Rattle.delay_slots.specs.Units.{unit_of, units_of}
use Rattle.delay_slots.specs.Turns.{HasRange, StandsAt}
use Rattle.block_builder.specs.Blocks.{unit_at}
use Rattle.emit_paths_laws.specs.Guest.{instruction_at}
use Rattle.emit_instructions_laws.specs.Steps.{IsInSlot}

abbrev pub first_of : List ℕ → Option ℕ
first_of [] = None
first_of (word ∷ words) = Some word

pub record FoundAt (words : List ℕ) (i : ℕ) : Type 0 where
  pub word : ℕ
  pub following : List ℕ
  pub there : slice_get words i ≡ Some word
  pub unit_is : unit_of (inst word) following ≡ unit_at (units_of words) i
  pub next : slice_get words (suc i) ≡ first_of following
  pub count : length words ≡ suc i + length following

first_of-get : (words : List ℕ) → slice_get words zero ≡ first_of words
first_of-get [] = refl
first_of-get (word ∷ words) = refl

pub found : (words : List ℕ) (i : ℕ) → i < length words → FoundAt words i
found [] i below = absurd (omega (arith, below))
found (word ∷ words) zero below = record {
  word = word;
  following = words;
  there = refl;
  unit_is = refl;
  next = first_of-get words;
  count = omega arith;
}
found (word ∷ words) (suc i) below =
    let later = found words i (omega (arith, below)) in
    record {
      word = later.word;
      following = later.following;
      there = later.there;
      unit_is = later.unit_is;
      next = later.next;
      count = omega (arith, later.count);
    }

-- what follows a word of the range
next_there : (code : ℕ → Option ℕ) (first : ℕ) (words : List ℕ) (i : ℕ) (following : List ℕ) → HasRange code first words → slice_get words (suc i) ≡ first_of following → length words ≡ suc i + length following → code (first + 4 * suc i) ≡ first_of following
next_there code first words i [] range next count =
    let e : length words ≡ suc i = omega arith in
    ap (λ n. code (first + 4 * n)) (sym e) ∙ range.ends
next_there code first words i (word ∷ rest) range next count =
    let within : suc i < length words = omega arith in
    range.there (suc i) within ∙ next

-- the instruction at an aligned address
instruction-there : (s : State) (word : Option ℕ) → s.begun ≡ true → (s.pc % 4 == 0) ≡ true → s.code s.pc ≡ word → instruction_at s ≡ option_map inst word
instruction-there s word begun aligned there =
    ap (λ b. if b && (s.pc % 4 == 0) then option_map inst (s.code s.pc) else None) begun
    ∙ ap (λ b. if b then option_map inst (s.code s.pc) else None) aligned
    ∙ ap (λ o. option_map inst o) there

-- What is fetched at a state and in the delay slot behind it.
pub record Fetches (x : State) (word : ℕ) (following : List ℕ) : Type 0 where
  pub begun : x.begun ≡ true
  pub here : instruction_at x ≡ Some (inst word)
  pub next : (s : State) → IsInSlot x s → instruction_at s ≡ option_map inst (first_of following)

pub fetches : (x : State) (first : ℕ) (words : List ℕ) (i : ℕ) → StandsAt x first words i → (at : FoundAt words i) → Fetches x at.word at.following
fetches x first words i stands at =
    let range : HasRange x.code first words = stands.range in
    let aligned : first % 4 ≡ 0 = range.aligned in
    let below : first + 4 * length words < 2 ^ 32 = range.below_end in
    let inside : i < length words = stands.in_range in
    let pc : x.pc ≡ first + 4 * i = stands.pc in
    let pc_aligned : x.pc % 4 ≡ 0 = omega arith in
    let fits : x.pc + 4 < 2 ^ 32 = omega arith in
    let wraps : (x.pc + 4) % 2 ^ 32 ≡ x.pc + 4 = mod-eq_of_lt fits in
    let next_aligned : (x.pc + 4) % 4 ≡ 0 = omega arith in
    let next : x.pc + 4 ≡ first + 4 * suc i = omega arith in
    record {
      begun = stands.begun;
      here =
          instruction-there x (Some at.word) stands.begun (eq-eqb (x.pc % 4) 0 pc_aligned)
          (ap (λ n. x.code n) pc ∙ range.there i inside ∙ at.there);
      next = λ s is.
          let there : s.pc ≡ x.pc + 4 = is.pc ∙ wraps in
          instruction-there s (first_of at.following) is.begun
          (eq-eqb (s.pc % 4) 0 (ap (λ n. n % 4) there ∙ next_aligned))
          (ap (λ n. s.code n) (there ∙ next) ∙ ap (λ (c : ℕ → Option ℕ). c (first + 4 * suc i)) is.code
          ∙ next_there x.code first words i at.following range at.next at.count);
    }
