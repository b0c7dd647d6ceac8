-- What the checks of an image say of its code, once they pass.
use Rattle.std.proofs.Common.{◌≡◌, ℕ, zero, suc, ◌+◌, ◌-◌, ◌*◌, ◌/◌, ◌%◌, ◌^◌, ◌<◌, ◌≤◌, ◌==◌, ◌&&◌, Bool, true, false, nat_lt, if◌then◌else◌, List, [], ◌∷◌, length, get_or, Option, Some, None, refl, subst, inl, inr, arith, option_map}
use Rattle.std.specs.List.{All}
use Rattle.std.specs.Option.{option_or}
use Rattle.std.proofs.lemmas.Bool.{cases_lt, eq-eqb, lt-ltb}
use Rattle.run_definition.specs.Words.{IsWord}
use Rattle.run_definition.specs.declared.order.Order.{Order}
use Rattle.run_definition.specs.declared.order.Order.TheVariants.{Big, Little}
use Rattle.mips_definition.specs.Memory.{word_of_lanes}
use Rattle.elf_definition.specs.Header.{order_of}
use Rattle.elf_definition.specs.Segments.{live}
use Rattle.elf_definition.specs.Area.{area, range_end}
use Rattle.elf_definition.specs.Fault.{elf_fault, IsRunsOf}
use Rattle.elf_definition.specs.declared.segment.Segment.{Segment}
use Rattle.elf_definition.specs.declared.range.Range.{Range}
use Rattle.elf_definition.specs.declared.image_fault.ImageFault.{ImageFault}
use Rattle.elf_definition.specs.Content.{stored_word, stored_code_word}
use Rattle.mips_definition.specs.Table.{is_float}
use Rattle.elf_definition.specs.Pages.{mapped_pages}
use Rattle.elf_definition.specs.ImageFault.{exceeds, code_words, float_in, first_float, size_fault, pages_fault, data_fault, layout_fault, float_fault, image_fault}
use Rattle.elf_definition.specs.Start.{Source, image_of, code_at}
use Rattle.elf_image.specs.Whole.{IsPlainWord, IsWholeRange}
use Rattle.elf_image.proofs.Accepted.{sound_of}
use Rattle.elf_image.proofs.ImageLaws.{code_low}
use Rattle.elf_image.proofs.RunsLemmas.{runs_end, runs_within}
use Rattle.elf_image.proofs.TableLemmas.{least_all, or_none}

none_of : (a b : Option ImageFault) → option_or a b ≡ None → (a ≡ None) × (b ≡ None)
none_of None b e = (refl, e)
none_of (Some x) b e = absurd (cc)

pub within_limit : (kind limit n : ℕ) → exceeds kind limit n ≡ None → n ≤ limit
within_limit kind limit n e = elim (cases_lt limit n) [
  | inl lt ↦ absurd (let over : nat_lt limit n ≡ true = lt-ltb limit n lt in let found = rw over at e in cc)
  | inr le ↦ le
]

-- the checks one by one
pub record Passes (file : List ℕ) (code : List Range) (heap stack : ℕ) : Type 0 where
  pub sizes : size_fault (length file) code ≡ None
  pub pages : pages_fault (live file) heap stack ≡ None
  pub layout : layout_fault (live file) heap stack ≡ None
  pub floats : float_fault file (live file) code ≡ None

pub passes : (file : List ℕ) (code : List Range) (heap stack : ℕ) → image_fault file code heap stack ≡ None → Passes file code heap stack
unfolding image_fault
passes file code heap stack none =
    let a = none_of (size_fault (length file) code) _ none in
    let b = none_of (pages_fault (live file) heap stack) _ a.1 in
    let c = none_of (data_fault file (live file)) _ b.1 in
    let d = none_of (layout_fault (live file) heap stack) (float_fault file (live file) code) c.1 in
    record { sizes = a.0; pages = b.0; layout = d.0; floats = d.1 }

-- a code area is not too large, and its runs are not too many
pub few_words : (file : List ℕ) (code : List Range) (heap stack : ℕ) → image_fault file code heap stack ≡ None → (code_words code ≤ 1_048_576) × (length code ≤ 64)
unfolding size_fault
few_words file code heap stack none =
    let a = none_of (exceeds 1 67_108_864 (length file)) _ (passes file code heap stack none).sizes in
    let b = none_of (exceeds 2 1_048_576 (code_words code)) (exceeds 3 64 (length code)) a.1 in
    (within_limit 2 1_048_576 (code_words code) b.0, within_limit 3 64 (length code) b.1)

pub few_pages : (file : List ℕ) (code : List Range) (heap stack : ℕ) → image_fault file code heap stack ≡ None → mapped_pages (live file) heap stack ≤ 65_536
few_pages file code heap stack none = within_limit 4 65_536 (mapped_pages (live file) heap stack) (passes file code heap stack none).pages

-- ---- no floating-point word

map_none : {A B : Type 0} (f : A → B) (o : Option A) → option_map f o ≡ None → o ≡ None
map_none f None e = refl
map_none f (Some x) e = absurd (cc)

no_float_in : (file : List ℕ) (segments : List Segment) (code : List Range) → first_float file segments code ≡ None → (i k : ℕ) (d : Range) → i < length code
    → k < (get_or code i d).words → is_float (stored_code_word file segments ((get_or code i d).first + 4 * k)) ≡ false
unfolding first_float
no_float_in file segments [] none i k d within lt = absurd (omega (arith, within))
no_float_in file segments (r ∷ code) none zero k d within lt =
    let both = or_none (float_in file segments r) (first_float file segments code) none in
    least_all (λ k. is_float (stored_code_word file segments (r.first + 4 * k))) r.words (map_none (λ k. r.first + 4 * k) _ both.0) k lt
no_float_in file segments (r ∷ code) none (suc i) k d within lt =
    let both = or_none (float_in file segments r) (first_float file segments code) none in
    no_float_in file segments code both.1 i k d (omega (arith, within)) lt

pub no_float : (file : List ℕ) (code : List Range) (heap stack : ℕ) → image_fault file code heap stack ≡ None → (i k : ℕ) (d : Range) → i < length code
    → k < (get_or code i d).words → is_float (stored_code_word file (live file) ((get_or code i d).first + 4 * k)) ≡ false
no_float file code heap stack none = no_float_in file (live file) code (map_none _ (first_float file (live file) code) (passes file code heap stack none).floats)

-- ---- whole ranges

word_of_lanes-fits : (order : Order) (w : ℕ) → w < 2 ^ 32 → word_of_lanes order w < 2 ^ 32
word_of_lanes-fits Big w fits = fits
word_of_lanes-fits Little w fits = omega (arith, fits)

code_word-fits : (file : List ℕ) (segments : List Segment) (at : ℕ) → at % 4 ≡ 0 → ((k : ℕ) → stored_word file segments (4 * k) < 2 ^ 32) → IsWord (stored_code_word file segments at)
unfolding stored_code_word
code_word-fits file segments at even words =
    let place : 4 * (at / 4) ≡ at = omega (arith, even) in
    word_of_lanes-fits (order_of file) (stored_word file segments at) (subst (λ a. stored_word file segments a < 2 ^ 32) place (words (at / 4)))

module _ (v : Source) (code : List Range) (runs : IsRunsOf (area v.file) code) (accepted : elf_fault v.file ≡ None) (passed : image_fault v.file code v.heap v.stack ≡ None)
    (words : (k : ℕ) → stored_word v.file (live v.file) (4 * k) < 2 ^ 32) where
  there_by : (at : ℕ) (even on : Bool) → (at % 4 == 0) ≡ even → area v.file at ≡ on → even ≡ true → on ≡ true → IsWord (stored_code_word v.file (live v.file) at)
      → is_float (stored_code_word v.file (live v.file) at) ≡ false → IsPlainWord (if even && on then Some (stored_code_word v.file (live v.file) at) else None)
  there_by at true true e f te tf fits plain = (fits, plain)
  there_by at true false e f te tf fits plain = absurd (cc)
  there_by at false on e f te tf fits plain = absurd (cc)

  plain_word : (i k : ℕ) (d : Range) → i < length code → k < (get_or code i d).words → IsPlainWord (code_at v ((get_or code i d).first + 4 * k))
  unfolding code_at
  plain_word i k d within lt =
      let r = get_or code i d in
      let at = r.first + 4 * k in
      let aligned : r.first % 4 ≡ 0 = runs.aligned i d within in
      let even : at % 4 ≡ 0 = omega (arith, aligned) in
      there_by at (at % 4 == 0) (area v.file at) refl refl (eq-eqb (at % 4) 0 even)
      (runs_within (area v.file) code runs i at d within (omega arith) (omega (arith, lt)))
      (code_word-fits v.file (live v.file) at even words) (no_float v.file code v.heap v.stack passed i k d within lt)

  end_by : (a b : Bool) (w : ℕ) → b ≡ false → (if a && b then Some w else None) ≡ None
  end_by true true w e = absurd (cc)
  end_by true false w e = refl
  end_by false b w e = refl

  ends : (i : ℕ) (d : Range) → i < length code → code_at v (range_end (get_or code i d)) ≡ None
  unfolding code_at
  ends i d within = end_by _ (area v.file (range_end (get_or code i d))) _ (runs_end (area v.file) code runs i d within)

  low : (i : ℕ) (d : Range) → i < length code → range_end (get_or code i d) ≤ 0x7F00_0000
  low i d within =
      let r = get_or code i d in
      let filled : 1 ≤ r.words = runs.filled i d within in
      let last = code_low v.file accepted (sound_of v.file (live v.file) accepted refl) (range_end r - 1)
      (runs_within (area v.file) code runs i (range_end r - 1) d within (omega (arith, filled)) (omega (arith, filled))) in
      omega (arith, last, filled)

  pub whole_ranges : All (IsWholeRange (image_of v).code) code
  unfolding image_of
  whole_ranges i d within = record {
    filled = runs.filled i d within;
    aligned = runs.aligned i d within;
    low = low i d within;
    there = λ k lt. plain_word i k d within lt;
    ends = ends i d within;
  }
