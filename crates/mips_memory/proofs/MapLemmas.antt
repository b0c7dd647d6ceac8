-- Tables of pages that are made, and pages that are added.
use Rattle.std.proofs.Common.{◌≡◌, ℕ, ◌+◌, ◌*◌, ◌/◌, ◌%◌, ◌^◌, ◌<◌, Bool, true, false, ◌==◌, nat_lt, if◌then◌else◌, List, [], length, Option, Some, None, refl, ap, sym, ◌∙◌, arith, option_map}
use Rattle.std.specs.Prelude.{slice_index, slice_index_or, slice_set}
use Rattle.std.proofs.lemmas.Bool.{eqb-true, eqb-false, lt-ltb}
use Rattle.std.proofs.lemmas.List.{get_or-set_same, get_or-set_other, length-set}
use Rattle.run_definition.specs.Words.{lane_of_word}
use Rattle.mips_memory.specs.declared.page.Page.{Page}
use Rattle.mips_memory.specs.declared.page.Page.TheVariants.{Unmapped}
use Rattle.mips_memory.specs.Pages.{Pages, shift_of, is_writable, entry, cell, memory_of, IsSound, no_memory}

-- where the byte of an address stands, by its page
abbrev placed : ℕ → Page → Option ℕ
placed n e = option_map (λ k. (n + k) % 2 ^ 32) (shift_of e)

-- ---- a table of no pages

entry_none : (t : Bool) (e : Page) → e ≡ Unmapped → (if t then e else Unmapped) ≡ Unmapped
entry_none true e h = h
entry_none false e h = refl

pub entry-empty : (table : List Page) (bytes : List ℕ) → ((i : ℕ) → slice_index_or table i Unmapped ≡ Unmapped) → (n : ℕ) → entry (record { table = table; bytes = bytes }) n ≡ Unmapped
unfolding entry
entry-empty table bytes h n = entry_none (nat_lt n 524288) (slice_index_or table n Unmapped) (h n)

cell-empty : (table : List Page) (bytes : List ℕ) → ((i : ℕ) → slice_index_or table i Unmapped ≡ Unmapped) → (n : ℕ) → cell (record { table = table; bytes = bytes }) n ≡ None
unfolding cell
cell-empty table bytes h n = ap (placed n) (entry-empty table bytes h (n / 4096))

pub IsSound-empty : (table : List Page) (bytes : List ℕ) → length table ≡ 524288 → ((i : ℕ) → slice_index_or table i Unmapped ≡ Unmapped) → bytes ≡ [] → IsSound (record { table = table; bytes = bytes })
IsSound-empty table bytes size h e = record {
  size = size;
  whole = let l : length bytes ≡ 0 = ap (λ (xs : List ℕ). length xs) e in omega arith;
  aligned = λ n k f. let g = ap shift_of (entry-empty table bytes h n) in absurd (cc);
  within = λ n i f. let g = cell-empty table bytes h n in absurd (cc);
  apart = λ n m i f d. let g = cell-empty table bytes h n in absurd (cc);
}

pub memory_of-empty : (table : List Page) (bytes : List ℕ) → ((i : ℕ) → slice_index_or table i Unmapped ≡ Unmapped) → memory_of (record { table = table; bytes = bytes }) ≡ no_memory
unfolding memory_of
memory_of-empty table bytes h =
    let p : Pages = record { table = table; bytes = bytes } in
    let byte : (a : ℕ) → (memory_of p).byte a ≡ None = λ a. ap (option_map (slice_index bytes)) (cell-empty table bytes h a) in
    let writes : (a : ℕ) → (memory_of p).writable a ≡ false = λ a. ap is_writable (entry-empty table bytes h (a / 4096)) in
    ap (λ (f : ℕ → Option ℕ). record (memory_of p) { byte = f }) (λ i a. byte a i)
    ∙ ap (λ (g : ℕ → Bool). record no_memory { writable = g }) (λ i a. writes a i)

-- ---- a page more

-- the byte of an address by its page's words, and by where it stands in the page
pub page_lane : (ws : List ℕ) (a : ℕ) → lane_of_word (slice_index ws (a % 4096 / 4)) (a % 4096 % 4) ≡ lane_of_word (slice_index ws (a / 4 % 1024)) (a % 4)
page_lane ws a =
    let word : a % 4096 / 4 ≡ a / 4 % 1024 = omega arith in
    let lane : a % 4096 % 4 ≡ a % 4 = omega arith in
    ap (λ n. lane_of_word (slice_index ws n) (a % 4096 % 4)) word ∙ ap (lane_of_word (slice_index ws (a / 4 % 1024))) lane

unfoldable pub added : Pages → ℕ → Page → List ℕ → Pages
added p page e bs = record { table = slice_set p.table page e; bytes = bs }

pub added_is : (p : Pages) (table : List Page) (page : ℕ) (e : Page) (bs bytes : List ℕ) → table ≡ p.table → bytes ≡ bs → record { table = slice_set table page e; bytes = bytes } ≡ added p page e bs
unfolding added
added_is p table page e bs bytes t b =
    ap (λ t. record { table = slice_set t page e; bytes = bytes }) t ∙ ap (λ b. record { table = slice_set p.table page e; bytes = b }) b

entry-added-by : (p : Pages) (page : ℕ) (e : Page) (bs : List ℕ) → IsSound p → page < 524288 → (n : ℕ) (same : Bool) → (n == page) ≡ same
    → entry (added p page e bs) n ≡ (if same then e else entry p n)
unfolding added entry
entry-added-by p page e bs s low n true t =
    let q : n ≡ page = eqb-true n page t in
    let inside : n < length p.table = omega (arith, s.size) in
    ap (λ b. if b then slice_index_or (slice_set p.table page e) n Unmapped else Unmapped) (lt-ltb n 524288 (omega arith))
    ∙ ap (λ x. slice_index_or (slice_set p.table x e) n Unmapped) (sym q)
    ∙ get_or-set_same p.table n e Unmapped inside
entry-added-by p page e bs s low n false t =
    ap (λ x. if nat_lt n 524288 then x else Unmapped) (get_or-set_other p.table page n e Unmapped (eqb-false n page t))

module _ (p : Pages) (page k : ℕ) (e : Page) (bs : List ℕ) (s : IsSound p) (low : page < 524288) (size : length bs ≡ length p.bytes + 4096) (there : shift_of e ≡ Some k) (last : (page * 4096 + k) % 2 ^ 32 ≡ length p.bytes) where
  -- the bytes that are added stand one behind the other
  place-added : (n : ℕ) → n / 4096 ≡ page → (n + k) % 2 ^ 32 ≡ length p.bytes + n % 4096
  place-added n q = omega (arith, last, s.whole)

  shift-whole : k % 4096 ≡ 0
  shift-whole = omega (arith, last, s.whole)

  cell-added : (n : ℕ) (same : Bool) → (n / 4096 == page) ≡ same → cell (added p page e bs) n ≡ (if same then Some (length p.bytes + n % 4096) else cell p n)
  unfolding cell
  cell-added n true t =
      ap (placed n) (entry-added-by p page e bs s low (n / 4096) true t)
      ∙ ap (option_map (λ k. (n + k) % 2 ^ 32)) there
      ∙ ap Some (place-added n (eqb-true (n / 4096) page t))
  cell-added n false t = ap (placed n) (entry-added-by p page e bs s low (n / 4096) false t)

  -- where a byte that is added stands
  added_place : (n i : ℕ) → (n / 4096 == page) ≡ true → cell (added p page e bs) n ≡ Some i → i ≡ length p.bytes + n % 4096
  added_place n i t f = let g = sym (cell-added n true t) ∙ f in cc

  -- an older byte stands where it stood
  older_cell : (n i : ℕ) → (n / 4096 == page) ≡ false → cell (added p page e bs) n ≡ Some i → cell p n ≡ Some i
  older_cell n i t f = sym (cell-added n false t) ∙ f

  size-added : length (added p page e bs).bytes ≡ length p.bytes + 4096
  unfolding added
  size-added = size

  aligned-added : (n j : ℕ) (same : Bool) → (n == page) ≡ same → shift_of (entry (added p page e bs) n) ≡ Some j → j % 4096 ≡ 0
  aligned-added n j true t f =
      let g : Some k ≡ Some j = sym (ap shift_of (entry-added-by p page e bs s low n true t) ∙ there) ∙ f in
      let same : k ≡ j = cc in
      omega (arith, same, shift-whole)
  aligned-added n j false t f = s.aligned n j (sym (ap shift_of (entry-added-by p page e bs s low n false t)) ∙ f)

  within-added : (n i : ℕ) (same : Bool) → (n / 4096 == page) ≡ same → cell (added p page e bs) n ≡ Some i → i < length (added p page e bs).bytes
  within-added n i true t f = omega (arith, size-added, added_place n i t f)
  within-added n i false t f = omega (arith, size-added, s.within n i (older_cell n i t f))

  -- a byte that is added stands behind the older ones
  behind : (n m i : ℕ) → (n / 4096 == page) ≡ true → (m / 4096 == page) ≡ false → cell (added p page e bs) n ≡ Some i → cell (added p page e bs) m ≡ Some i → ⊥
  behind n m i t u f g = omega (arith, added_place n i t f, s.within m i (older_cell m i u g))

  apart-added : (n m i : ℕ) (a b : Bool) → (n / 4096 == page) ≡ a → (m / 4096 == page) ≡ b → cell (added p page e bs) n ≡ Some i → cell (added p page e bs) m ≡ Some i → n ≡ m
  apart-added n m i true true t u f g = omega (arith, eqb-true (n / 4096) page t, eqb-true (m / 4096) page u, added_place n i t f, added_place m i u g)
  apart-added n m i true false t u f g = absurd (behind n m i t u f g)
  apart-added n m i false true t u f g = absurd (behind m n i u t g f)
  apart-added n m i false false t u f g = s.apart n m i (older_cell n i t f) (older_cell m i u g)

  table-added : length (added p page e bs).table ≡ 524288
  unfolding added
  table-added = length-set p.table page e ∙ s.size

  pub IsSound-added : IsSound (added p page e bs)
  IsSound-added = record {
    size = table-added;
    whole = omega (arith, size-added, s.whole);
    aligned = λ n j f. aligned-added n j (n == page) refl f;
    within = λ n i f. within-added n i (n / 4096 == page) refl f;
    apart = λ n m i f g. apart-added n m i (n / 4096 == page) (m / 4096 == page) refl refl f g;
  }

  module _ (older : (i : ℕ) → i < length p.bytes → slice_index bs i ≡ slice_index p.bytes i) (byte : ℕ → ℕ) (is : (a : ℕ) → slice_index bs (length p.bytes + a % 4096) ≡ byte a) where
    older_byte : (a : ℕ) (place : Option ℕ) → cell p a ≡ place → option_map (slice_index bs) place ≡ option_map (slice_index p.bytes) place
    older_byte a None f = refl
    older_byte a (Some i) f = ap Some (older i (s.within a i f))

    byte-added : (a : ℕ) (same : Bool) → (a / 4096 == page) ≡ same → (memory_of (added p page e bs)).byte a ≡ (if same then Some (byte a) else (memory_of p).byte a)
    unfolding memory_of added
    byte-added a true t = ap (option_map (slice_index bs)) (cell-added a true t) ∙ ap Some (is a)
    byte-added a false t = ap (option_map (slice_index bs)) (cell-added a false t) ∙ older_byte a (cell p a) refl

    writable-added : (writable : Bool) → is_writable e ≡ writable → (a : ℕ) (same : Bool) → (a / 4096 == page) ≡ same → (memory_of (added p page e bs)).writable a ≡ (if same then writable else (memory_of p).writable a)
    unfolding memory_of
    writable-added writable kind a true t = ap is_writable (entry-added-by p page e bs s low (a / 4096) true t) ∙ kind
    writable-added writable kind a false t = ap is_writable (entry-added-by p page e bs s low (a / 4096) false t)

    -- the memory with a page more
    pub memory_of-added : (writable : Bool) → is_writable e ≡ writable
        → memory_of (added p page e bs) ≡ record { byte = λ a. if a / 4096 == page then Some (byte a) else (memory_of p).byte a; writable = λ a. if a / 4096 == page then writable else (memory_of p).writable a }
    unfolding memory_of
    memory_of-added writable kind =
        ap (λ (f : ℕ → Option ℕ). record (memory_of (added p page e bs)) { byte = f }) (λ i a. byte-added a (a / 4096 == page) refl i)
        ∙ ap (λ (g : ℕ → Bool). record { byte = λ a. if a / 4096 == page then Some (byte a) else (memory_of p).byte a; writable = g }) (λ i a. writable-added writable kind a (a / 4096 == page) refl i)
