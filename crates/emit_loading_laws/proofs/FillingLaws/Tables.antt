-- Tables of pages while pages are made.
use Rattle.std.proofs.Common.{◌≡◌, ◌≢◌, ℕ, zero, suc, ◌+◌, ◌*◌, ◌<◌, Bool, true, false, if◌then◌else◌, List, [], ◌∷◌, ◌++◌, length, Option, Some, refl, ap, ◌∙◌, sym, arith}
use Rattle.std.proofs.lemmas.Bool.{eq-eqb, ne_eqb}
use Rattle.elf_image_parts.specs.Runs.{pages_from}
use Rattle.jvm_definition.specs.Values.{ints, pages, Heap, with_new, with_page, set_page}
use Rattle.emit_layout.specs.FieldNumbers.{page_count}
use Rattle.emit_loading_laws.specs.MadePages.{HasTables, with_new_page, with_made, made, with_place, with_place_if}

at-page : (places : ℕ → Option ℕ) (page p : ℕ) → with_place places page p page ≡ Some p
at-page places page p = ap (λ b. if b then Some p else places page) (eq-eqb page page refl)

-- an array of another table
page-elsewhere : (heap : Heap) (table page q : ℕ) (p : Option ℕ) → q ≢ table → (with_page heap table page p).array_at q ≡ heap.array_at q
page-elsewhere heap table page q p apart =
    ap (λ b. if b then set_page (heap.array_at q) page p else heap.array_at q) (ne_eqb q table apart)

-- the table's own
page-there : (heap : Heap) (table page p : ℕ) (places : ℕ → Option ℕ) → heap.array_at table ≡ Some (pages page_count places) → (with_page heap table page (Some p)).array_at table ≡ Some (pages page_count (with_place places page p))
page-there heap table page p places there =
    ap (λ b. if b then set_page (heap.array_at table) page (Some p) else heap.array_at table) (eq-eqb table table refl)
    ∙ ap (λ a. set_page a page (Some p)) there

module _ (readable writable : ℕ) (readable_pages writable_pages : ℕ → Option ℕ) (heap : Heap) (has : HasTables heap readable writable readable_pages writable_pages) (page : ℕ) where
  abbrev used : ℕ
  used = heap.used

  abbrev new : Heap
  new = with_new heap (ints 1024 (λ _. 0))

  abbrev first : Heap
  first = with_new_page heap readable page

  new-there : new.array_at used ≡ Some (ints 1024 (λ _. 0))
  new-there = ap (λ b. if b then Some (ints 1024 (λ _. 0)) else heap.array_at used) (eq-eqb used used refl)

  new-elsewhere : (q : ℕ) → q < used → new.array_at q ≡ heap.array_at q
  new-elsewhere q less =
      ap (λ b. if b then Some (ints 1024 (λ _. 0)) else heap.array_at q) (ne_eqb q used (λ e. absurd (omega (arith, e, less))))

  -- the new array when it is in the first table
  pub array-there : first.array_at used ≡ Some (ints 1024 (λ _. 0))
  array-there =
      page-elsewhere new readable page used (Some used) (λ e. let less = has.readable_made in absurd (omega (arith, e, less))) ∙ new-there

  pub readable-there : first.array_at readable ≡ Some (pages page_count (with_place readable_pages page used))
  readable-there =
      page-there new readable page used readable_pages (new-elsewhere readable has.readable_made ∙ has.readable_there)

  pub writable-there : first.array_at writable ≡ Some (pages page_count writable_pages)
  writable-there =
      page-elsewhere new readable page writable (Some used) (λ e. has.apart (sym e))
      ∙ new-elsewhere writable has.writable_made
      ∙ has.writable_there

  pub page-found : with_place readable_pages page used page ≡ Some used
  page-found = at-page readable_pages page used

  -- they are tables again
  pub tables-stay : (w : Bool) → HasTables (with_made readable writable heap page w) readable writable (with_place readable_pages page used) (with_place_if w writable_pages page used)
  tables-stay false =
      let a = has.readable_made in
      let b = has.writable_made in
      record {
        readable_there = readable-there;
        writable_there = writable-there;
        readable_made = omega arith;
        writable_made = omega arith;
        apart = has.apart;
      }
  tables-stay true =
      let a = has.readable_made in
      let b = has.writable_made in
      record {
        readable_there = page-elsewhere first writable page readable (Some used) has.apart ∙ readable-there;
        writable_there = page-there first writable page used writable_pages writable-there;
        readable_made = omega arith;
        writable_made = omega arith;
        apart = has.apart;
      }

-- ---- many pages

pub used-made : (readable writable : ℕ) (heap : Heap) (page : ℕ) (w : Bool) → (with_made readable writable heap page w).used ≡ heap.used + 1026
used-made readable writable heap page true = omega arith
used-made readable writable heap page false = omega arith

pub made-joined : (readable writable : ℕ) (heap : Heap) (xs ys : List (ℕ × Bool)) → made readable writable heap (xs ++ ys) ≡ made readable writable (made readable writable heap xs) ys
made-joined readable writable heap [] ys = refl
made-joined readable writable heap (x ∷ xs) ys =
    made-joined readable writable (with_made readable writable heap x.0 x.1) xs ys

pub used-all : (readable writable : ℕ) (heap : Heap) (xs : List (ℕ × Bool)) → (made readable writable heap xs).used ≡ heap.used + 1026 * length xs
used-all readable writable heap [] = omega arith
used-all readable writable heap (x ∷ xs) =
    let a = used-all readable writable (with_made readable writable heap x.0 x.1) xs in
    let b = used-made readable writable heap x.0 x.1 in
    omega (arith, a, b)

-- ---- the pages of a run

-- so many pages from one on
abbrev pub from_page : ℕ → Bool → ℕ → List (ℕ × Bool)
from_page start w zero = []
from_page start w (suc j) = (start, w) ∷ from_page (start + 1) w j

from-more : (start : ℕ) (w : Bool) (j : ℕ) → from_page start w (suc j) ≡ from_page start w j ++ (start + j, w) ∷ []
from-more start w zero = let same : start ≡ start + 0 = omega arith in ap (λ k. (k, w) ∷ []) same
from-more start w (suc j) =
    let same : start + 1 + j ≡ start + suc j = omega arith in
    ap (λ pages. (start, w) ∷ pages) (from-more (start + 1) w j)
    ∙ ap (λ k. (start, w) ∷ (from_page (start + 1) w j ++ (k, w) ∷ [])) same

pub from-pages : (start : ℕ) (w : Bool) (count : ℕ) → pages_from start w count ≡ from_page start w count
unfolding pages_from
from-pages start w zero = refl
from-pages start w (suc count) =
    ap (λ pages. pages ++ (start + count, w) ∷ []) (from-pages start w count) ∙ sym (from-more start w count)

pub from-long : (start : ℕ) (w : Bool) (count : ℕ) → length (from_page start w count) ≡ count
from-long start w zero = refl
from-long start w (suc count) = ap suc (from-long (start + 1) w count)
