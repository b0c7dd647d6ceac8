-- How the definition's heap changes with a region's arrays.
use Rattle.std.proofs.Common.{◌≡◌, ◌≢◌, ℕ, zero, suc, ◌+◌, ◌-◌, ◌<◌, ◌==◌, Bool, true, false, if◌then◌else◌, List, [], ◌∷◌, ◌++◌, length, slice_index, slice_set, replicate, Option, Some, None, option_map, refl, ap, sym, ◌∙◌, arith, add_assoc}
use Rattle.std.proofs.lemmas.Bool.{eqb-true, eq-eqb, ne_eqb, eqb-false}
use Rattle.std.proofs.lemmas.List.{get_or-set_same, get_or-set_other, length-set, length-replicate}
use Rattle.jvm_definition.specs.declared.array_kind.ArrayKind.{ArrayKind}
use Rattle.jvm_definition.specs.declared.array_kind.ArrayKind.TheVariants as array_kinds
use Rattle.jvm_definition.specs.Values.{Array, ints, pages, array_length, new_array, with_new, set_int, set_page, with_int, with_page}
use Rattle.int_region.specs.Arrays.{Block, used_by, array_at, with_element, with_value, zeros}
use Rattle.int_region.proofs.ArrayLemmas.{used_by-with_value, used_by-added, array_at-with_value, array_at-added}
use Rattle.jvm_heap.specs.Regions.{place_of, value_of, kind_of, array_of, heap_of}

-- ---- an array by its kind

pub ints_of : (b : Block) → b.kind ≡ 0 → array_of b ≡ ints (length b.values) (λ i. slice_index b.values i)
ints_of b e =
    ap (λ t. if t then ints (length b.values) (λ i. slice_index b.values i) else pages (length b.values) (λ i. place_of (slice_index b.values i))) (eq-eqb b.kind 0 e)

pub pages_of : (b : Block) → b.kind ≡ 1 → array_of b ≡ pages (length b.values) (λ i. place_of (slice_index b.values i))
pages_of b e =
    let other : b.kind ≢ 0 = λ z. omega (arith, e, z) in
    ap (λ t. if t then ints (length b.values) (λ i. slice_index b.values i) else pages (length b.values) (λ i. place_of (slice_index b.values i))) (ne_eqb b.kind 0 other)

pub place_of_value : (p : Option ℕ) → place_of (value_of p) ≡ p
place_of_value None = refl
place_of_value (Some p) =
    let other : p + 1 ≢ 0 = λ z. omega (arith, z) in
    let back : p + 1 - 1 ≡ p = omega arith in
    ap (λ t. if t then None else Some (p + 1 - 1)) (ne_eqb (p + 1) 0 other) ∙ ap Some back

-- ---- another element

value_written : (values : List ℕ) (i k v : ℕ) (b : Bool) → b ≡ (k == i) → i < length values → slice_index (slice_set values i v) k ≡ (if b then v else slice_index values k)
value_written values i k v true e within =
    ap (slice_index (slice_set values i v)) (eqb-true k i (sym e)) ∙ get_or-set_same values i v 0 within
value_written values i k v false e within = get_or-set_other values i k v 0 (eqb-false k i (sym e))

place_written : (b : Bool) (v n : ℕ) → place_of (if b then v else n) ≡ (if b then place_of v else place_of n)
place_written true v n = refl
place_written false v n = refl

pub int_written : (b : Block) (i v : ℕ) → b.kind ≡ 0 → i < length b.values → Some (array_of (with_element i v b)) ≡ set_int (Some (array_of b)) i v
int_written b i v e within =
    ap Some (ints_of (with_element i v b) e)
    ∙ (λ j. Some (ints (length-set b.values i v j) (λ k. value_written b.values i k v (k == i) refl within j)))
    ∙ ap (λ a. set_int (Some a) i v) (sym (ints_of b e))

pub page_written : (b : Block) (i : ℕ) (p : Option ℕ) → b.kind ≡ 1 → i < length b.values → Some (array_of (with_element i (value_of p) b)) ≡ set_page (Some (array_of b)) i p
page_written b i p e within =
    let written : (k : ℕ) → place_of (slice_index (slice_set b.values i (value_of p)) k) ≡ (if k == i then p else place_of (slice_index b.values k)) = λ k. ap place_of (value_written b.values i k (value_of p) (k == i) refl within) ∙ place_written (k == i) (value_of p) (slice_index b.values k) ∙ ap (λ q. if k == i then q else place_of (slice_index b.values k)) (place_of_value p) in
    ap Some (pages_of (with_element i (value_of p) b) e)
    ∙ (λ j. Some (pages (length-set b.values i (value_of p) j) (λ k. written k j)))
    ∙ ap (λ a. set_page (Some a) i p) (sym (pages_of b e))

at_place : (arrays : List Block) (p i v q : ℕ) (b : Block) (change : Option Array → Option Array) (t : Bool) → t ≡ (q == p) → array_at arrays p ≡ Some b → Some (array_of (with_element i v b)) ≡ change (Some (array_of b)) → option_map array_of (if t then option_map (with_element i v) (array_at arrays p) else array_at arrays q) ≡ (if t then change (option_map array_of (array_at arrays q)) else option_map array_of (array_at arrays q))
at_place arrays p i v q b change true e is changed =
    ap (λ o. option_map array_of (option_map (with_element i v) o)) is
    ∙ changed
    ∙ ap (λ o. change (option_map array_of o)) (sym is ∙ ap (array_at arrays) (sym (eqb-true q p (sym e))))
at_place arrays p i v q b change false e is changed = refl

pub heap_put_int : (arrays : List Block) (p i v : ℕ) (b : Block) → array_at arrays p ≡ Some b → b.kind ≡ 0 → i < length b.values → heap_of (with_value arrays p i v) ≡ with_int (heap_of arrays) p i v
heap_put_int arrays p i v b is e within =
    let at : (q : ℕ) → option_map array_of (array_at (with_value arrays p i v) q) ≡ (if q == p then set_int (option_map array_of (array_at arrays q)) i v else option_map array_of (array_at arrays q)) = λ q. ap (option_map array_of) (array_at-with_value arrays p i v q) ∙ at_place arrays p i v q b (λ a. set_int a i v) (q == p) refl is (int_written b i v e within) in
    λ j. record { used = used_by-with_value arrays p i v j; array_at = λ q. at q j }

pub heap_put_page : (arrays : List Block) (p i : ℕ) (element : Option ℕ) (b : Block) → array_at arrays p ≡ Some b → b.kind ≡ 1 → i < length b.values → heap_of (with_value arrays p i (value_of element)) ≡ with_page (heap_of arrays) p i element
heap_put_page arrays p i element b is e within =
    let v = value_of element in
    let at : (q : ℕ) → option_map array_of (array_at (with_value arrays p i v) q) ≡ (if q == p then set_page (option_map array_of (array_at arrays q)) i element else option_map array_of (array_at arrays q)) = λ q. ap (option_map array_of) (array_at-with_value arrays p i v q) ∙ at_place arrays p i v q b (λ a. set_page a i element) (q == p) refl is (page_written b i element e within) in
    λ j. record { used = used_by-with_value arrays p i v j; array_at = λ q. at q j }

-- ---- a new array

pub zero_read : (n k : ℕ) → slice_index (replicate n 0) k ≡ 0
zero_read zero k = refl
zero_read (suc n) zero = refl
zero_read (suc n) (suc k) = zero_read n k

new_is : (kind : ArrayKind) (n : ℕ) → array_of (zeros (kind_of kind) n) ≡ new_array kind n
new_is array_kinds.Ints n = λ j. ints (length-replicate {A = ℕ} n 0 j) (λ k. zero_read n k j)
new_is array_kinds.Pages n = λ j. pages (length-replicate {A = ℕ} n 0 j) (λ k. place_of (zero_read n k j))

new_length : (kind : ArrayKind) (n : ℕ) → length (zeros (kind_of kind) n).values ≡ array_length (new_array kind n)
new_length array_kinds.Ints n = length-replicate {A = ℕ} n 0
new_length array_kinds.Pages n = length-replicate {A = ℕ} n 0

new_at : (arrays : List Block) (kind : ArrayKind) (n q : ℕ) (t : Bool) → option_map array_of (if t then Some (zeros (kind_of kind) n) else array_at arrays q) ≡ (if t then Some (new_array kind n) else option_map array_of (array_at arrays q))
new_at arrays kind n q true = ap Some (new_is kind n)
new_at arrays kind n q false = refl

pub heap_new : (arrays : List Block) (kind : ArrayKind) (n : ℕ) → heap_of (arrays ++ zeros (kind_of kind) n ∷ []) ≡ with_new (heap_of arrays) (new_array kind n)
heap_new arrays kind n =
    let size : used_by (arrays ++ zeros (kind_of kind) n ∷ []) ≡ used_by arrays + array_length (new_array kind n) + 2 = used_by-added arrays (zeros (kind_of kind) n) ∙ ap (λ m. used_by arrays + (m + 2)) (new_length kind n) ∙ sym (add_assoc (used_by arrays) (array_length (new_array kind n)) 2) in
    let at : (q : ℕ) → option_map array_of (array_at (arrays ++ zeros (kind_of kind) n ∷ []) q) ≡ (if q == used_by arrays then Some (new_array kind n) else option_map array_of (array_at arrays q)) = λ q. ap (option_map array_of) (array_at-added arrays (zeros (kind_of kind) n) q) ∙ new_at arrays kind n q (q == used_by arrays) in
    λ j. record { used = size j; array_at = λ q. at q j }
