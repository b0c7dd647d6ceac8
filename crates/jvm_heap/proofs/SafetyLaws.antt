-- What a heap promises, after a new array and after another element.
use Rattle.std.proofs.Common.{◌≡◌, ◌≢◌, ℕ, ◌-◌, ◌<◌, ◌==◌, Bool, true, false, if◌then◌else◌, List, [], ◌∷◌, ◌++◌, length, slice_index, slice_set, Option, Some, None, option_map, IsSome, unwrap_or, refl, ap, subst, sym, ◌∙◌, arith}
use Rattle.std.proofs.lemmas.Bool.{eqb-true, eqb-false}
use Rattle.std.proofs.lemmas.Option.{none-some}
use Rattle.std.proofs.lemmas.List.{get_or-set_same, get_or-set_other, length-set}
use Rattle.int_region.specs.Arrays.{Block, Contents, array_at, used_by, values_at, with_element, with_value, zeros, IsSound, IsLive}
use Rattle.int_region.proofs.ArrayLemmas.{array_at-with_value, array_at-added, array_at-added_other}
use Rattle.jvm_heap.specs.Heaps.{StandsAt, IsTable, IsSafe}
use Rattle.jvm_heap.proofs.AccessLaws.{values_of, IntsAt}
use Rattle.jvm_heap.proofs.HeapLaws.{zero_read}

-- ---- another element

stays : (arrays : List Block) (p i v q kind : ℕ) (t : Bool) → t ≡ (q == p) → StandsAt arrays q kind → (d : Block) × ((if t then option_map (with_element i v) (array_at arrays p) else array_at arrays q) ≡ Some d) × (d.kind ≡ kind)
stays arrays p i v q kind true e s =
    let same : q ≡ p = eqb-true q p (sym e) in
    (with_element i v s.block, ap (option_map (with_element i v)) (ap (array_at arrays) (sym same) ∙ s.there), s.kind_is)
stays arrays p i v q kind false e s = (s.block, s.there, s.kind_is)

pub stands_put : (arrays : List Block) (p i v q kind : ℕ) → StandsAt arrays q kind → StandsAt (with_value arrays p i v) q kind
stands_put arrays p i v q kind s =
    let d = stays arrays p i v q kind (q == p) refl s in
    record { block = d.0; there = array_at-with_value arrays p i v q ∙ d.1; kind_is = d.2 }

table_put : (arrays : List Block) (p i v : ℕ) (table : Option ℕ) → IsTable arrays table → IsTable (with_value arrays p i v) table
table_put arrays p i v None s = tt
table_put arrays p i v (Some q) s = stands_put arrays p i v q 1 s

-- an element of the changed array
element_of : (arrays : List Block) (p i v j : ℕ) (b : Block) (t : Bool) → t ≡ (j == i) → i < length b.values → (v ≢ 0 → StandsAt arrays (v - 1) 0) → (slice_index b.values j ≢ 0 → StandsAt arrays (slice_index b.values j - 1) 0) → slice_index (slice_set b.values i v) j ≢ 0 → StandsAt arrays (slice_index (slice_set b.values i v) j - 1) 0
element_of arrays p i v j b true e within new old some =
    let is : slice_index (slice_set b.values i v) j ≡ v = ap (slice_index (slice_set b.values i v)) (eqb-true j i (sym e)) ∙ get_or-set_same b.values i v 0 within in
    subst (λ n. StandsAt arrays (n - 1) 0) (sym is) (new (λ z. some (is ∙ z)))
element_of arrays p i v j b false e within new old some =
    let is : slice_index (slice_set b.values i v) j ≡ slice_index b.values j = get_or-set_other b.values i j v 0 (eqb-false j i (sym e)) in
    subst (λ n. StandsAt arrays (n - 1) 0) (sym is) (old (λ z. some (is ∙ z)))

changed : (arrays : List Block) (p i v q j : ℕ) (b c : Block) (t : Bool) → ((p j : ℕ) (b : Block) → array_at arrays p ≡ Some b → b.kind ≡ 1 → j < length b.values → slice_index b.values j ≢ 0 → StandsAt arrays (slice_index b.values j - 1) 0) → array_at arrays p ≡ Some b → i < length b.values → (b.kind ≡ 1 → v ≢ 0 → StandsAt arrays (v - 1) 0) → (if t then option_map (with_element i v) (array_at arrays p) else array_at arrays q) ≡ Some c → c.kind ≡ 1 → j < length c.values → slice_index c.values j ≢ 0 → StandsAt arrays (slice_index c.values j - 1) 0
changed arrays p i v q j b c true elements is within new made kind inside some =
    let e : with_element i v b ≡ c = ap (λ o. unwrap_or o c) (sym (ap (option_map (with_element i v)) is) ∙ made) in
    let kind_b : b.kind ≡ 1 = ap (λ (x : Block). x.kind) e ∙ kind in
    let values : slice_set b.values i v ≡ c.values = ap (λ (x : Block). x.values) e in
    let inside_b : j < length b.values = omega (arith, inside, ap length values, length-set b.values i v) in
    let some_b : slice_index (slice_set b.values i v) j ≢ 0 = λ z. some (ap (λ (xs : List ℕ). slice_index xs j) (sym values) ∙ z) in
    subst (λ (xs : List ℕ). StandsAt arrays (slice_index xs j - 1) 0) values (element_of arrays p i v j b (j == i) refl within (new kind_b) (elements p j b is kind_b inside_b) some_b)
changed arrays p i v q j b c false elements is within new made kind inside some = elements q j c made kind inside some

pub safe_put : (region after : Contents) (readable writable : Option ℕ) (p i v : ℕ) (b : Block) → IsSafe region readable writable → IsSound after → after.arrays ≡ with_value region.arrays p i v → array_at region.arrays p ≡ Some b → i < length b.values → (b.kind ≡ 1 → v ≢ 0 → StandsAt region.arrays (v - 1) 0) → IsSafe after readable writable
safe_put region after readable writable p i v b safe sound made is within new =
    let stands : (q kind : ℕ) → StandsAt region.arrays q kind → StandsAt after.arrays q kind = λ q kind s. subst (λ (arrays : List Block). StandsAt arrays q kind) (sym made) (stands_put region.arrays p i v q kind s) in
    record {
      sound = sound;
      elements = λ q j c there kind inside some. stands (slice_index c.values j - 1) 0 (changed region.arrays p i v q j b c (q == p) safe.elements is within new (sym (array_at-with_value region.arrays p i v q) ∙ ap (λ (arrays : List Block). array_at arrays q) (sym made) ∙ there) kind inside some);
      reads = subst (λ (arrays : List Block). IsTable arrays readable) (sym made) (table_put region.arrays p i v readable safe.reads);
      writes = subst (λ (arrays : List Block). IsTable arrays writable) (sym made) (table_put region.arrays p i v writable safe.writes);
    }

-- ---- a new array

live_of : (arrays : List Block) (q kind : ℕ) → StandsAt arrays q kind → IsLive arrays q
live_of arrays q kind s = subst (λ (o : Option Block). IsSome o) (sym s.there) refl

stands_more : (arrays : List Block) (b : Block) (q kind : ℕ) → StandsAt arrays q kind → StandsAt (arrays ++ b ∷ []) q kind
stands_more arrays b q kind s =
    record { block = s.block; there = array_at-added_other arrays b q (live_of arrays q kind s) ∙ s.there; kind_is = s.kind_is }

table_more : (arrays : List Block) (b : Block) (table : Option ℕ) → IsTable arrays table → IsTable (arrays ++ b ∷ []) table
table_more arrays b None s = tt
table_more arrays b (Some q) s = stands_more arrays b q 1 s

added : (arrays : List Block) (kind size q j : ℕ) (c : Block) (t : Bool) → ((p j : ℕ) (b : Block) → array_at arrays p ≡ Some b → b.kind ≡ 1 → j < length b.values → slice_index b.values j ≢ 0 → StandsAt arrays (slice_index b.values j - 1) 0) → (if t then Some (zeros kind size) else array_at arrays q) ≡ Some c → c.kind ≡ 1 → j < length c.values → slice_index c.values j ≢ 0 → StandsAt arrays (slice_index c.values j - 1) 0
added arrays kind size q j c true elements made is inside some =
    let e : zeros kind size ≡ c = ap (λ o. unwrap_or o c) made in
    absurd (some (ap (λ (x : Block). slice_index x.values j) (sym e) ∙ zero_read size j))
added arrays kind size q j c false elements made is inside some = elements q j c made is inside some

pub safe_new : (region after : Contents) (readable writable : Option ℕ) (kind size : ℕ) → IsSafe region readable writable → IsSound after → after.arrays ≡ region.arrays ++ zeros kind size ∷ [] → IsSafe after readable writable
safe_new region after readable writable kind size safe sound made =
    let b = zeros kind size in
    let stands : (q k : ℕ) → StandsAt region.arrays q k → StandsAt after.arrays q k = λ q k s. subst (λ (arrays : List Block). StandsAt arrays q k) (sym made) (stands_more region.arrays b q k s) in
    record {
      sound = sound;
      elements = λ q j c there is inside some. stands (slice_index c.values j - 1) 0 (added region.arrays kind size q j c (q == used_by region.arrays) safe.elements (sym (array_at-added region.arrays b q) ∙ ap (λ (arrays : List Block). array_at arrays q) (sym made) ∙ there) is inside some);
      reads = subst (λ (arrays : List Block). IsTable arrays readable) (sym made) (table_more region.arrays b readable safe.reads);
      writes = subst (λ (arrays : List Block). IsTable arrays writable) (sym made) (table_more region.arrays b writable safe.writes);
    }

-- no arrays
pub safe_none : (region : Contents) → IsSound region → region.arrays ≡ [] → IsSafe region None None
safe_none region sound none =
    record {
      sound = sound;
      elements = λ q j c there is inside some. absurd (none-some c (sym (ap (λ (arrays : List Block). array_at arrays q) none) ∙ there));
      reads = tt;
      writes = tt;
    }

-- an int is put into an array of ints
pub safe_int : (region after : Contents) (readable writable : Option ℕ) (p i v : ℕ) → IntsAt region.arrays p → IsSafe region readable writable → IsSound after → i < length (values_at region.arrays p) → after.arrays ≡ with_value region.arrays p i v → IsSafe after readable writable
safe_int region after readable writable p i v s safe sound h made =
    safe_put region after readable writable p i v s.block safe sound made s.there (subst (λ (values : List ℕ). i < length values) (values_of region.arrays p s.block s.there) h)
    (λ kind. absurd (omega (arith, kind, s.kind)))
