use Rattle.std.proofs.Common.{◌≡◌, ◌≢◌, ℕ, ◌+◌, ◌-◌, ◌<◌, ◌≤◌, ◌%◌, ◌^◌, ◌&&◌, ◌∷◌, [], List, IsSome, slice_index_or, length, subst, ap, sym, ◌∙◌, true, false, Bool, ◌==◌, if◌then◌else◌, Option, Some, None, option_map, refl, arith}
use Rattle.nv_values.specs.RegionWords.{most_region_words}
use Rattle.jvm_definition.specs.declared.array_name.ArrayName.TheVariants.{Aastore}
use Rattle.jvm_definition.specs.declared.instruction.Instruction.TheVariants as instructions
use Rattle.jvm_definition.specs.declared.value.Value.{Value}
use Rattle.jvm_definition.specs.declared.value.Value.TheVariants.{Unset as unset, Int as int, Long as long, Null as null, Array as array, Text as text}
use Rattle.jvm_definition.specs.Values.{is_int, is_ints_reference, is_pages_reference}
use Rattle.int_region.specs.Arrays.{Block, Contents, IsSound, used_by, array_at, IsLive, with_value, with_element, values_at, kind_at, kind_in}
use Rattle.int_region.proofs.ArrayLemmas.{used_by-with_value, array_at-with_value, live_within, there}
use Rattle.jvm_activations.specs.Stack.{on_top}
use Rattle.jvm_heap.specs.Heaps.{IsSafe, StandsAt}
use Rattle.jvm_heap.proofs.SafetyLaws.{safe_put}
use Rattle.jvm_heap.specs.Regions.{heap_of, element_word}
use Rattle.jvm_heap.specs.HeapForms.{Does}
use Rattle.jvm_heap.proofs.AccessLaws.{null_stored, page_stored, does_by, ints_at, pages_at, values_of, PagesAt, IntsAt}
use Rattle.jvm_heap.proofs.access.store_page.Goals as goal

abbrev tests : List Block → List Value → Bool
tests arrays operands =
    on_top (is_ints_reference (heap_of arrays) ∷ is_int ∷ is_pages_reference (heap_of arrays) ∷ []) operands

second : (a b : Bool) → (a && b) ≡ true → b ≡ true
second true b h = h
second false b h = let bad : false ≡ true = h in absurd cc

first : (a b : Bool) → (a && b) ≡ true → (a && true) ≡ true
first true b h = refl
first false b h = h

word_is : (q : ℕ) → q + 2 ≤ most_region_words → (q + 1) % 2 ^ 32 ≡ q + 1
word_is q h = omega arith

-- a reference was stored in an array of arrays
put_page : (arrays : List Block) (words i place : ℕ) (page : Value) (rest : List Value) → used_by arrays ≤ most_region_words → kind_at arrays place < 2 → tests arrays (page ∷ int i ∷ array place ∷ rest) ≡ true → i < length (values_at arrays place) → Does words (instructions.Array Aastore) (page ∷ int i ∷ array place ∷ rest) (heap_of arrays) rest (heap_of (with_value arrays place i (element_word page)))
put_page arrays words i place null rest small few fits within =
    let found : PagesAt arrays place = pages_at arrays place few fits in
    let inside : i < length found.block.values = subst (λ (values : List ℕ). i < length values) (values_of arrays place found.block found.there) within in
    null_stored arrays words place i rest found.block found.there found.kind inside
put_page arrays words i place (array q) rest small few fits within =
    let found : PagesAt arrays place = pages_at arrays place few (second (is_ints_reference (heap_of arrays) (array q)) (is_pages_reference (heap_of arrays) (array place) && true) fits) in
    let page : IntsAt arrays q = ints_at arrays q (first (is_ints_reference (heap_of arrays) (array q)) (is_pages_reference (heap_of arrays) (array place) && true) fits) in
    let inside : i < length found.block.values = subst (λ (values : List ℕ). i < length values) (values_of arrays place found.block found.there) within in
    let live : IsLive arrays q = subst (λ (o : Option Block). IsSome o) (sym page.there) refl in
    let bound : q + 2 ≤ most_region_words = omega (arith, small, live_within arrays q live) in
    does_by words (instructions.Array Aastore) (array q ∷ int i ∷ array place ∷ rest) (array q ∷ int i ∷ array place ∷ rest) rest rest (heap_of arrays) (heap_of (with_value arrays place i ((q + 1) % 2 ^ 32))) (heap_of (with_value arrays place i (q + 1))) refl refl
    (ap (λ w. heap_of (with_value arrays place i w)) (sym (word_is q bound)))
    (page_stored arrays words place i q rest found.block page.block found.there found.kind inside page.there page.kind)
put_page arrays words i place unset rest small few fits within = let bad : false ≡ true = fits in absurd cc
put_page arrays words i place (int n) rest small few fits within = let bad : false ≡ true = fits in absurd cc
put_page arrays words i place (long n) rest small few fits within = let bad : false ≡ true = fits in absurd cc
put_page arrays words i place (text k n) rest small few fits within = let bad : false ≡ true = fits in absurd cc

kind_by : (o : Option Block) (i w : ℕ) (t : Bool) → kind_in (if t then option_map (with_element i w) o else o) ≡ kind_in o
kind_by None i w true = refl
kind_by (Some b) i w true = refl
kind_by o i w false = refl

kind_kept : (arrays more : List Block) (place i w : ℕ) → more ≡ with_value arrays place i w → kind_at more place ≡ kind_at arrays place
kind_kept arrays more place i w made =
    ap (λ a. kind_at a place) made
    ∙ ap kind_in (array_at-with_value arrays place i w place)
    ∙ kind_by (array_at arrays place) i w (place == place)

stored : (arrays more : List Block) (words i place w : ℕ) (page v top : Value) (old one two rest : List Value) → IsSound (record { size = words; arrays = more }) → old ≡ page ∷ one → one ≡ int i ∷ two → two ≡ v ∷ rest → top ≡ slice_index_or two 0 unset → top ≡ array place → tests arrays old ≡ true → i < length (values_at arrays place) → w ≡ element_word page → more ≡ with_value arrays place i w → Does words (instructions.Array Aastore) old (heap_of arrays) rest (heap_of more)
stored arrays more words i place w page v top old one two rest sound e f g peeked is fits within word made =
    let uppermost : v ≡ array place = ap (λ items. slice_index_or items 0 unset) (sym g) ∙ sym peeked ∙ is in
    let all : old ≡ page ∷ int i ∷ array place ∷ rest = e ∙ ap (λ items. page ∷ items) (f ∙ ap (λ items. int i ∷ items) (g ∙ ap (λ u. u ∷ rest) uppermost)) in
    let same : used_by more ≡ used_by arrays = ap used_by made ∙ used_by-with_value arrays place i w in
    let small : used_by arrays ≤ most_region_words = omega (arith, same, sound.within, sound.few) in
    let made_by : with_value arrays place i (element_word page) ≡ more = ap (with_value arrays place i) (sym word) ∙ sym made in
    let few : kind_at arrays place < 2 = omega (arith, sound.kinds place, kind_kept arrays more place i w made) in
    does_by words (instructions.Array Aastore) old (page ∷ int i ∷ array place ∷ rest) rest rest (heap_of arrays) (heap_of more) (heap_of (with_value arrays place i (element_word page))) all refl (ap heap_of made_by)
    (put_page arrays words i place page rest small few (ap (tests arrays) (sym all) ∙ fits) within)

pub returns-clause-ok : goal.returns-clause-ok
returns-clause-ok c =
    stored c.args.region.now.arrays c.put.new.self.arrays c.args.region.now.size c.pop_int-i.result c.in-Array.place c.element.result c.pop-page.result c.pop.result c.peek.result c.args.operands.now.items c.pop-page.new.self.items c.pop_int-i.new.self.items c.pop.new.self.items
    (subst (λ n. IsSound (record { size = n; arrays = c.put.new.self.arrays })) (ap (λ (r : Contents). r.size) c.put.ensures.changed) c.put.ensures.sound)
    c.pop-page.ensures.popped
    c.pop_int-i.ensures.popped
    c.pop.ensures.popped
    c.peek.ensures
    c.in-Array.is
    c.requires
    (subst (λ m. c.pop_int-i.result < m) c.len.ensures c.if-len-i.false)
    c.element.ensures
    (ap (λ (r : Contents). r.arrays) c.put.ensures.changed)

-- what is stored is null or an array of ints
element_stands : (arrays : List Block) (page : Value) (rest : List Value) (i place : ℕ) → used_by arrays ≤ most_region_words → tests arrays (page ∷ int i ∷ array place ∷ rest) ≡ true → element_word page ≢ 0 → StandsAt arrays (element_word page - 1) 0
element_stands arrays null rest i place small fits some = absurd (some refl)
element_stands arrays (array q) rest i place small fits some =
    let page : IntsAt arrays q = ints_at arrays q (first (is_ints_reference (heap_of arrays) (array q)) (is_pages_reference (heap_of arrays) (array place) && true) fits) in
    let live : IsLive arrays q = subst (λ (o : Option Block). IsSome o) (sym page.there) refl in
    let bound : q + 2 ≤ most_region_words = omega (arith, small, live_within arrays q live) in
    let back : q ≡ (q + 1) % 2 ^ 32 - 1 = omega (arith, word_is q bound) in
    subst (λ n. StandsAt arrays n 0) back (record { block = page.block; there = page.there; kind_is = page.kind })
element_stands arrays unset rest i place small fits some = absurd (some refl)
element_stands arrays (int n) rest i place small fits some = absurd (some refl)
element_stands arrays (long n) rest i place small fits some = absurd (some refl)
element_stands arrays (text k n) rest i place small fits some = absurd (some refl)

safe_page : (region after : Contents) (readable writable : Option ℕ) (p i v : ℕ) (page top w : Value) (old one two rest : List Value) → IsSafe region readable writable → IsSound after → i < length (values_at region.arrays p) → old ≡ page ∷ one → one ≡ int i ∷ two → two ≡ w ∷ rest → top ≡ slice_index_or two 0 unset → top ≡ array p → tests region.arrays old ≡ true → v ≡ element_word page → after.arrays ≡ with_value region.arrays p i v → IsSafe after readable writable
safe_page region after readable writable p i v page top w old one two rest safe sound h e f g peeked is fits word made =
    let uppermost : w ≡ array p = ap (λ items. slice_index_or items 0 unset) (sym g) ∙ sym peeked ∙ is in
    let all : old ≡ page ∷ int i ∷ array p ∷ rest = e ∙ ap (λ items. page ∷ items) (f ∙ ap (λ items. int i ∷ items) (g ∙ ap (λ u. u ∷ rest) uppermost)) in
    let small : used_by region.arrays ≤ most_region_words = omega (arith, safe.sound.within, safe.sound.few) in
    let stands : v ≢ 0 → StandsAt region.arrays (v - 1) 0 = λ some. subst (λ n. StandsAt region.arrays (n - 1) 0) (sym word) (element_stands region.arrays page rest i p small (ap (tests region.arrays) (sym all) ∙ fits) (λ z. some (word ∙ z))) in
    let fits_all : tests region.arrays (page ∷ int i ∷ array p ∷ rest) ≡ true = ap (tests region.arrays) (sym all) ∙ fits in
    let table : PagesAt region.arrays p = pages_at region.arrays p (safe.sound.kinds p) (second (is_ints_reference (heap_of region.arrays) page) (is_pages_reference (heap_of region.arrays) (array p) && true) fits_all) in
    let live : IsLive region.arrays p = subst (λ (o : Option Block). IsSome o) (sym table.there) refl in
    safe_put region after readable writable p i v (record { kind = kind_at region.arrays p; values = values_at region.arrays p }) safe sound made (there region.arrays p live) h
    (λ kind. stands)

pub returns-clause-safe : goal.returns-clause-safe
returns-clause-safe c readable writable safe =
    safe_page c.args.region.now c.put.new.self readable writable c.in-Array.place c.pop_int-i.result c.element.result c.pop-page.result c.peek.result c.pop.result c.args.operands.now.items c.pop-page.new.self.items c.pop_int-i.new.self.items c.pop.new.self.items safe c.put.ensures.sound
    (subst (λ m. c.pop_int-i.result < m) c.len.ensures c.if-len-i.false)
    c.pop-page.ensures.popped
    c.pop_int-i.ensures.popped
    c.pop.ensures.popped
    c.peek.ensures
    c.in-Array.is
    c.requires
    c.element.ensures
    (ap (λ (r : Contents). r.arrays) c.put.ensures.changed)
