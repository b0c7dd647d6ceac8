-- The effects of the instructions on arrays, over a region's arrays.
use Rattle.std.proofs.Common.{◌≡◌, ◌≢◌, ℕ, ◌+◌, ◌<◌, ◌≤◌, ◌^◌, nat_lt, ◌==◌, ◌&&◌, Bool, true, false, if◌then◌else◌, List, [], ◌∷◌, ◌++◌, length, slice_index, Option, Some, None, option_map, refl, ap, sym, subst, ◌∙◌, arith}
use Rattle.std.proofs.lemmas.Bool.{lt-ltb, le-ltb, le-leb, lt-leb, eqb-true, eqb-false}
use Rattle.jvm_definition.specs.declared.array_name.ArrayName.TheVariants.{Iastore, Aastore}
use Rattle.jvm_definition.specs.declared.array_kind.ArrayKind.{ArrayKind}
use Rattle.jvm_definition.specs.declared.instruction.Instruction.{Instruction}
use Rattle.jvm_definition.specs.declared.instruction.Instruction.TheVariants as instructions
use Rattle.jvm_definition.specs.declared.value.Value.{Value}
use Rattle.jvm_definition.specs.declared.value.Value.TheVariants.{Int as int, Null as null, Array as array}
use Rattle.jvm_definition.specs.Values.{Array, ints, pages, Heap, is_ints, is_ints_reference, is_pages, is_pages_reference, new_array, with_new, with_int, with_page}
use Rattle.jvm_definition.specs.Effect.{Workspace, InstructionEffect, goes_on, traps, wrong, index_trap, size_trap, room_trap, instruction_effect, workspace_with_heap, as_ints, as_pages, within}
use Rattle.int_region.specs.Arrays.{Block, used_by, array_at, with_value, zeros, values_at, values_in, kind_at, kind_in}
use Rattle.jvm_heap.specs.Regions.{place_of, value_of, kind_of, array_of, heap_of}
use Rattle.jvm_heap.specs.HeapForms.{Does, Traps}
use Rattle.jvm_heap.proofs.HeapLaws.{ints_of, pages_of, heap_put_int, heap_put_page, heap_new}

-- the array at a place, by its kind
found_ints : (arrays : List Block) (p : ℕ) (b : Block) → array_at arrays p ≡ Some b → b.kind ≡ 0 → option_map array_of (array_at arrays p) ≡ Some (ints (length b.values) (λ i. slice_index b.values i))
found_ints arrays p b is e = ap (option_map array_of) is ∙ ap Some (ints_of b e)

found_pages : (arrays : List Block) (p : ℕ) (b : Block) → array_at arrays p ≡ Some b → b.kind ≡ 1 → option_map array_of (array_at arrays p) ≡ Some (pages (length b.values) (λ i. place_of (slice_index b.values i)))
found_pages arrays p b is e = ap (option_map array_of) is ∙ ap Some (pages_of b e)

inside : (i size : ℕ) (e : InstructionEffect) → i < size → within i size e ≡ e
inside i size e h = ap (λ t. if t then e else traps index_trap) (lt-ltb i size h)

outside : (i size : ℕ) (e : InstructionEffect) → size ≤ i → within i size e ≡ traps index_trap
outside i size e h = ap (λ t. if t then e else traps index_trap) (le-ltb i size h)

pub int_stored : (arrays : List Block) (words p i n : ℕ) (rest : List Value) (b : Block) → array_at arrays p ≡ Some b → b.kind ≡ 0 → i < length b.values → Does words (instructions.Array Iastore) (int n ∷ int i ∷ array p ∷ rest) (heap_of arrays) rest (heap_of (with_value arrays p i n))
int_stored arrays words p i n rest b is e h program w =
    let done = goes_on (workspace_with_heap w rest (with_int (heap_of arrays) p i n)) in
    ap (λ a. as_ints a (λ size f. within i size done)) (found_ints arrays p b is e)
    ∙ inside i (length b.values) done h
    ∙ ap (λ heap. goes_on (workspace_with_heap w rest heap)) (sym (heap_put_int arrays p i n b is e h))

page_put : (arrays : List Block) (words p i : ℕ) (element : Option ℕ) (rest : List Value) (b : Block) (w : Workspace) → array_at arrays p ≡ Some b → b.kind ≡ 1 → i < length b.values → as_pages (option_map array_of (array_at arrays p)) (λ size f. within i size (goes_on (workspace_with_heap w rest (with_page (heap_of arrays) p i element)))) ≡ goes_on (workspace_with_heap w rest (heap_of (with_value arrays p i (value_of element))))
page_put arrays words p i element rest b w is e h =
    let done = goes_on (workspace_with_heap w rest (with_page (heap_of arrays) p i element)) in
    ap (λ a. as_pages a (λ size f. within i size done)) (found_pages arrays p b is e)
    ∙ inside i (length b.values) done h
    ∙ ap (λ heap. goes_on (workspace_with_heap w rest heap)) (sym (heap_put_page arrays p i element b is e h))

pub null_stored : (arrays : List Block) (words p i : ℕ) (rest : List Value) (b : Block) → array_at arrays p ≡ Some b → b.kind ≡ 1 → i < length b.values → Does words (instructions.Array Aastore) (null ∷ int i ∷ array p ∷ rest) (heap_of arrays) rest (heap_of (with_value arrays p i 0))
null_stored arrays words p i rest b is e h program w = page_put arrays words p i None rest b w is e h

pub page_stored : (arrays : List Block) (words p i q : ℕ) (rest : List Value) (b c : Block) → array_at arrays p ≡ Some b → b.kind ≡ 1 → i < length b.values → array_at arrays q ≡ Some c → c.kind ≡ 0 → Does words (instructions.Array Aastore) (array q ∷ int i ∷ array p ∷ rest) (heap_of arrays) rest (heap_of (with_value arrays p i (q + 1)))
page_stored arrays words p i q rest b c is e h there kind program w =
    let put = λ (element : Option ℕ). as_pages (option_map array_of (array_at arrays p)) (λ size f. within i size (goes_on (workspace_with_heap w rest (with_page (heap_of arrays) p i element)))) in
    ap (λ o. if is_ints o then put (Some q) else wrong) (found_ints arrays q c there kind)
    ∙ page_put arrays words p i (Some q) rest b w is e h

-- ---- lengths and new arrays

allocation : (arrays : List Block) (kind : ArrayKind) (size : ℕ) (rest : List Value) (w : Workspace) → Bool → Bool → InstructionEffect
allocation arrays kind size rest w too_large no_room =
    if too_large then traps size_trap else if no_room then traps room_trap
    else goes_on (workspace_with_heap w (array (used_by arrays) ∷ rest) (with_new (heap_of arrays) (new_array kind size)))

pub allocated : (arrays : List Block) (words size : ℕ) (kind : ArrayKind) (rest : List Value) → size < 2 ^ 31 → used_by arrays + size + 2 ≤ words → Does words (instructions.NewArray kind) (int size ∷ rest) (heap_of arrays) (array (used_by arrays) ∷ rest) (heap_of (arrays ++ zeros (kind_of kind) size ∷ []))
unfolding allocation
allocated arrays words size kind rest small room program w =
    ap (λ t. allocation arrays kind size rest w t (nat_lt words (used_by arrays + size + 2))) (lt-leb (2 ^ 31) size small)
    ∙ ap (allocation arrays kind size rest w false) (le-ltb words (used_by arrays + size + 2) room)
    ∙ ap (λ heap. goes_on (workspace_with_heap w (array (used_by arrays) ∷ rest) heap)) (sym (heap_new arrays kind size))

pub too_large : (arrays : List Block) (words size : ℕ) (kind : ArrayKind) (rest : List Value) → 2 ^ 31 ≤ size → Traps words (instructions.NewArray kind) (int size ∷ rest) (heap_of arrays) size_trap
unfolding allocation
too_large arrays words size kind rest large program w =
    ap (λ t. allocation arrays kind size rest w t (nat_lt words (used_by arrays + size + 2))) (le-leb (2 ^ 31) size large)

pub no_room : (arrays : List Block) (words size : ℕ) (kind : ArrayKind) (rest : List Value) → size < 2 ^ 31 → words < used_by arrays + size + 2 → Traps words (instructions.NewArray kind) (int size ∷ rest) (heap_of arrays) room_trap
unfolding allocation
no_room arrays words size kind rest small none program w =
    ap (λ t. allocation arrays kind size rest w t (nat_lt words (used_by arrays + size + 2))) (lt-leb (2 ^ 31) size small)
    ∙ ap (allocation arrays kind size rest w false) (lt-ltb words (used_by arrays + size + 2) none)

-- ---- along equations

pub does_by : (words : ℕ) (i : Instruction) (old given new left : List Value) (heap after made : Heap) → old ≡ given → left ≡ new → made ≡ after → Does words i given heap left made → Does words i old heap new after
does_by words i old given new left heap after made e f g does program w =
    ap (λ operands. instruction_effect program words i (workspace_with_heap w operands heap)) e
    ∙ does program w
    ∙ (λ j. goes_on (workspace_with_heap w (f j) (g j)))

-- ---- what operands are arrays

-- the array at a place, which is one of ints
pub record IntsAt (arrays : List Block) (p : ℕ) : Type 0 where
  pub block : Block
  pub there : array_at arrays p ≡ Some block
  pub kind : block.kind ≡ 0

pub record PagesAt (arrays : List Block) (p : ℕ) : Type 0 where
  pub block : Block
  pub there : array_at arrays p ≡ Some block
  pub kind : block.kind ≡ 1

abbrev array_by : Block → Bool → Array
array_by b t = if t then ints (length b.values) (λ i. slice_index b.values i) else pages (length b.values) (λ i. place_of (slice_index b.values i))

kind_of_ints : (b : Block) (t : Bool) → t ≡ (b.kind == 0) → (is_ints (Some (array_by b t)) && true) ≡ true → b.kind ≡ 0
kind_of_ints b true e h = eqb-true b.kind 0 (sym e)
kind_of_ints b false e h = let bad : false ≡ true = h in absurd cc

ints_found : (arrays : List Block) (p : ℕ) (o : Option Block) → array_at arrays p ≡ o → (is_ints (option_map array_of o) && true) ≡ true → IntsAt arrays p
ints_found arrays p None e h = let bad : false ≡ true = h in absurd cc
ints_found arrays p (Some b) e h = record { block = b; there = e; kind = kind_of_ints b (b.kind == 0) refl h }

pub ints_at : (arrays : List Block) (p : ℕ) → (is_ints_reference (heap_of arrays) (array p) && true) ≡ true → IntsAt arrays p
ints_at arrays p h = ints_found arrays p (array_at arrays p) refl h

pub values_of : (arrays : List Block) (p : ℕ) (b : Block) → array_at arrays p ≡ Some b → values_at arrays p ≡ b.values
values_of arrays p b is = ap values_in is

-- an int is put into the array that a value is
pub int_put : (arrays more : List Block) (words n i place : ℕ) (v : Value) → v ≡ array place → (is_ints_reference (heap_of arrays) v && true) ≡ true → i < length (values_at arrays place) → more ≡ with_value arrays place i n → (others : List Value) → Does words (instructions.Array Iastore) (int n ∷ int i ∷ v ∷ others) (heap_of arrays) others (heap_of more)
int_put arrays more words n i place v is fits within made others =
    let found = ints_at arrays place (subst (λ u. (is_ints_reference (heap_of arrays) u && true) ≡ true) is fits) in
    let inside : i < length found.block.values = subst (λ (values : List ℕ). i < length values) (values_of arrays place found.block found.there) within in
    does_by words (instructions.Array Iastore) (int n ∷ int i ∷ v ∷ others) (int n ∷ int i ∷ array place ∷ others) others others (heap_of arrays) (heap_of more) (heap_of (with_value arrays place i n)) (ap (λ u. int n ∷ int i ∷ u ∷ others) is) refl (ap heap_of (sym made))
    (int_stored arrays words place i n others found.block found.there found.kind inside)

kind_of_pages : (b : Block) (t : Bool) → t ≡ (b.kind == 0) → b.kind < 2 → (is_pages (Some (array_by b t)) && true) ≡ true → b.kind ≡ 1
kind_of_pages b true e few h = let bad : false ≡ true = h in absurd cc
kind_of_pages b false e few h = let other : b.kind ≢ 0 = eqb-false b.kind 0 (sym e) in omega (arith, few, other)

pages_found : (arrays : List Block) (p : ℕ) (o : Option Block) → kind_in o < 2 → array_at arrays p ≡ o → (is_pages (option_map array_of o) && true) ≡ true → PagesAt arrays p
pages_found arrays p None few e h = let bad : false ≡ true = h in absurd cc
pages_found arrays p (Some b) few e h = record { block = b; there = e; kind = kind_of_pages b (b.kind == 0) refl few h }

pub pages_at : (arrays : List Block) (p : ℕ) → kind_at arrays p < 2 → (is_pages_reference (heap_of arrays) (array p) && true) ≡ true → PagesAt arrays p
pages_at arrays p few h = pages_found arrays p (array_at arrays p) few refl h
