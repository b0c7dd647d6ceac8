-- Heaps that grow, and whose arrays' elements are written: what a value is of, it stays of.
use Rattle.std.proofs.Common.{◌≡◌, ℕ, ◌+◌, ◌%◌, ◌<◌, ◌≤◌, ◌==◌, Bool, true, false, if◌then◌else◌, List, [], ◌∷◌, Option, Some, None, refl, sym, ap, ◌∙◌, true≢false, arith}
use Rattle.std.proofs.lemmas.Bool.Decides.{nat_tests}
use Rattle.run_definition.specs.Memory.{patched}
use Rattle.jvm_definition.specs.declared.array_kind.ArrayKind.{ArrayKind}
use Rattle.jvm_definition.specs.declared.array_kind.ArrayKind.TheVariants as array_kinds
use Rattle.jvm_definition.specs.declared.kind.Kind.{Kind}
use Rattle.jvm_definition.specs.declared.kind.Kind.TheVariants.{Top, Int, Long, Null, Ints, Pages, Text}
use Rattle.jvm_definition.specs.Values.{Array, ints, pages, Heap, no_arrays, array_length, is_ints, is_pages, new_array, with_new, set_int, set_page, with_int, with_page, conforms}
use Rattle.jvm_definition.specs.declared.value.Value.{Value}
use Rattle.jvm_definition.specs.declared.value.Value.TheVariants.{Array as array}
use Rattle.jvm_definition.specs.HostMemory.{HostMemory, Cell, cell_of, with_cell, with_host_byte}
use Rattle.jvm_definition.specs.Program.{Program}
use Rattle.jvm_definition_laws.specs.Safety.{Conform, HeapIsSafe, FieldsAreSafe}

-- every place of an array stays one of its kind
pub record Keeps (heap after : Heap) : Type 0 where
  pub of_ints : (p : ℕ) → is_ints (heap.array_at p) ≡ true → is_ints (after.array_at p) ≡ true
  pub of_pages : (p : ℕ) → is_pages (heap.array_at p) ≡ true → is_pages (after.array_at p) ≡ true

pub keeps_itself : (heap : Heap) → Keeps heap heap
keeps_itself heap = record { of_ints = λ p h. h; of_pages = λ p h. h }

pub keeps_on : (heap then_heap after : Heap) → Keeps heap then_heap → Keeps then_heap after → Keeps heap after
keeps_on heap then_heap after h k = record {
  of_ints = λ p e. k.of_ints p (h.of_ints p e);
  of_pages = λ p e. k.of_pages p (h.of_pages p e);
}

-- ---- values

pub conforms_kept : (heap after : Heap) → Keeps heap after → (k : Kind) (v : Value) → conforms heap k v ≡ true → conforms after k v ≡ true
conforms_kept heap after keeps Top v c = refl
conforms_kept heap after keeps Int v c = c
conforms_kept heap after keeps Long v c = c
conforms_kept heap after keeps Null v c = c
conforms_kept heap after keeps Ints (array p) c = keeps.of_ints p c
conforms_kept heap after keeps Ints _ c = c
conforms_kept heap after keeps Pages (array p) c = keeps.of_pages p c
conforms_kept heap after keeps Pages _ c = c
conforms_kept heap after keeps Text v c = c

pub Conform-kept : (heap after : Heap) → Keeps heap after → (kinds : List Kind) (values : List Value) → Conform heap kinds values → Conform after kinds values
Conform-kept heap after keeps [] [] c = c
Conform-kept heap after keeps [] (v ∷ values) c = c
Conform-kept heap after keeps (k ∷ kinds) [] c = c
Conform-kept heap after keeps (k ∷ kinds) (v ∷ values) c =
    (conforms_kept heap after keeps k v c.0, Conform-kept heap after keeps kinds values c.1)

pub fields_kept : (program : Program) (heap after : Heap) (fields : ℕ → Value) → Keeps heap after → FieldsAreSafe program heap fields → FieldsAreSafe program after fields
fields_kept program heap after fields keeps h f kind e =
    conforms_kept heap after keeps kind (fields f) (h f kind e)

-- ---- heaps

-- a heap that follows a safe one
pub record Continues (heap after : Heap) : Type 0 where
  pub keeps : Keeps heap after
  pub safe : HeapIsSafe after

pub continues_itself : (heap : Heap) → HeapIsSafe heap → Continues heap heap
continues_itself heap safe = record { keeps = keeps_itself heap; safe = safe }

pub continues_on : (heap next after : Heap) → Continues heap next → Continues next after → Continues heap after
continues_on heap next after h k =
    record { keeps = keeps_on heap next after h.keeps k.keeps; safe = k.safe }

pub no_arrays_safe : HeapIsSafe no_arrays
no_arrays_safe = record { elements = λ p size places i q e. cc; free = λ p h. refl }

-- ---- a new array

new_kept : (test : Option Array → Bool) (b : Bool) (new old : Option Array) → (b ≡ true → old ≡ None) → test None ≡ false → test old ≡ true → test (if b then new else old) ≡ true
new_kept test true new old free none h =
    absurd (true≢false (sym h ∙ ap test (free refl) ∙ none))
new_kept test false new old free none h = h

at_place : (heap : Heap) (p q : ℕ) → heap.array_at q ≡ None → (p == q) ≡ true → heap.array_at p ≡ None
at_place heap p q free e = let same : p ≡ q = grind (arith, nat_tests) in ap heap.array_at same ∙ free

keeps_new : (heap : Heap) (a : Array) → heap.array_at heap.used ≡ None → Keeps heap (with_new heap a)
keeps_new heap a free = record {
  of_ints = λ p h. new_kept is_ints (p == heap.used) (Some a) (heap.array_at p) (at_place heap p heap.used free) refl h;
  of_pages = λ p h. new_kept is_pages (p == heap.used) (Some a) (heap.array_at p) (at_place heap p heap.used free) refl h;
}

places_in : Option Array → ℕ → Option ℕ
places_in (Some (pages size places)) = places
places_in _ = λ i. None

length_in : Option Array → ℕ
length_in (Some (pages size places)) = size
length_in _ = 0

new_places : (kind : ArrayKind) (size other : ℕ) (places : ℕ → Option ℕ) (i q : ℕ) → Some (new_array kind size) ≡ Some (pages other places) → places i ≡ Some q → ⊥
unfolding places_in
new_places array_kinds.Ints size other places i q e h = cc
new_places array_kinds.Pages size other places i q e h =
    let none : None ≡ places i = ap (λ a. places_in a i) e in cc

new_elements : (b : Bool) (kind : ArrayKind) (length : ℕ) (old : Option Array) (size : ℕ) (places : ℕ → Option ℕ) (i q : ℕ) → (if b then Some (new_array kind length) else old) ≡ Some (pages size places) → places i ≡ Some q → old ≡ Some (pages size places)
new_elements true kind length old size places i q e h =
    absurd (new_places kind length size places i q e h)
new_elements false kind length old size places i q e h = e

new_free : (p used n : ℕ) (new old : Option Array) → used + n + 2 ≤ p → (used ≤ p → old ≡ None) → (if p == used then new else old) ≡ None
new_free p used n new old h free =
    let e : (p == used) ≡ false = grind (arith, nat_tests) in
    ap (λ b. if b then new else old) e ∙ free (omega arith)

pub continues_new : (heap : Heap) (kind : ArrayKind) (size : ℕ) → HeapIsSafe heap → Continues heap (with_new heap (new_array kind size))
continues_new heap kind size safe =
    let free : heap.array_at heap.used ≡ None = safe.free heap.used (omega arith) in
    let keeps = keeps_new heap (new_array kind size) free in
    record {
      keeps = keeps;
      safe = record {
        elements = λ p length places i q e h k. keeps.of_ints q (safe.elements p length places i q (new_elements (p == heap.used) kind size (heap.array_at p) length places i q e k) h k);
        free = λ p h. new_free p heap.used (array_length (new_array kind size)) (Some (new_array kind size)) (heap.array_at p) h (safe.free p);
      };
    }

-- ---- an element that is written

same_test : (test : Option Array → Bool) (b : Bool) (new old : Option Array) → test new ≡ test old → test (if b then new else old) ≡ test old
same_test test true new old e = e
same_test test false new old e = refl

set_int-ints : (a : Option Array) (i w : ℕ) → is_ints (set_int a i w) ≡ is_ints a
set_int-ints (Some (ints size f)) i w = refl
set_int-ints _ i w = refl

set_int-pages : (a : Option Array) (i w : ℕ) → is_pages (set_int a i w) ≡ is_pages a
set_int-pages (Some (ints size f)) i w = refl
set_int-pages _ i w = refl

set_int-same : (b : Bool) (a : Option Array) (i w size : ℕ) (places : ℕ → Option ℕ) → (if b then set_int a i w else a) ≡ Some (pages size places) → a ≡ Some (pages size places)
set_int-same true (Some (ints length f)) i w size places e = cc
set_int-same true (Some (pages length f)) i w size places e = e
set_int-same true None i w size places e = e
set_int-same false a i w size places e = e

set_int-none : (b : Bool) (a : Option Array) (i w : ℕ) → a ≡ None → (if b then set_int a i w else a) ≡ None
set_int-none true None i w e = refl
set_int-none true (Some a) i w e = cc
set_int-none false a i w e = e

keeps_int : (heap : Heap) (p i w : ℕ) → Keeps heap (with_int heap p i w)
keeps_int heap p i w = record {
  of_ints = λ q h. same_test is_ints (q == p) (set_int (heap.array_at q) i w) (heap.array_at q) (set_int-ints (heap.array_at q) i w) ∙ h;
  of_pages = λ q h. same_test is_pages (q == p) (set_int (heap.array_at q) i w) (heap.array_at q) (set_int-pages (heap.array_at q) i w) ∙ h;
}

pub continues_int : (heap : Heap) (p i w : ℕ) → HeapIsSafe heap → Continues heap (with_int heap p i w)
continues_int heap p i w safe =
    let keeps = keeps_int heap p i w in
    record {
      keeps = keeps;
      safe = record {
        elements = λ r size places k q e h g. keeps.of_ints q (safe.elements r size places k q (set_int-same (r == p) (heap.array_at r) i w size places e) h g);
        free = λ r h. set_int-none (r == p) (heap.array_at r) i w (safe.free r h);
      };
    }

set_page-ints : (a : Option Array) (i : ℕ) (p : Option ℕ) → is_ints (set_page a i p) ≡ is_ints a
set_page-ints (Some (pages size f)) i p = refl
set_page-ints _ i p = refl

set_page-pages : (a : Option Array) (i : ℕ) (p : Option ℕ) → is_pages (set_page a i p) ≡ is_pages a
set_page-pages (Some (pages size f)) i p = refl
set_page-pages _ i p = refl

set_page-none : (b : Bool) (a : Option Array) (i : ℕ) (p : Option ℕ) → a ≡ None → (if b then set_page a i p else a) ≡ None
set_page-none true None i p e = refl
set_page-none true (Some a) i p e = cc
set_page-none false a i p e = e

chosen_page : (b : Bool) (element other : Option ℕ) (q : ℕ) (P : Type 0) → (if b then element else other) ≡ Some q → (element ≡ Some q → P) → (other ≡ Some q → P) → P
chosen_page true element other q P e h k = h e
chosen_page false element other q P e h k = k e

-- an element of a written array is the one that was written, or one that it had
set_page-elements : (b : Bool) (a : Option Array) (j : ℕ) (element : Option ℕ) (size : ℕ) (places : ℕ → Option ℕ) (i q : ℕ) (P : Type 0) → (if b then set_page a j element else a) ≡ Some (pages size places) → i < size → places i ≡ Some q → (element ≡ Some q → P) → ((length : ℕ) (before : ℕ → Option ℕ) → a ≡ Some (pages length before) → i < length → before i ≡ Some q → P) → P
unfolding places_in length_in
set_page-elements false a j element size places i q P e h g written had = had size places e h g
set_page-elements true None j element size places i q P e h g written had = cc
set_page-elements true (Some (ints length f)) j element size places i q P e h g written had = cc
set_page-elements true (Some (pages length f)) j element size places i q P e h g written had =
    let same : length ≡ size = ap length_in e in
    let there : (if i == j then element else f i) ≡ places i = ap (λ a. places_in a i) e in
    chosen_page (i == j) element (f i) q P (there ∙ g) written (λ k. had length f refl (omega arith) k)

keeps_page : (heap : Heap) (p i : ℕ) (element : Option ℕ) → Keeps heap (with_page heap p i element)
keeps_page heap p i element = record {
  of_ints = λ q h. same_test is_ints (q == p) (set_page (heap.array_at q) i element) (heap.array_at q) (set_page-ints (heap.array_at q) i element) ∙ h;
  of_pages = λ q h. same_test is_pages (q == p) (set_page (heap.array_at q) i element) (heap.array_at q) (set_page-pages (heap.array_at q) i element) ∙ h;
}

pub continues_page : (heap : Heap) (p i : ℕ) (element : Option ℕ) → HeapIsSafe heap → ((q : ℕ) → element ≡ Some q → is_ints (heap.array_at q) ≡ true) → Continues heap (with_page heap p i element)
continues_page heap p i element safe written =
    let keeps = keeps_page heap p i element in
    record {
      keeps = keeps;
      safe = record {
        elements = λ r size places k q e h g. keeps.of_ints q (set_page-elements (r == p) (heap.array_at r) i element size places k q (is_ints (heap.array_at q) ≡ true) e h g (written q) (λ length before a l b. safe.elements r length before k q a l b));
        free = λ r h. set_page-none (r == p) (heap.array_at r) i element (safe.free r h);
      };
    }

-- ---- the bytes of an answer

continues_cell : (heap : Heap) (c : Option Cell) (lane b : ℕ) → HeapIsSafe heap → Continues heap (with_cell heap c lane b)
continues_cell heap None lane b safe = continues_itself heap safe
continues_cell heap (Some c) lane b safe = continues_int heap c.place c.index _ safe

pub continues_patched : (bytes : List ℕ) (m : HostMemory) (a : ℕ) → HeapIsSafe m.heap → Continues m.heap (patched with_host_byte m a bytes).heap
continues_patched [] m a safe = continues_itself m.heap safe
continues_patched (b ∷ bytes) m a safe =
    let first = continues_cell m.heap (cell_of m.heap m.writable a) (a % 4) b safe in
    continues_on m.heap (with_host_byte m a b).heap (patched with_host_byte (with_host_byte m a b) (a + 1) bytes).heap first (continues_patched bytes (with_host_byte m a b) (a + 1) first.safe)
