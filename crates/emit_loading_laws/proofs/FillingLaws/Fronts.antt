-- Arrays of ints with words at their front, one more at a time.
use Rattle.std.proofs.Common.{◌≡◌, ℕ, ◌+◌, ◌<◌, ◌≤◌, ◌==◌, Bool, true, false, if◌then◌else◌, List, [], ◌∷◌, ◌++◌, length, slice_index_or, Option, Some, None, ◌⊎◌, inl, inr, refl, ap, ◌∙◌, sym, arith}
use Rattle.std.proofs.lemmas.Bool.{eq-eqb, ne_eqb, cases_eq, cases_lt}
use Rattle.std.proofs.lemmas.List.{get_or_at, get_or_append_left, get_or_past, length-append}
use Rattle.jvm_definition.specs.Values.{Array, ints, pages, Heap, set_int, with_int}
use Rattle.emit_loading_laws.specs.Arrays.{set_ints, with_ints}

-- ---- lists

index-more : (done : List ℕ) (v i d : ℕ) → slice_index_or (done ++ v ∷ []) i d ≡ (if i == length done then v else slice_index_or done i d)
index-more done v i d = by_order (cases_eq i (length done)) (cases_lt i (length done))
  where
    long : length (done ++ v ∷ []) ≡ length done + 1
    long = length-append done (v ∷ [])

    by_order : (i ≡ length done) ⊎ (i ≡ length done → ⊥) → (i < length done) ⊎ (length done ≤ i) → slice_index_or (done ++ v ∷ []) i d ≡ (if i == length done then v else slice_index_or done i d)
    by_order (inl e) less =
        get_or_at done v [] d i (sym e) ∙ sym (ap (λ b. if b then v else slice_index_or done i d) (eq-eqb i (length done) e))
    by_order (inr ne) (inl less) =
        get_or_append_left done (v ∷ []) d i less ∙ sym (ap (λ b. if b then v else slice_index_or done i d) (ne_eqb i (length done) ne))
    by_order (inr ne) (inr past) =
        get_or_past (done ++ v ∷ []) i d (omega (arith, long, past, ne))
        ∙ sym (get_or_past done i d past)
        ∙ sym (ap (λ b. if b then v else slice_index_or done i d) (ne_eqb i (length done) ne))

-- ---- arrays

set-more : (a : Option Array) (done : List ℕ) (v : ℕ) → set_int (set_ints a done) (length done) v ≡ set_ints a (done ++ v ∷ [])
set-more None done v = refl
set-more (Some (pages size places)) done v = refl
set-more (Some (ints size f)) done v =
    ap (λ (g : ℕ → ℕ). Some (ints size g)) (λ t i. sym (index-more done v i (f i)) t)

pub set-none : (a : Option Array) → a ≡ set_ints a []
set-none None = refl
set-none (Some (pages size places)) = refl
set-none (Some (ints size f)) = refl

-- ---- heaps

-- heaps that have the same arrays and use as many words
pub same-heap : (used : ℕ) (f g : ℕ → Option Array) → ((q : ℕ) → f q ≡ g q) → (let a : Heap = record { used = used; array_at = f } in a) ≡ record { used = used; array_at = g }
same-heap used f g same =
    ap (λ (h : ℕ → Option Array). let a : Heap = record { used = used; array_at = h } in a) (λ t q. same q t)

-- a word more
pub with-more : (heap : Heap) (p : ℕ) (done : List ℕ) (v : ℕ) → with_int (with_ints heap p done) p (length done) v ≡ with_ints heap p (done ++ v ∷ [])
with-more heap p done v =
    same-heap heap.used (with_int (with_ints heap p done) p (length done) v).array_at (with_ints heap p (done ++ v ∷ [])).array_at (λ q. at q (q == p))
  where
    at : (q : ℕ) (b : Bool) → (if b then set_int (if b then set_ints (heap.array_at q) done else heap.array_at q) (length done) v else (if b then set_ints (heap.array_at q) done else heap.array_at q)) ≡ (if b then set_ints (heap.array_at q) (done ++ v ∷ []) else heap.array_at q)
    at q true = set-more (heap.array_at q) done v
    at q false = refl

-- no word
pub with-none : (heap : Heap) (p : ℕ) → heap ≡ with_ints heap p []
with-none heap p = same-heap heap.used heap.array_at (with_ints heap p []).array_at (λ q. at q (q == p))
  where
    at : (q : ℕ) (b : Bool) → heap.array_at q ≡ (if b then set_ints (heap.array_at q) [] else heap.array_at q)
    at q true = set-none (heap.array_at q)
    at q false = refl

-- the array is there
pub there-with : (heap : Heap) (p size : ℕ) (old : ℕ → ℕ) (done : List ℕ) → heap.array_at p ≡ Some (ints size old) → (with_ints heap p done).array_at p ≡ Some (ints size (λ i. slice_index_or done i (old i)))
there-with heap p size old done there =
    ap (λ b. if b then set_ints (heap.array_at p) done else heap.array_at p) (eq-eqb p p refl)
    ∙ ap (λ a. set_ints a done) there
