-- Heaps behind other arrays: what is read and written of them.
use Rattle.std.proofs.Common.{◌≡◌, ℕ, ◌+◌, ◌-◌, ◌==◌, nat_lt, Bool, true, false, if◌then◌else◌, Option, Some, None, option_map, refl, sym, ap, ◌∙◌, true≢false, arith}
use Rattle.std.proofs.lemmas.Bool.{le-ltb}
use Rattle.std.proofs.lemmas.Bool.Decides.{nat_tests}
use Rattle.jvm_definition.specs.declared.array_kind.ArrayKind.{ArrayKind}
use Rattle.jvm_definition.specs.declared.array_kind.ArrayKind.TheVariants as array_kinds
use Rattle.jvm_definition.specs.declared.kind.Kind.{Kind}
use Rattle.jvm_definition.specs.declared.kind.Kind.TheVariants.{Top, Int, Long, Null, Ints, Pages, Text}
use Rattle.jvm_definition.specs.declared.value.Value.{Value}
use Rattle.jvm_definition.specs.declared.value.Value.TheVariants.{Array as array}
use Rattle.jvm_definition.specs.Values.{Array, ints, pages, Heap, array_length, is_ints, is_pages, new_array, with_new, set_int, set_page, with_int, with_page, conforms}
use Rattle.jvm_run_laws.specs.Relocation.{relocated_place, relocated_value, relocated_array, relocated_heap}
use Rattle.jvm_run_laws.proofs.Values.{same_is_int, same_is_long, same_is_null, same_is_text}

-- ---- places

below_place : (q by p : ℕ) → nat_lt q by ≡ true → (q == by + p) ≡ false
below_place q by p t = grind (arith, nat_tests)

above_place : (q by p : ℕ) → nat_lt q by ≡ false → (q == by + p) ≡ (q - by == p)
above_place q by p t = grind (arith, nat_tests)

pub same_room : (by words used size : ℕ) → nat_lt (by + words) (by + used + size + 2) ≡ nat_lt words (used + size + 2)
same_room by words used size = grind (arith, nat_tests)

-- ---- arrays

module _ (by : ℕ) where
  pub same_is_ints : (a : Option Array) → is_ints (option_map (relocated_array by) a) ≡ is_ints a
  same_is_ints None = refl
  same_is_ints (Some (ints size words)) = refl
  same_is_ints (Some (pages size places)) = refl

  pub same_is_pages : (a : Option Array) → is_pages (option_map (relocated_array by) a) ≡ is_pages a
  same_is_pages None = refl
  same_is_pages (Some (ints size words)) = refl
  same_is_pages (Some (pages size places)) = refl

  pub same_new : (kind : ArrayKind) (size : ℕ) → relocated_array by (new_array kind size) ≡ new_array kind size
  same_new array_kinds.Ints size = refl
  same_new array_kinds.Pages size = refl

  far_set_int : (i w : ℕ) (a : Option Array) → set_int (option_map (relocated_array by) a) i w ≡ option_map (relocated_array by) (set_int a i w)
  far_set_int i w None = refl
  far_set_int i w (Some (ints size words)) = refl
  far_set_int i w (Some (pages size places)) = refl

  far_choice : (b : Bool) (p q : Option ℕ) → (if b then relocated_place by p else relocated_place by q) ≡ relocated_place by (if b then p else q)
  far_choice true p q = refl
  far_choice false p q = refl

  far_set_page : (i : ℕ) (p : Option ℕ) (a : Option Array) → set_page (option_map (relocated_array by) a) i (relocated_place by p) ≡ option_map (relocated_array by) (set_page a i p)
  far_set_page i p None = refl
  far_set_page i p (Some (ints size words)) = refl
  far_set_page i p (Some (pages size places)) =
      λ x. Some (pages size (λ j. far_choice (j == i) p (places j) x))

-- ---- heaps

module _ (below : Heap) where
  pub far_array : (heap : Heap) (p : ℕ) → (relocated_heap below heap).array_at (below.used + p) ≡ option_map (relocated_array below.used) (heap.array_at p)
  far_array heap p =
      let past : nat_lt (below.used + p) below.used ≡ false = le-ltb (below.used + p) below.used (omega arith) in
      let same : below.used + p - below.used ≡ p = omega arith in
      ap (λ b. if b then below.array_at (below.used + p) else option_map (relocated_array below.used) (heap.array_at (below.used + p - below.used))) past
      ∙ ap (λ q. option_map (relocated_array below.used) (heap.array_at q)) same

  pub same_conforms : (heap : Heap) (kind : Kind) (v : Value) → conforms (relocated_heap below heap) kind (relocated_value below.used v) ≡ conforms heap kind v
  same_conforms heap Top v = refl
  same_conforms heap Int v = same_is_int below.used v
  same_conforms heap Long v = same_is_long below.used v
  same_conforms heap Null v = same_is_null below.used v
  same_conforms heap Ints (array p) =
      ap is_ints (far_array heap p) ∙ same_is_ints below.used (heap.array_at p)
  same_conforms heap Ints _ = refl
  same_conforms heap Pages (array p) =
      ap is_pages (far_array heap p) ∙ same_is_pages below.used (heap.array_at p)
  same_conforms heap Pages _ = refl
  same_conforms heap Text v = same_is_text below.used v

  -- an array that is changed, by whether a place is below, and whether it is the array's
  far_change : (change far : Option Array → Option Array) → ((a : Option Array) → far (option_map (relocated_array below.used) a) ≡ option_map (relocated_array below.used) (change a)) → (under there same : Bool) (other a : Option Array) → (under ≡ true → there ≡ false) → (under ≡ false → there ≡ same) → (if there then far (if under then other else option_map (relocated_array below.used) a) else (if under then other else option_map (relocated_array below.used) a)) ≡ (if under then other else option_map (relocated_array below.used) (if same then change a else a))
  far_change change far h true true same other a under_it above = absurd (true≢false (under_it refl))
  far_change change far h true false same other a under_it above = refl
  far_change change far h false true true other a under_it above = h a
  far_change change far h false true false other a under_it above = absurd (true≢false (above refl))
  far_change change far h false false true other a under_it above = absurd (true≢false (sym (above refl)))
  far_change change far h false false false other a under_it above = refl

  changed_at : (heap : Heap) (p : ℕ) (change far : Option Array → Option Array) → ((a : Option Array) → far (option_map (relocated_array below.used) a) ≡ option_map (relocated_array below.used) (change a)) → (q : ℕ) → (if q == below.used + p then far ((relocated_heap below heap).array_at q) else (relocated_heap below heap).array_at q) ≡ (if nat_lt q below.used then below.array_at q else option_map (relocated_array below.used) (if q - below.used == p then change (heap.array_at (q - below.used)) else heap.array_at (q - below.used)))
  changed_at heap p change far h q =
      far_change change far h (nat_lt q below.used) (q == below.used + p) (q - below.used == p) (below.array_at q) (heap.array_at (q - below.used)) (below_place q below.used p) (above_place q below.used p)

  pub far_int : (heap : Heap) (p i w : ℕ) → with_int (relocated_heap below heap) (below.used + p) i w ≡ relocated_heap below (with_int heap p i w)
  far_int heap p i w = λ x. record {
    used = below.used + heap.used;
    array_at = λ q. changed_at heap p (λ a. set_int a i w) (λ a. set_int a i w) (far_set_int below.used i w) q x;
  }

  pub far_page : (heap : Heap) (p i : ℕ) (element : Option ℕ) → with_page (relocated_heap below heap) (below.used + p) i (relocated_place below.used element) ≡ relocated_heap below (with_page heap p i element)
  far_page heap p i element = λ x. record {
    used = below.used + heap.used;
    array_at = λ q. changed_at heap p (λ a. set_page a i element) (λ a. set_page a i (relocated_place below.used element)) (far_set_page below.used i element) q x;
  }

  pub far_new : (heap : Heap) (a : Array) → relocated_array below.used a ≡ a → with_new (relocated_heap below heap) a ≡ relocated_heap below (with_new heap a)
  far_new heap a same =
      let used : below.used + heap.used + array_length a + 2 ≡ below.used + (heap.used + array_length a + 2) = omega arith in
      λ x. record {
        used = used x;
        array_at = λ q. changed_at heap heap.used (λ _. Some a) (λ _. Some a) (λ _. ap Some (sym same)) q x;
      }
