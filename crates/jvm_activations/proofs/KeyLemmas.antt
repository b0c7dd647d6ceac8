-- The number of a key among keys that rise.
use Rattle.std.proofs.Common.{◌≡◌, ℕ, zero, suc, ◌+◌, ◌<◌, ◌≤◌, true, false, if◌then◌else◌, List, [], ◌∷◌, length, get_or, refl, ap, sym, ◌∙◌, arith, inl, inr, ℤ, pos, negsuc, ◌≢◌}
use Rattle.std.specs.Prelude.{int_lt}
use Rattle.std.specs.List.Sorted.{IsNonDecreasingBy, IsPartitionPoint}
use Rattle.std.specs.Ordering.{int_cmp, ordering_index}
use Rattle.std.specs.declared.cmp.Ordering.TheVariants.{Less, Equal, Greater}
use Rattle.std.proofs.lemmas.Bool.{ne_eqb, cases_lt}
use Rattle.std.proofs.lemmas.Map.Lookups.{exact_signed}
use Rattle.std.proofs.lemmas.Int.{ints}
use Rattle.jvm_definition.specs.declared.pair.Pair.{Pair}
use Rattle.jvm_definition.specs.Effect.{same_integer, lookup_target}
use Rattle.jvm_activations.proofs.TestLemmas.{both}
use Rattle.jvm_activations.specs.Keys.{keys_of, rise, rise_from, number_of}

pub target_by_keys : (pairs : List Pair) (key : ℤ) (number : ℕ) → lookup_target pairs key number ≡ number_of (keys_of pairs) key number
target_by_keys [] key number = refl
target_by_keys (p ∷ pairs) key number = ap (λ (r : ℕ). if same_integer p.key key then number else r) (target_by_keys pairs key (suc number))

-- ---- integers

same_self : (a : ℤ) → same_integer a a ≡ true
same_self (pos n) = grind arith
same_self (negsuc n) = grind arith

not_same : (a b : ℤ) → a ≢ b → same_integer a b ≡ false
not_same (pos m) (pos n) h = ne_eqb m n (λ e. h (ap pos e))
not_same (pos m) (negsuc n) h = refl
not_same (negsuc m) (pos n) h = refl
not_same (negsuc m) (negsuc n) h = ne_eqb m n (λ e. h (ap negsuc e))

below_trans : (a b c : ℤ) → int_lt a b ≡ true → int_lt b c ≡ true → int_lt a c ≡ true
below_trans a b c p q = grind (arith, ints)

-- ---- keys that rise

rise_behind : (first : ℤ) (keys : List ℤ) → rise_from first keys ≡ true → rise keys ≡ true
rise_behind first [] h = refl
rise_behind first (key ∷ keys) h = (both (int_lt first key) (rise_from key keys) h).1

pub first_below : (first : ℤ) (keys : List ℤ) (i : ℕ) (d : ℤ) → rise_from first keys ≡ true → i < length keys → int_lt first (get_or keys i d) ≡ true
first_below first [] i d h l = absurd (omega arith)
first_below first (key ∷ keys) zero d h l = (both (int_lt first key) (rise_from key keys) h).0
first_below first (key ∷ keys) (suc i) d h l =
    let parts = both (int_lt first key) (rise_from key keys) h in
    below_trans first key (get_or keys i d) parts.0 (first_below key keys i d parts.1 (omega arith))

pub rises_at : (keys : List ℤ) (i j : ℕ) (d : ℤ) → rise keys ≡ true → i < j → j < length keys → int_lt (get_or keys i d) (get_or keys j d) ≡ true
rises_at [] i j d h p l = absurd (omega arith)
rises_at (key ∷ keys) zero zero d h p l = absurd (omega arith)
rises_at (key ∷ keys) (suc i) zero d h p l = absurd (omega arith)
rises_at (key ∷ keys) zero (suc j) d h p l = first_below key keys j d h (omega arith)
rises_at (key ∷ keys) (suc i) (suc j) d h p l = rises_at keys i j d (rise_behind key keys h) (omega arith) (omega arith)

below_other : (a b : ℤ) → int_lt a b ≡ true → a ≢ b
below_other a b h e = grind (arith, ints)

index_below : (a b key : ℤ) → int_lt a b ≡ true → ordering_index (int_cmp a key) ≤ ordering_index (int_cmp b key)
index_below a b key h = grind (arith, ints)

index_rises : (key : ℤ) (keys : List ℤ) → rise keys ≡ true → IsNonDecreasingBy (λ y. ordering_index (int_cmp y key)) keys
index_rises key keys h i j d le l =
    elim (cases_lt i j) [
      | inl p ↦ index_below (get_or keys i d) (get_or keys j d) key (rises_at keys i j d h p l)
      | inr p ↦ let e : i ≡ j = omega arith in rw e (omega arith)
    ]

-- ---- the number

pub absent : (keys : List ℤ) (key : ℤ) (number : ℕ) → ((k : ℕ) (d : ℤ) → k < length keys → get_or keys k d ≢ key) → number_of keys key number ≡ 0
absent [] key number h = refl
absent (k ∷ keys) key number h =
    let other : same_integer k key ≡ false = not_same k key (h 0 k (omega arith)) in
    rw other (absent keys key (suc number) (λ i d l. h (suc i) d (omega arith)))

pub found_at : (keys : List ℤ) (key : ℤ) (number i : ℕ) (d : ℤ) → rise keys ≡ true → i < length keys → get_or keys i d ≡ key → i + number ≡ number_of keys key number
found_at [] key number i d h l e = absurd (omega arith)
found_at (k ∷ keys) key number zero d h l e =
    let is_key : same_integer k key ≡ true = rw e (same_self key) in
    rw is_key (omega arith)
found_at (k ∷ keys) key number (suc i) d h l e =
    let below : int_lt k key ≡ true = rw (← e) (first_below k keys i d h (omega arith)) in
    let other : same_integer k key ≡ false = not_same k key (below_other k key below) in
    let behind : i + suc number ≡ number_of keys key (suc number) = found_at keys key (suc number) i d (rise_behind k keys h) (omega arith) e in
    rw other (omega (arith, behind))

pub found : (keys : List ℤ) (key sought : ℤ) (place : ℕ) → sought ≡ key → rise keys ≡ true → place < length keys → ((d : ℤ) → int_cmp (get_or keys place d) sought ≡ Equal) → place + 1 ≡ number_of keys key 1
found keys key sought place same_key h l e = found_at keys key 1 place (pos 0) h l (exact_signed _ _ (e (pos 0)) ∙ same_key)

compared_equal : (a b : ℤ) → a ≡ b → int_cmp a b ≡ Equal
compared_equal a b e = grind (arith, ints)

pub missing : (keys : List ℤ) (key sought : ℤ) (place : ℕ) → sought ≡ key → rise keys ≡ true → (IsNonDecreasingBy (λ y. ordering_index (int_cmp y sought)) keys → IsPartitionPoint (λ y. int_cmp y sought ≡ Less) (λ y. int_cmp y sought ≡ Greater) keys place) → 0 ≡ number_of keys key 1
missing keys key sought place same_key h parts =
    let halves = parts (index_rises sought keys h) in
    sym
    (absent keys key 1
    (λ k d l e.
    let equal : int_cmp (get_or keys k d) sought ≡ Equal = compared_equal (get_or keys k d) sought (e ∙ sym same_key) in
    elim (cases_lt k place) [
      | inl p ↦ let less : int_cmp (get_or keys k d) sought ≡ Less = halves.0 k d (omega arith) p in cc (sym equal ∙ less)
      | inr p ↦ let greater : int_cmp (get_or keys k d) sought ≡ Greater = halves.1 k d p l in cc (sym equal ∙ greater)
    ]))
