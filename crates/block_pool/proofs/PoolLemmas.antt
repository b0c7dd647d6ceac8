-- What stays true of a pool where one block of it, and the order of the free ones, changes.
use Rattle.std.proofs.Common.{◌≡◌, ◌≢◌, ℕ, ◌+◌, ◌<◌, ◌≤◌, true, false, cond, eqb, ltb, ◌&&◌, List, [], ◌∷◌, length, get_or, set, replicate, Option, Some, None, refl, ap, sym, ◌∙◌, arith, zero, suc, inl, inr}
use Rattle.std.specs.List.{range_with_len, count_by}
use Rattle.std.specs.Option.{is_some, is_none, IsSome}
use Rattle.std.proofs.lemmas.Bool.{false≢true, cond_both, cases_Bool, cases_eq, cases_lt, cases_order, eq-eqb, ne_eqb, lt-ltb, le-ltb, ltb-true, and_parts}
use Rattle.std.proofs.lemmas.List.{length-set, get_or-set_same, get_or-set_other, length-replicate}
use Rattle.std.proofs.lemmas.List.FromFn.{length-range_with_len}
use Rattle.std.proofs.lemmas.List.Folds.{sum_by-replicate}
use Rattle.std.proofs.lemmas.List.Sums.{sum_by-cons, sum_by-set, get_or-le-sum_by}
use Rattle.block_pool.specs.Bytes.{zeros}
use Rattle.block_pool.specs.Blocks.{Pool, IsSound, IsUsed, is_free, bytes_in, untouched}
use Rattle.block_pool.specs.declared.block.Block.{Block}

abbrev pub pool : List (Option Block) → List ℕ → Pool
pool blocks order = record { blocks = blocks; order = order }

-- how often a number stands in an order
abbrev pub times : ℕ → List ℕ → ℕ
times b order = count_by (λ q. eqb q b) order

-- 1 where a block is free, else 0
abbrev pub free_at : List (Option Block) → ℕ → ℕ
free_at blocks k = cond (ltb k (length blocks) && is_none (get_or blocks k None)) 1 0

pub times-cons : (k b : ℕ) (rest : List ℕ) → times k (b ∷ rest) ≡ cond (eqb b k) 1 0 + times k rest
times-cons k b rest = sum_by-cons (λ q. cond (eqb q k) 1 0) b rest

pub times-cons_same : (k b : ℕ) (rest : List ℕ) → k ≡ b → times k (b ∷ rest) ≡ 1 + times k rest
times-cons_same k b rest same =
    let e : cond {A = ℕ} (eqb b k) 1 0 ≡ 1 = ap (λ t. cond t 1 0) (eq-eqb b k (sym same)) in
    omega (arith, times-cons k b rest)

times-cons_other : (k b : ℕ) (rest : List ℕ) → k ≢ b → times k (b ∷ rest) ≡ times k rest
times-cons_other k b rest other =
    let e : cond {A = ℕ} (eqb b k) 1 0 ≡ 0 = ap (λ t. cond t 1 0) (ne_eqb b k (λ x. other (sym x))) in
    omega (arith, times-cons k b rest)

is_none-used : (s : Option Block) → IsSome s → is_none s ≡ false
is_none-used None h = absurd (false≢true h)
is_none-used (Some k) h = refl

pub none-from_is_none : (s : Option Block) → is_none s ≡ true → s ≡ None
none-from_is_none None h = refl
none-from_is_none (Some k) h = absurd (false≢true h)

pub used-lt-length : (blocks : List (Option Block)) (b : ℕ) → IsSome (get_or blocks b None) → b < length blocks
used-lt-length [] b h = absurd (false≢true h)
used-lt-length (s ∷ blocks) zero h = omega arith
used-lt-length (s ∷ blocks) (suc b) h = omega (arith, used-lt-length blocks b h)

free_at-within : (blocks : List (Option Block)) (b : ℕ) → b < length blocks → free_at blocks b ≡ cond (is_none (get_or blocks b None)) 1 0
free_at-within blocks b h = ap (λ t. cond (t && is_none (get_or blocks b None)) 1 0) (lt-ltb b (length blocks) h)

free_at-past : (blocks : List (Option Block)) (b : ℕ) → length blocks ≤ b → free_at blocks b ≡ 0
free_at-past blocks b h = ap (λ t. cond (t && is_none (get_or blocks b None)) 1 0) (le-ltb b (length blocks) h)

free_at-used : (blocks : List (Option Block)) (b : ℕ) → IsSome (get_or blocks b None) → free_at blocks b ≡ 0
free_at-used blocks b used = free_at-within blocks b (used-lt-length blocks b used) ∙ ap (λ t. cond t 1 0) (is_none-used (get_or blocks b None) used)

pub free_at-le-one : (blocks : List (Option Block)) (b : ℕ) → free_at blocks b ≤ 1
free_at-le-one blocks b = cond_both (ltb b (length blocks) && is_none (get_or blocks b None)) 1 0 (λ n. n ≤ 1) (λ _. omega arith) (λ _. omega arith)

free_at-set_other : (blocks : List (Option Block)) (b k : ℕ) (s : Option Block) → k ≢ b → free_at (set blocks b s) k ≡ free_at blocks k
free_at-set_other blocks b k s other = rw (length-set, get_or-set_other) refl

free_at-set_same : (blocks : List (Option Block)) (b : ℕ) (s : Option Block) → b < length blocks → free_at (set blocks b s) b ≡ cond (is_none s) 1 0
free_at-set_same blocks b s h =
    let within : b < length (set blocks b s) = rw length-set h in
    free_at-within (set blocks b s) b within ∙ ap (λ o. cond (is_none o) 1 0) (get_or-set_same blocks b s None h)

-- a block that is free has a number of the pool, and is not in use
pub free_block : (blocks : List (Option Block)) (b : ℕ) → (ltb b (length blocks) && is_none (get_or blocks b None)) ≡ true → (b < length blocks) × (get_or blocks b None ≡ None)
free_block blocks b free =
    let parts = and_parts (ltb b (length blocks)) (is_none (get_or blocks b None)) free in
    (ltb-true b (length blocks) parts.0, none-from_is_none (get_or blocks b None) parts.1)

-- the first of the order is free
pub first_is_free : (blocks : List (Option Block)) (b : ℕ) (rest : List ℕ) → IsSound (pool blocks (b ∷ rest)) → is_free (pool blocks (b ∷ rest)) b ≡ true
first_is_free blocks b rest h = elim (cases_Bool (ltb b (length blocks) && is_none (get_or blocks b None))) [
  | inl is_set ↦ is_set
  | inr unset ↦
      let z : free_at blocks b ≡ 0 = ap (λ t. cond t 1 0) unset in
      absurd (omega (arith, h.waiting b, times-cons_same b b rest refl))
]

-- the first number leaves the order, and its block is in use
times-taken : (blocks : List (Option Block)) (b : ℕ) (rest : List ℕ) (k : Block) → b < length blocks → ((q : ℕ) → times q (b ∷ rest) ≡ free_at blocks q) → (q : ℕ) → times q rest ≡ free_at (set blocks b (Some k)) q
times-taken blocks b rest k within all q = elim (cases_eq q b) [
  | inl same ↦
      let none : free_at (set blocks b (Some k)) q ≡ 0 = rw same (free_at-set_same blocks b (Some k) within) in
      omega (arith, times-cons_same q b rest same, all q, free_at-le-one blocks q)
  | inr other ↦ omega (arith, times-cons_other q b rest other, all q, free_at-set_other blocks b q (Some k) other)
]

-- the number of a block in use is put first, and the block is free
times-given : (blocks : List (Option Block)) (b : ℕ) (order : List ℕ) → IsSome (get_or blocks b None) → ((q : ℕ) → times q order ≡ free_at blocks q) → (q : ℕ) → times q (b ∷ order) ≡ free_at (set blocks b None) q
times-given blocks b order used all q = elim (cases_eq q b) [
  | inl same ↦
      let one : free_at (set blocks b None) q ≡ 1 = rw same (free_at-set_same blocks b None (used-lt-length blocks b used)) in
      let none : free_at blocks q ≡ 0 = rw same (free_at-used blocks b used) in
      omega (arith, times-cons_same q b order same, all q)
  | inr other ↦ omega (arith, times-cons_other q b order other, all q, free_at-set_other blocks b q None other)
]

-- a block in use stays in use
times-put : (blocks : List (Option Block)) (b : ℕ) (order : List ℕ) (k : Block) → IsSome (get_or blocks b None) → ((q : ℕ) → times q order ≡ free_at blocks q) → (q : ℕ) → times q order ≡ free_at (set blocks b (Some k)) q
times-put blocks b order k used all q = elim (cases_eq q b) [
  | inl same ↦
      let none : free_at (set blocks b (Some k)) q ≡ 0 = rw same (free_at-set_same blocks b (Some k) (used-lt-length blocks b used)) in
      let also : free_at blocks q ≡ 0 = rw same (free_at-used blocks b used) in
      omega (arith, all q)
  | inr other ↦ omega (arith, all q, free_at-set_other blocks b q (Some k) other)
]

-- how the count of the free blocks changes with one block
count-set : (blocks : List (Option Block)) (b : ℕ) (s : Option Block) → b < length blocks → count_by is_none (set blocks b s) + cond (is_none (get_or blocks b None)) 1 0 ≡ count_by is_none blocks + cond (is_none s) 1 0
count-set blocks b s h = sum_by-set (λ x. cond (is_none x) 1 0) blocks b s None h

-- and the size of each
sized-set : (blocks : List (Option Block)) (b : ℕ) (s : Option Block) → b < length blocks → length (bytes_in s) ≡ 4096 → ((q : ℕ) → length (bytes_in (get_or blocks q None)) ≡ 4096) → (q : ℕ) → length (bytes_in (get_or (set blocks b s) q None)) ≡ 4096
sized-set blocks b s within size all q = elim (cases_eq q b) [
  | inl same ↦ rw (same, get_or-set_same) size
  | inr other ↦ rw get_or-set_other (all q)
]

pub length-zeros : length zeros ≡ 4096
unfolding zeros
length-zeros = length-replicate {A = ℕ} 4096 0

pub IsSound-taken : (blocks : List (Option Block)) (b : ℕ) (rest : List ℕ) (k : Block) → length k.bytes ≡ 4096 → IsSound (pool blocks (b ∷ rest)) → IsSound (pool (set blocks b (Some k)) rest)
IsSound-taken blocks b rest k size h =
    let free = free_block blocks b (first_is_free blocks b rest h) in
    let one : cond {A = ℕ} (is_none (get_or blocks b None)) 1 0 ≡ 1 = ap (λ s. cond (is_none s) 1 0) free.1 in
    record {
      waiting = times-taken blocks b rest k free.0 h.waiting;
      counted = omega (arith, count-set blocks b (Some k) free.0, h.counted);
      sized = sized-set blocks b (Some k) free.0 size h.sized;
    }

pub IsSound-given : (blocks : List (Option Block)) (b : ℕ) (order : List ℕ) → IsUsed (pool blocks order) b → IsSound (pool blocks order) → IsSound (pool (set blocks b None) (b ∷ order))
IsSound-given blocks b order used h =
    let within = used-lt-length blocks b used in
    let none : cond {A = ℕ} (is_none (get_or blocks b None)) 1 0 ≡ 0 = ap (λ t. cond t 1 0) (is_none-used (get_or blocks b None) used) in
    record {
      waiting = times-given blocks b order used h.waiting;
      counted = omega (arith, count-set blocks b None within, h.counted);
      sized = sized-set blocks b None within length-zeros h.sized;
    }

pub IsSound-put : (blocks : List (Option Block)) (b : ℕ) (order : List ℕ) (k : Block) → length k.bytes ≡ 4096 → IsUsed (pool blocks order) b → IsSound (pool blocks order) → IsSound (pool (set blocks b (Some k)) order)
IsSound-put blocks b order k size used h =
    let within = used-lt-length blocks b used in
    let none : cond {A = ℕ} (is_none (get_or blocks b None)) 1 0 ≡ 0 = ap (λ t. cond t 1 0) (is_none-used (get_or blocks b None) used) in
    record {
      waiting = times-put blocks b order k used h.waiting;
      counted = omega (arith, count-set blocks b (Some k) within, h.counted);
      sized = sized-set blocks b (Some k) within size h.sized;
    }

-- each block is free or in use
pub used_and_free : (blocks : List (Option Block)) → count_by is_some blocks + count_by is_none blocks ≡ length blocks
used_and_free [] = refl
used_and_free (None ∷ blocks) =
    omega (arith, used_and_free blocks, sum_by-cons (λ x. cond (is_some x) 1 0) None blocks, sum_by-cons (λ x. cond (is_none x) 1 0) None blocks)
used_and_free (Some k ∷ blocks) =
    omega (arith, used_and_free blocks, sum_by-cons (λ x. cond (is_some x) 1 0) (Some k) blocks, sum_by-cons (λ x. cond (is_none x) 1 0) (Some k) blocks)

-- where one is in use, not all are free
pub free-lt-length : (blocks : List (Option Block)) (b : ℕ) → IsSome (get_or blocks b None) → count_by is_none blocks < length blocks
free-lt-length blocks b used =
    let within = used-lt-length blocks b used in
    let one : cond {A = ℕ} (is_some (get_or blocks b None)) 1 0 ≡ 1 = ap (λ t. cond t 1 0) used in
    omega (arith, used_and_free blocks, get_or-le-sum_by (λ x. cond (is_some x) 1 0) blocks b None within)

-- how often a number stands in the numbers from one on
times-range_below : (a n k : ℕ) → k < a → times k (range_with_len a n) ≡ 0
times-range_below a zero k h = refl
times-range_below a (suc n) k h =
    omega (arith, times-cons_other k a (range_with_len (a + 1) n) (λ x. absurd (omega arith)), times-range_below (a + 1) n k (omega arith))

pub times-range : (a n k : ℕ) → a ≤ k → k < a + n → times k (range_with_len a n) ≡ 1
times-range a zero k low high = absurd (omega arith)
times-range a (suc n) k low high = elim (cases_eq a k) [
  | inl same ↦
      omega (arith, times-cons_same k a (range_with_len (a + 1) n) (sym same), times-range_below (a + 1) n k (omega arith))
  | inr other ↦
      let above : a < k = elim (cases_order a k) [ inl same ↦ absurd (other same) | inr o ↦ elim o [ inl less ↦ less | inr more ↦ absurd (omega arith) ] ] in
      omega (arith, times-cons_other k a (range_with_len (a + 1) n) (λ x. other (sym x)), times-range (a + 1) n k (omega arith) (omega arith))
]

times-range_past : (a n k : ℕ) → a + n ≤ k → times k (range_with_len a n) ≡ 0
times-range_past a zero k h = refl
times-range_past a (suc n) k h =
    omega (arith, times-cons_other k a (range_with_len (a + 1) n) (λ x. absurd (omega arith)), times-range_past (a + 1) n k (omega arith))

-- a pool of which no block was taken
pub get_or-replicate_none : (n b : ℕ) → get_or (replicate {A = Option Block} n None) b None ≡ None
get_or-replicate_none zero b = refl
get_or-replicate_none (suc n) zero = refl
get_or-replicate_none (suc n) (suc b) = get_or-replicate_none n b

pub IsSound-untouched : (n : ℕ) → IsSound (untouched n)
IsSound-untouched n =
    let blocks = replicate {A = Option Block} n None in
    let size : length blocks ≡ n = length-replicate n None in
    record {
      waiting = λ q. elim (cases_lt q n) [
        | inl less ↦
            let one : free_at blocks q ≡ 1 =
            free_at-within blocks q (rw size less) ∙ ap (λ o. cond (is_none o) 1 0) (get_or-replicate_none n q) in
            omega (arith, times-range 0 n q (omega arith) (omega arith))
        | inr past ↦ omega (arith, free_at-past blocks q (rw size past), times-range_past 0 n q (omega arith))
      ];
      counted = omega (arith, length-range_with_len 0 n, sum_by-replicate (λ x. cond (is_none x) 1 0) n (let none : Option Block = None in none));
      sized = λ q. rw (get_or-replicate_none n q) length-zeros;
    }
