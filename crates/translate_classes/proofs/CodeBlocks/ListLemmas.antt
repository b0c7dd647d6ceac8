-- Lists that are made of each other.
use Rattle.std.proofs.Common.{◌≡◌, ℕ, zero, suc, ◌+◌, ◌<◌, ◌≤◌, Bool, true, false, cond, ◌&&◌, List, [], ◌∷◌, ◌++◌, map, All, refl, ap, arith}
use Rattle.std.specs.Prelude.{filter, flat_map, zip, AllPairs}
use Rattle.std.specs.List.{range_with_len}
use Rattle.std.proofs.lemmas.List.Elements.{All-nil, All-cons, All-append, All-map, All-weaker, filter_passes}
use Rattle.std.proofs.lemmas.List.Kept.{AllPairs-cons, AllPairs-filter}

-- ---- lists side by side, and what a test leaves

pub zip-maps : {X A B : Type 0} (f : X → A) (g : X → B) (xs : List X) → zip (map f xs) (map g xs) ≡ map (λ (x : X). (f x, g x)) xs
zip-maps f g [] = refl
zip-maps f g (x ∷ xs) = ap (λ l. (f x, g x) ∷ l) (zip-maps f g xs)

pub map-map : {X A B : Type 0} (g : A → B) (f : X → A) (xs : List X) → map g (map f xs) ≡ map (λ (x : X). g (f x)) xs
map-map g f [] = refl
map-map g f (x ∷ xs) = ap (λ l. g (f x) ∷ l) (map-map g f xs)

pub filter-map : {X A : Type 0} (test : A → Bool) (f : X → A) (xs : List X) → filter test (map f xs) ≡ map f (filter (λ (x : X). test (f x)) xs)
filter-map test f [] = refl
filter-map test f (x ∷ xs) = by_first (test (f x)) (filter-map test f xs)
  where
    by_first : (b : Bool) → filter test (map f xs) ≡ map f (filter (λ y. test (f y)) xs)
        → cond b (f x ∷ filter test (map f xs)) (filter test (map f xs))
        ≡ map f (cond b (x ∷ filter (λ y. test (f y)) xs) (filter (λ y. test (f y)) xs))
    by_first true others = ap (λ l. f x ∷ l) others
    by_first false others = others

pub filter-filter : {X : Type 0} (test more : X → Bool) (xs : List X) → filter more (filter test xs) ≡ filter (λ (x : X). test x && more x) xs
filter-filter test more [] = refl
filter-filter test more (x ∷ xs) = by_first (test x) (filter-filter test more xs)
  where
    by_first : (b : Bool) → filter more (filter test xs) ≡ filter (λ y. test y && more y) xs
        → filter more (cond b (x ∷ filter test xs) (filter test xs))
        ≡ cond (b && more x) (x ∷ filter (λ y. test y && more y) xs) (filter (λ y. test y && more y) xs)
    by_first true others = ap (λ l. cond (more x) (x ∷ l) l) others
    by_first false others = others

-- ---- what holds of each, and of each and each later one

pub range-all : (a n : ℕ) → All (λ k. (a ≤ k) × (k < a + n)) (range_with_len a n)
range-all a zero = All-nil (λ k. (a ≤ k) × (k < a + 0))
range-all a (suc n) =
    All-cons (λ k. (a ≤ k) × (k < a + suc n)) a (range_with_len (a + 1) n) (omega arith, omega arith)
    (All-weaker (λ k. (a + 1 ≤ k) × (k < a + 1 + n)) (λ k. (a ≤ k) × (k < a + suc n)) (λ k within. (omega (arith, within.0), omega (arith, within.1)))
    (range_with_len (a + 1) n) (range-all (a + 1) n))

pub range-rises : (a n : ℕ) → AllPairs (λ i j. (a ≤ i) × (i < j)) (range_with_len a n)
range-rises a zero = λ i j d before within. absurd (omega arith)
range-rises a (suc n) =
    let others = range-rises (a + 1) n in
    AllPairs-cons (λ i j. (a ≤ i) × (i < j)) a (range_with_len (a + 1) n)
    (All-weaker (λ k. (a + 1 ≤ k) × (k < a + 1 + n)) (λ k. (a ≤ a) × (a < k)) (λ k within. (omega arith, omega (arith, within.0)))
    (range_with_len (a + 1) n) (range-all (a + 1) n))
    (λ i j d before within. let rise = others i j d before within in (omega (arith, rise.0), rise.1))

-- of what a test leaves each passes
pub filter-pairs : {X : Type 0} (R : X → X → Type 0) (test : X → Bool) (xs : List X) → AllPairs R xs
    → AllPairs (λ x y. (test x ≡ true) × R x y) (filter test xs)
filter-pairs R test xs all = λ i j d before within.
    (filter_passes test xs i d (omega (arith, before, within)), AllPairs-filter R test xs all i j d before within)

pub map-pairs : {X A : Type 0} (R : A → A → Type 0) (f : X → A) (xs : List X) → AllPairs (λ x y. R (f x) (f y)) xs → AllPairs R (map f xs)
map-pairs R f [] all = λ i j d before within. absurd (omega arith)
map-pairs R f (x ∷ xs) all =
    AllPairs-cons R (f x) (map f xs) (All-map (R (f x)) f xs (λ j d within. all zero (suc j) d (omega arith) (omega arith)))
    (map-pairs R f xs (λ i j d before within. all (suc i) (suc j) d (omega arith) (omega arith)))

pub append-pairs : {X : Type 0} (R : X → X → Type 0) (xs ys : List X) → AllPairs R xs → AllPairs R ys → All (λ x. All (R x) ys) xs
    → AllPairs R (xs ++ ys)
append-pairs R [] ys first second between = second
append-pairs R (x ∷ xs) ys first second between =
    let others : All (λ y. All (R y) ys) xs = λ k d within. between (suc k) d (omega arith) in
    AllPairs-cons R x (xs ++ ys)
    (All-append (R x) xs ys (λ j d within. first zero (suc j) d (omega arith) (omega arith)) (between zero x (omega arith)))
    (append-pairs R xs ys (λ i j d before within. first (suc i) (suc j) d (omega arith) (omega arith)) second others)

-- ---- lists of numbered lists

pub flat-all : {X : Type 0} (P : X → Type 0) (F : ℕ → List X) (a n : ℕ) → ((k : ℕ) → a ≤ k → k < a + n → All P (F k))
    → All P (flat_map F (range_with_len a n))
flat-all P F a zero each = All-nil P
flat-all P F a (suc n) each =
    All-append P (F a) (flat_map F (range_with_len (a + 1) n)) (each a (omega arith) (omega arith))
    (flat-all P F (a + 1) n (λ k from within. each k (omega arith) (omega arith)))

pub flat-pairs : {X : Type 0} (R : X → X → Type 0) (F : ℕ → List X) (a n : ℕ) → ((k : ℕ) → a ≤ k → k < a + n → AllPairs R (F k))
    → ((i j : ℕ) → a ≤ i → i < j → j < a + n → All (λ x. All (R x) (F j)) (F i)) → AllPairs R (flat_map F (range_with_len a n))
flat-pairs R F a zero each between = λ i j d before within. absurd (omega arith)
flat-pairs R F a (suc n) each between =
    append-pairs R (F a) (flat_map F (range_with_len (a + 1) n)) (each a (omega arith) (omega arith))
    (flat-pairs R F (a + 1) n (λ k from within. each k (omega arith) (omega arith))
    (λ i j from before within. between i j (omega arith) before (omega arith)))
    (λ k d within. flat-all (R _) F (a + 1) n (λ j from below. between a j (omega arith) (omega arith) (omega arith) k d within))
