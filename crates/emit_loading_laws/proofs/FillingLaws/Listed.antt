-- The pages of a program as a list that rises.
use Rattle.std.proofs.Common.{◌≡◌, ℕ, zero, suc, ◌<◌, ◌≤◌, ◌==◌, nat_lt, ◌&&◌, ◌||◌, Bool, true, false, if◌then◌else◌, List, [], ◌∷◌, ◌++◌, ◌⊎◌, inl, inr, refl, ap, ◌∙◌, sym, arith}
use Rattle.std.proofs.lemmas.Bool.{eq-eqb, ne_eqb, eqb-true, lt-ltb, le-ltb, cases_eq, cases_lt}
use Rattle.std.proofs.lemmas.List.Folds.{list_any-append}
use Rattle.elf_image_parts.specs.Runs.{pages_of}
use Rattle.emit_loading_laws.specs.MadePages.{PagesRise, is_among, is_written_among}

-- ---- they rise

-- the pages rise from one on, to before another
abbrev Between : ℕ → List (ℕ × Bool) → ℕ → Type 0
Between low [] high = low ≤ high
Between low (x ∷ xs) high = (low ≤ x.0) × Between (suc x.0) xs high

between-rise : (low high : ℕ) (xs : List (ℕ × Bool)) → Between low xs high → PagesRise low xs
between-rise low high [] between = tt
between-rise low high (x ∷ xs) between = (between.0, between-rise (suc x.0) high xs between.1)

between-more : (low high : ℕ) (xs : List (ℕ × Bool)) → Between low xs high → Between low xs (suc high)
between-more low high [] between = omega (arith, between)
between-more low high (x ∷ xs) between = (between.0, between-more (suc x.0) high xs between.1)

between-push : (low page : ℕ) (w : Bool) (xs : List (ℕ × Bool)) → Between low xs page → Between low (xs ++ (page, w) ∷ []) (suc page)
between-push low page w [] between = (between, omega arith)
between-push low page w (x ∷ xs) between = (between.0, between-push (suc x.0) page w xs between.1)

between-if : (b w : Bool) (page : ℕ) (xs : List (ℕ × Bool)) → Between 0 xs page → Between 0 (xs ++ (if b then (page, w) ∷ [] else [])) (suc page)
between-if true w page xs between = between-push 0 page w xs between
between-if false w page xs between = between-none 0 xs (between-more 0 page xs between)
  where
    between-none : (low : ℕ) (xs : List (ℕ × Bool)) → Between low xs (suc page) → Between low (xs ++ []) (suc page)
    between-none low [] between = between
    between-none low (x ∷ xs) between = (between.0, between-none (suc x.0) xs between.1)

between-of : (readable writable : ℕ → Bool) (page : ℕ) → Between 0 (pages_of readable writable page) page
unfolding pages_of
between-of readable writable zero = omega arith
between-of readable writable (suc page) =
    between-if (readable page) (writable page) page (pages_of readable writable page) (between-of readable writable page)

pub pages-rise : (readable writable : ℕ → Bool) (page : ℕ) → PagesRise 0 (pages_of readable writable page)
pages-rise readable writable page =
    between-rise 0 page (pages_of readable writable page) (between-of readable writable page)

-- ---- which they are

-- the test of a page below the next one
below-next : (n page : ℕ) → nat_lt n (suc page) ≡ (nat_lt n page || (n == page))
below-next n page = elim (cases_lt n page) [
  | inl less ↦
      let more : n < suc page = omega (arith, less) in
      lt-ltb n (suc page) more ∙ sym (ap (λ b. b || (n == page)) (lt-ltb n page less))
  | inr from ↦ at-last from (cases_eq n page)
]
  where
    at-last : page ≤ n → (n ≡ page) ⊎ (n ≡ page → ⊥) → nat_lt n (suc page) ≡ (nat_lt n page || (n == page))
    at-last from (inl e) =
        let more : n < suc page = omega (arith, e) in
        lt-ltb n (suc page) more
        ∙ sym (ap (λ b. b || (n == page)) (le-ltb n page from) ∙ eq-eqb n page e)
    at-last from (inr ne) =
        let past : suc page ≤ n = omega (arith, from, ne) in
        le-ltb n (suc page) past
        ∙ sym (ap (λ b. b || (n == page)) (le-ltb n page from) ∙ ne_eqb n page ne)

-- one page more, if it can be read
one-among : (r w : Bool) (n page : ℕ) → is_among (if r then (page, w) ∷ [] else []) n ≡ ((n == page) && r)
one-among true w n page = or-none (n == page)
  where
    or-none : (b : Bool) → (b || false) ≡ (b && true)
    or-none true = refl
    or-none false = refl
one-among false w n page = and-none (n == page)
  where
    and-none : (b : Bool) → false ≡ (b && false)
    and-none true = refl
    and-none false = refl

one-written : (r w : Bool) (n page : ℕ) → is_written_among (if r then (page, w) ∷ [] else []) n ≡ ((n == page) && (r && w))
one-written true true n page = or-none (n == page)
  where
    or-none : (b : Bool) → (b || false) ≡ (b && true)
    or-none true = refl
    or-none false = refl
one-written true false n page = and-none (n == page)
  where
    and-none : (b : Bool) → false ≡ (b && false)
    and-none true = refl
    and-none false = refl
one-written false w n page = and-none (n == page)
  where
    and-none : (b : Bool) → false ≡ (b && false)
    and-none true = refl
    and-none false = refl

-- the test of the page and that of all before it
step-test : (less here r s : Bool) → (here ≡ true → r ≡ s) → ((less && r) || (here && s)) ≡ ((less || here) && r)
step-test true true r s same = ap (λ b. r || b) (sym (same refl)) ∙ twice r
  where
    twice : (b : Bool) → (b || b) ≡ b
    twice true = refl
    twice false = refl
step-test true false r s same = or-none r
  where
    or-none : (b : Bool) → (b || false) ≡ b
    or-none true = refl
    or-none false = refl
step-test false true r s same = sym (same refl)
step-test false false r s same = refl

pub read-among : (readable writable : ℕ → Bool) (page n : ℕ) → is_among (pages_of readable writable page) n ≡ (nat_lt n page && readable n)
unfolding pages_of
read-among readable writable zero n = sym (ap (λ b. b && readable n) (le-ltb n 0 (omega arith)))
read-among readable writable (suc page) n =
    list_any-append (λ (x : ℕ × Bool). n == x.0) (pages_of readable writable page) (if readable page then (page, writable page) ∷ [] else [])
    ∙ ap (λ b. b || is_among (if readable page then (page, writable page) ∷ [] else []) n) (read-among readable writable page n)
    ∙ ap (λ b. (nat_lt n page && readable n) || b) (one-among (readable page) (writable page) n page)
    ∙ step-test (nat_lt n page) (n == page) (readable n) (readable page) (λ e. ap readable (eqb-true n page e))
    ∙ ap (λ b. b && readable n) (sym (below-next n page))

pub written-among : (readable writable : ℕ → Bool) (page n : ℕ) → is_written_among (pages_of readable writable page) n ≡ (nat_lt n page && (readable n && writable n))
unfolding pages_of
written-among readable writable zero n = sym (ap (λ b. b && (readable n && writable n)) (le-ltb n 0 (omega arith)))
written-among readable writable (suc page) n =
    list_any-append (λ (x : ℕ × Bool). x.1 && (n == x.0)) (pages_of readable writable page) (if readable page then (page, writable page) ∷ [] else [])
    ∙ ap (λ b. b || is_written_among (if readable page then (page, writable page) ∷ [] else []) n) (written-among readable writable page n)
    ∙ ap (λ b. (nat_lt n page && (readable n && writable n)) || b) (one-written (readable page) (writable page) n page)
    ∙ step-test (nat_lt n page) (n == page) (readable n && writable n) (readable page && writable page) (λ e. ap (λ k. readable k && writable k) (eqb-true n page e))
    ∙ ap (λ b. b && (readable n && writable n)) (sym (below-next n page))
