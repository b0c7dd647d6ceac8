-- Which pages tables have when pages were made.
use Rattle.std.proofs.Common.{◌≡◌, ℕ, suc, ◌+◌, ◌<◌, ◌≤◌, ◌==◌, ◌&&◌, ◌||◌, Bool, true, false, if◌then◌else◌, List, [], ◌∷◌, Option, Some, None, is_some, ◌⊎◌, inl, inr, refl, ap, ◌∙◌, sym, arith}
use Rattle.std.proofs.lemmas.Bool.{eq-eqb, ne_eqb, cases_eq}
use Rattle.std.proofs.lemmas.Option.{same_Some, none-some}
use Rattle.jvm_definition.specs.Values.{Array, ints, Heap, with_new, with_page}
use Rattle.emit_loading_laws.specs.Filled.{AreApart}
use Rattle.emit_loading_laws.specs.MadePages.{HasTables, with_new_page, with_made, made, with_place, with_place_if, readable_after, writable_after, PagesRise, is_among, is_written_among, ArePages}
use Rattle.emit_loading_laws.proofs.FillingLaws.Tables.{array-there, tables-stay, used-made}

-- ---- places

place-there : (places : ℕ → Option ℕ) (page p n q : ℕ) → n ≡ page → with_place places page p n ≡ Some q → p ≡ q
place-there places page p n q e is =
    same_Some p q (sym (ap (λ b. if b then Some p else places n) (eq-eqb n page e)) ∙ is)

place-elsewhere : (places : ℕ → Option ℕ) (page p n : ℕ) → (n ≡ page → ⊥) → with_place places page p n ≡ places n
place-elsewhere places page p n ne = ap (λ b. if b then Some p else places n) (ne_eqb n page ne)

-- ---- which pages are there

either-some : (b a : Bool) (o : Option ℕ) (p : ℕ) → (a || is_some (if b then Some p else o)) ≡ ((b || a) || is_some o)
either-some true true o p = refl
either-some true false o p = refl
either-some false a o p = refl

pub read-told : (xs : List (ℕ × Bool)) (places : ℕ → Option ℕ) (used n : ℕ) → is_some (readable_after places used xs n) ≡ (is_among xs n || is_some (places n))
read-told [] places used n = refl
read-told (x ∷ xs) places used n =
    read-told xs (with_place places x.0 used) (used + 1026) n ∙ either-some (n == x.0) (is_among xs n) (places n) used

written-one : (w b a : Bool) (places : ℕ → Option ℕ) (page p n : ℕ) → (n == page) ≡ b → (a || is_some (with_place_if w places page p n)) ≡ (((w && b) || a) || is_some (places n))
written-one true b a places page p n e =
    ap (λ t. a || is_some (if t then Some p else places n)) e ∙ either-some b a (places n) p
written-one false b a places page p n e = refl

pub written-told : (xs : List (ℕ × Bool)) (places : ℕ → Option ℕ) (used n : ℕ) → is_some (writable_after places used xs n) ≡ (is_written_among xs n || is_some (places n))
written-told [] places used n = refl
written-told (x ∷ xs) places used n =
    written-told xs (with_place_if x.1 places x.0 used) (used + 1026) n
    ∙ written-one x.1 (n == x.0) (is_written_among xs n) places x.0 used n refl

-- ---- arrays of zeros

zero_array : Option Array
zero_array = Some (ints 1024 (λ _. 0))

-- an array of ints stays when a table is written
stays-ints : (heap : Heap) (table page q : ℕ) (p : Option ℕ) → heap.array_at q ≡ Some (ints 1024 (λ _. 0)) → (with_page heap table page p).array_at q ≡ Some (ints 1024 (λ _. 0))
stays-ints heap table page q p is = simp is (either (q == table))
  where
    either : (b : Bool) → (if b then Some (ints 1024 (λ _. 0)) else Some (ints 1024 (λ _. 0))) ≡ Some (ints 1024 (λ _. 0))
    either true = refl
    either false = refl

-- what holds while pages rise
record Rising (heap : Heap) (readable_pages writable_pages : ℕ → Option ℕ) (low : ℕ) : Type 0 where
  zeros : (n p : ℕ) → readable_pages n ≡ Some p → heap.array_at p ≡ Some (ints 1024 (λ _. 0))
  before : (n p : ℕ) → readable_pages n ≡ Some p → p < heap.used
  apart : AreApart readable_pages
  shared : (n p : ℕ) → writable_pages n ≡ Some p → readable_pages n ≡ Some p
  free : (n : ℕ) → low ≤ n → readable_pages n ≡ None

module _ (readable writable : ℕ) (readable_pages writable_pages : ℕ → Option ℕ) (heap : Heap) (has : HasTables heap readable writable readable_pages writable_pages) (page low : ℕ) (rise : low ≤ page) (r : Rising heap readable_pages writable_pages low) where
  abbrev used : ℕ
  used = heap.used

  abbrev places : ℕ → Option ℕ
  places = with_place readable_pages page used

  -- an old page is another one
  other-page : (n p : ℕ) → readable_pages n ≡ Some p → n ≡ page → ⊥
  other-page n p is e = none-some p (sym (r.free n (omega (arith, e, rise))) ∙ is)

  -- its array stays
  old-stays : (w : Bool) (n p : ℕ) → readable_pages n ≡ Some p → (with_made readable writable heap page w).array_at p ≡ Some (ints 1024 (λ _. 0))
  old-stays w n p is = by_sort w
    where
      less : p < used
      less = r.before n p is

      new : (with_new heap (ints 1024 (λ _. 0))).array_at p ≡ Some (ints 1024 (λ _. 0))
      new =
          ap (λ b. if b then Some (ints 1024 (λ _. 0)) else heap.array_at p) (ne_eqb p used (λ e. absurd (omega (arith, e, less))))
          ∙ r.zeros n p is

      first : (with_new_page heap readable page).array_at p ≡ Some (ints 1024 (λ _. 0))
      first = stays-ints (with_new heap (ints 1024 (λ _. 0))) readable page p (Some used) new

      by_sort : (w : Bool) → (with_made readable writable heap page w).array_at p ≡ Some (ints 1024 (λ _. 0))
      by_sort false = first
      by_sort true = stays-ints (with_new_page heap readable page) writable page p (Some used) first

  new-there : (w : Bool) → (with_made readable writable heap page w).array_at used ≡ Some (ints 1024 (λ _. 0))
  new-there false = array-there readable writable readable_pages writable_pages heap has page
  new-there true =
      stays-ints (with_new_page heap readable page) writable page used (Some used) (array-there readable writable readable_pages writable_pages heap has page)

  -- a page that is there is the new one, or an old one
  which : (n p : ℕ) → places n ≡ Some p → ((n ≡ page) × (used ≡ p)) ⊎ ((n ≡ page → ⊥) × (readable_pages n ≡ Some p))
  which n p is = elim (cases_eq n page) [
    | inl e ↦ inl (e, place-there readable_pages page used n p e is)
    | inr ne ↦ inr (ne, sym (place-elsewhere readable_pages page used n ne) ∙ is)
  ]

  zeros-then : (w : Bool) (n p : ℕ) → ((n ≡ page) × (used ≡ p)) ⊎ ((n ≡ page → ⊥) × (readable_pages n ≡ Some p)) → (with_made readable writable heap page w).array_at p ≡ Some (ints 1024 (λ _. 0))
  zeros-then w n p (inl here) = ap (with_made readable writable heap page w).array_at (sym here.1) ∙ new-there w
  zeros-then w n p (inr old) = old-stays w n p old.1

  before-then : (n p : ℕ) → ((n ≡ page) × (used ≡ p)) ⊎ ((n ≡ page → ⊥) × (readable_pages n ≡ Some p)) → p < used + 1026
  before-then n p (inl here) = let e = here.1 in omega (arith, e)
  before-then n p (inr old) = let less = r.before n p old.1 in omega (arith, less)

  apart-then : (n k p : ℕ) → ((n ≡ page) × (used ≡ p)) ⊎ ((n ≡ page → ⊥) × (readable_pages n ≡ Some p)) → ((k ≡ page) × (used ≡ p)) ⊎ ((k ≡ page → ⊥) × (readable_pages k ≡ Some p)) → n ≡ k
  apart-then n k p (inl first) (inl second) = first.0 ∙ sym second.0
  apart-then n k p (inl first) (inr second) =
      let e = first.1 in let less = r.before k p second.1 in absurd (omega (arith, e, less))
  apart-then n k p (inr first) (inl second) =
      let e = second.1 in let less = r.before n p first.1 in absurd (omega (arith, e, less))
  apart-then n k p (inr first) (inr second) = r.apart n k p first.1 second.1

  shared-then : (w : Bool) (n p : ℕ) → with_place_if w writable_pages page used n ≡ Some p → places n ≡ Some p
  shared-then true n p is = elim (cases_eq n page) [
    | inl e ↦ ap (λ b. if b then Some used else readable_pages n) (eq-eqb n page e) ∙ ap Some (place-there writable_pages page used n p e is)
    | inr ne ↦ place-elsewhere readable_pages page used n ne ∙ r.shared n p (sym (place-elsewhere writable_pages page used n ne) ∙ is)
  ]
  shared-then false n p is =
      let old = r.shared n p is in place-elsewhere readable_pages page used n (other-page n p old) ∙ old

  rising-then : (w : Bool) → Rising (with_made readable writable heap page w) places (with_place_if w writable_pages page used) (suc page)
  rising-then w =
      let size = used-made readable writable heap page w in
      record {
        zeros = λ n p is. zeros-then w n p (which n p is);
        before = λ n p is. let less = before-then n p (which n p is) in omega (arith, less, size);
        apart = λ n k p is there. apart-then n k p (which n p is) (which k p there);
        shared = shared-then w;
        free = λ n more. place-elsewhere readable_pages page used n (λ e. absurd (omega (arith, e, more))) ∙ r.free n (omega (arith, rise, more));
      }

-- ---- all of them

pub tables-after : (readable writable : ℕ) (xs : List (ℕ × Bool)) (heap : Heap) (readable_pages writable_pages : ℕ → Option ℕ) → HasTables heap readable writable readable_pages writable_pages → HasTables (made readable writable heap xs) readable writable (readable_after readable_pages heap.used xs) (writable_after writable_pages heap.used xs)
tables-after readable writable [] heap readable_pages writable_pages has = has
tables-after readable writable (x ∷ xs) heap readable_pages writable_pages has =
    let there = tables-after readable writable xs (with_made readable writable heap x.0 x.1) (with_place readable_pages x.0 heap.used) (with_place_if x.1 writable_pages x.0 heap.used) (tables-stay readable writable readable_pages writable_pages heap has x.0 x.1) in
    rw (used-made readable writable heap x.0 x.1) at there

rising-after : (readable writable : ℕ) (xs : List (ℕ × Bool)) (heap : Heap) (readable_pages writable_pages : ℕ → Option ℕ) (low : ℕ) → HasTables heap readable writable readable_pages writable_pages → Rising heap readable_pages writable_pages low → PagesRise low xs → (high : ℕ) × Rising (made readable writable heap xs) (readable_after readable_pages heap.used xs) (writable_after writable_pages heap.used xs) high
rising-after readable writable [] heap readable_pages writable_pages low has r rise = (low, r)
rising-after readable writable (x ∷ xs) heap readable_pages writable_pages low has r rise =
    let there = rising-after readable writable xs (with_made readable writable heap x.0 x.1) (with_place readable_pages x.0 heap.used) (with_place_if x.1 writable_pages x.0 heap.used) (suc x.0) (tables-stay readable writable readable_pages writable_pages heap has x.0 x.1) (rising-then readable writable readable_pages writable_pages heap has x.0 low rise.0 r x.1) rise.1 in
    rw (used-made readable writable heap x.0 x.1) at there

-- from empty tables on
pub pages-there : (readable writable : ℕ) (xs : List (ℕ × Bool)) (heap : Heap) → HasTables heap readable writable (λ _. None) (λ _. None) → PagesRise 0 xs → ArePages (made readable writable heap xs) (readable_after (λ _. None) heap.used xs) (writable_after (λ _. None) heap.used xs) xs
pages-there readable writable xs heap has rise =
    let none : ℕ → Option ℕ = λ _. None in
    let empty : Rising heap none none 0 = record { zeros = λ n p is. absurd (none-some p is); before = λ n p is. absurd (none-some p is); apart = λ n k p is there. absurd (none-some p is); shared = λ n p is. absurd (none-some p is); free = λ n more. refl } in
    let there = rising-after readable writable xs heap none none 0 has empty rise in
    record {
      zeros = there.1.zeros;
      pages_apart = there.1.apart;
      shared = there.1.shared;
      read = λ n. read-told xs none heap.used n ∙ or-false (is_among xs n);
      written = λ n. written-told xs none heap.used n ∙ or-false (is_written_among xs n);
    }
  where
    or-false : (b : Bool) → (b || false) ≡ b
    or-false true = refl
    or-false false = refl
