-- Ranges of addresses that are tested page by page.
use Rattle.std.proofs.Common.{◌≡◌, ℕ, zero, suc, ◌+◌, ◌-◌, ◌*◌, ◌/◌, ◌<◌, ◌≤◌, Bool, true, false, List, ◌∷◌, Option, Some, None, is_some, option_map, refl, ap, sym, ◌∙◌, inl, inr, arith}
use Rattle.std.proofs.lemmas.Bool.{and_from, cases_Bool, cases_lt, both_ways}
use Rattle.run_definition.specs.Memory.{Memory, can_write, bytes_from}
use Rattle.nv_events.specs.ByPages.{IsByPages}
use Rattle.nv_events.proofs.Rooms.{writable_in}

-- the test holds of each address from one on and before another
abbrev pub Holds : (ℕ → Bool) → ℕ → ℕ → Type 0
Holds test a b = (x : ℕ) → a ≤ x → x < b → test x ≡ true

-- before the page of an address no page is to be tested
pub holds-start : (test : ℕ → Bool) (a : ℕ) → Holds test a (a / 4096 * 4096)
holds-start test a x low high = absurd (omega arith)

-- one page more, by its last address
pub holds-page : (test : ℕ → Bool) (a page at : ℕ) → IsByPages test → at ≡ page * 4096 + 4095 → Holds test a (page * 4096) → test at ≡ true → Holds test a ((page + 1) * 4096)
holds-page test a page at pages is before here x low high = elim (cases_lt x (page * 4096)) [
  | inl less ↦ before x low less
  | inr more ↦ pages x at (omega arith) (omega arith) here
]

-- and the page in which the range ends
pub holds-end : (test : ℕ → Bool) (a page last : ℕ) → IsByPages test → last / 4096 ≤ page → Holds test a (page * 4096) → test last ≡ true → Holds test a (last + 1)
holds-end test a page last pages from before here x low high = elim (cases_lt x (page * 4096)) [
  | inl less ↦ before x low less
  | inr more ↦ pages x last (omega arith) (omega arith) here
]

pub can_write-all : (m : Memory) (a n : ℕ) → Holds m.writable a (a + n) → can_write m a n ≡ true
can_write-all m a zero h = refl
can_write-all m a (suc n) h =
    and_from (m.writable a) (can_write m (a + 1) n) (h a (omega arith) (omega arith)) (can_write-all m (a + 1) n (λ x low high. h x (omega arith) (omega arith)))

pub cannot_write : (m : Memory) (a n x : ℕ) → a ≤ x → x < a + n → m.writable x ≡ false → can_write m a n ≡ false
cannot_write m a n x low high gone = elim (cases_Bool (can_write m a n)) [
  | inl all ↦
      let e : a + (x - a) ≡ x = omega arith in
      let w : m.writable x ≡ true = ap m.writable (sym e) ∙ writable_in m a n (x - a) all (omega arith) in
      absurd (both_ways _ gone w)
  | inr none ↦ none
]

-- a byte and those behind it
both_some : (o : Option ℕ) (p : Option (List ℕ)) → is_some o ≡ true → is_some p ≡ true → is_some (elim o [ None ↦ None | Some b ↦ option_map (λ bs. b ∷ bs) p ]) ≡ true
both_some None p h k = cc
both_some (Some b) None h k = cc
both_some (Some b) (Some bs) h k = refl

first_none : (o : Option ℕ) (p : Option (List ℕ)) → is_some o ≡ false → is_some (elim o [ None ↦ None | Some b ↦ option_map (λ bs. b ∷ bs) p ]) ≡ false
first_none None p h = refl
first_none (Some b) p h = cc

rest_none : (o : Option ℕ) (p : Option (List ℕ)) → is_some p ≡ false → is_some (elim o [ None ↦ None | Some b ↦ option_map (λ bs. b ∷ bs) p ]) ≡ false
rest_none None p h = refl
rest_none (Some b) None h = refl
rest_none (Some b) (Some bs) h = cc

pub bytes_from-all : (m : Memory) (a n : ℕ) → Holds (λ x. is_some (m.byte x)) a (a + n) → is_some (bytes_from m a n) ≡ true
bytes_from-all m a zero h = refl
bytes_from-all m a (suc n) h =
    both_some (m.byte a) (bytes_from m (a + 1) n) (h a (omega arith) (omega arith)) (bytes_from-all m (a + 1) n (λ x low high. h x (omega arith) (omega arith)))

pub cannot_read : (m : Memory) (a n x : ℕ) → a ≤ x → x < a + n → is_some (m.byte x) ≡ false → is_some (bytes_from m a n) ≡ false
cannot_read m a zero x low high gone = absurd (omega arith)
cannot_read m a (suc n) x low high gone = elim (cases_lt a x) [
  | inl less ↦ rest_none (m.byte a) (bytes_from m (a + 1) n) (cannot_read m (a + 1) n x (omega arith) (omega arith) gone)
  | inr here ↦
      let e : a ≡ x = omega arith in
      first_none (m.byte a) (bytes_from m (a + 1) n) (ap (λ k. is_some (m.byte k)) e ∙ gone)
]
