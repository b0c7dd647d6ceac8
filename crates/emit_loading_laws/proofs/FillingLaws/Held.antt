-- What stands in pages that were filled.
use Rattle.std.proofs.Common.{◌≡◌, ℕ, suc, ◌<◌, ◌==◌, if◌then◌else◌, List, [], ◌∷◌, Option, Some, None, ◌⊎◌, inl, inr, refl, ap, ◌∙◌, sym, arith}
use Rattle.std.proofs.lemmas.Bool.{eq-eqb, ne_eqb, cases_eq}
use Rattle.jvm_definition.specs.Values.{Heap}
use Rattle.emit_loading.specs.declared.page_slot.PageSlot.{PageSlot}
use Rattle.emit_loading_laws.specs.Arrays.{set_ints}
use Rattle.emit_loading_laws.specs.Filled.{HoldsPages, AreApart, with_page_ints, filled, words_for, RiseFrom}
use Rattle.emit_loading_laws.proofs.FillingLaws.Fronts.{set-none}
use Rattle.emit_loading_laws.proofs.FillingLaws.Filling.{stays-held}

-- ---- one page

-- the array of a page that is there
put-there : (heap : Heap) (o : Option ℕ) (given : List ℕ) (p : ℕ) → o ≡ Some p → (with_page_ints heap o given).array_at p ≡ set_ints (heap.array_at p) given
put-there heap o given p is =
    ap (λ x. (with_page_ints heap x given).array_at p) is
    ∙ ap (λ b. if b then set_ints (heap.array_at p) given else heap.array_at p) (eq-eqb p p refl)

-- any other one
put-elsewhere : (heap : Heap) (o : Option ℕ) (given : List ℕ) (q : ℕ) → (o ≡ Some q → ⊥) → (with_page_ints heap o given).array_at q ≡ heap.array_at q
put-elsewhere heap None given q apart = refl
put-elsewhere heap (Some p) given q apart =
    ap (λ b. if b then set_ints (heap.array_at q) given else heap.array_at q) (ne_eqb q p (λ e. apart (ap Some (sym e))))

put-used : (heap : Heap) (o : Option ℕ) (given : List ℕ) → (with_page_ints heap o given).used ≡ heap.used
put-used heap None given = refl
put-used heap (Some p) given = refl

-- ---- all of them

none-for : (given : ℕ → List ℕ) (slots : List PageSlot) (low n : ℕ) → RiseFrom low slots → n < low → words_for given slots n ≡ []
none-for given [] low n rise less = refl
none-for given (s ∷ slots) low n rise less =
    ap (λ b. if b then given s.slot else words_for given slots n) (ne_eqb s.page n (λ e. absurd (omega (arith, e, rise.0, less))))
    ∙ none-for given slots (suc s.page) n rise.1 (omega (arith, rise.0, less))

module _ (places : ℕ → Option ℕ) (given : ℕ → List ℕ) (apart : AreApart places) where
  pub page-holds : (slots : List PageSlot) (heap : Heap) (low n p : ℕ) → RiseFrom low slots → places n ≡ Some p → (filled places given heap slots).array_at p ≡ set_ints (heap.array_at p) (words_for given slots n)
  page-holds [] heap low n p rise is = set-none (heap.array_at p)
  page-holds (s ∷ slots) heap low n p rise is =
      page-holds slots (with_page_ints heap (places s.page) (given s.slot)) (suc s.page) n p rise.1 is ∙ by_page (cases_eq s.page n)
    where
      by_page : (s.page ≡ n) ⊎ (s.page ≡ n → ⊥) → set_ints ((with_page_ints heap (places s.page) (given s.slot)).array_at p) (words_for given slots n) ≡ set_ints (heap.array_at p) (if s.page == n then given s.slot else words_for given slots n)
      by_page (inl e) =
          ap (set_ints ((with_page_ints heap (places s.page) (given s.slot)).array_at p)) (none-for given slots (suc s.page) n rise.1 (omega (arith, e)))
          ∙ sym (set-none ((with_page_ints heap (places s.page) (given s.slot)).array_at p))
          ∙ put-there heap (places s.page) (given s.slot) p (ap places e ∙ is)
          ∙ sym (ap (λ b. set_ints (heap.array_at p) (if b then given s.slot else words_for given slots n)) (eq-eqb s.page n e))
      by_page (inr ne) =
          ap (λ a. set_ints a (words_for given slots n)) (put-elsewhere heap (places s.page) (given s.slot) p (λ e. ne (apart s.page n p e is)))
          ∙ sym (ap (λ b. set_ints (heap.array_at p) (if b then given s.slot else words_for given slots n)) (ne_eqb s.page n ne))

pub others-stay : (places : ℕ → Option ℕ) (given : ℕ → List ℕ) (slots : List PageSlot) (heap : Heap) (q : ℕ) → ((n : ℕ) → places n ≡ Some q → ⊥) → (filled places given heap slots).array_at q ≡ heap.array_at q
others-stay places given [] heap q apart = refl
others-stay places given (s ∷ slots) heap q apart =
    others-stay places given slots (with_page_ints heap (places s.page) (given s.slot)) q apart
    ∙ put-elsewhere heap (places s.page) (given s.slot) q (apart s.page)

pub used-stays : (places : ℕ → Option ℕ) (given : ℕ → List ℕ) (slots : List PageSlot) (heap : Heap) → (filled places given heap slots).used ≡ heap.used
used-stays places given [] heap = refl
used-stays places given (s ∷ slots) heap =
    used-stays places given slots (with_page_ints heap (places s.page) (given s.slot))
    ∙ put-used heap (places s.page) (given s.slot)

pub held-stays : (places : ℕ → Option ℕ) (given : ℕ → List ℕ) (slots : List PageSlot) (heap : Heap) (table : ℕ) → HoldsPages heap table places → HoldsPages (filled places given heap slots) table places
held-stays places given [] heap table held = held
held-stays places given (s ∷ slots) heap table held =
    held-stays places given slots (with_page_ints heap (places s.page) (given s.slot)) table (stays-held heap (places s.page) (given s.slot) table places held)
