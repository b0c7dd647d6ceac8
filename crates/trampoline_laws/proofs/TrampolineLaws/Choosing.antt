-- The method that is chosen for an address, among starts that rise.
use Rattle.std.proofs.Common.{◌≡◌, ℕ, zero, suc, ◌+◌, ◌^◌, ◌<◌, ◌≤◌, pos, int_lt, nat_lt, Bool, true, false, if◌then◌else◌, inl, inr, List, [], ◌∷◌, ◌++◌, map, refl, ap, subst, sym, ◌∙◌, arith}
use Rattle.std.specs.List.{range_with_len}
use Rattle.std.proofs.lemmas.Bool.{lt-ltb, le-ltb, cases_lt}
use Rattle.std.proofs.lemmas.Int.{ints}
use Rattle.run_definition.specs.Words.{signed_of}
use Rattle.trampoline.specs.declared.start.Start.{Start}
use Rattle.trampoline_laws.specs.Choosing.{is_below, chosen_from, chosen, RiseFrom}

-- ---- addresses below 80000000 (hexadecimal)

signed-low : (x : ℕ) → x < 2 ^ 31 → signed_of x ≡ pos x
signed-low x low = grind (arith, ints)

compared : (x first : ℕ) → x < 2 ^ 31 → first < 2 ^ 31 → is_below x first ≡ nat_lt x first
compared x first low h = ap (λ z. int_lt z (signed_of first)) (signed-low x low) ∙ ap (λ z. int_lt (pos x) z) (signed-low first h)

pub is-before : (x first : ℕ) → first < 2 ^ 31 → x < first → is_below x first ≡ true
is-before x first low less = compared x first (omega arith) low ∙ lt-ltb x first less

pub is-reached : (x first : ℕ) → x < 2 ^ 31 → first ≤ x → is_below x first ≡ false
is-reached x first low more = compared x first low (omega arith) ∙ le-ltb x first more

-- ---- starts one after the other

pub rise-lower : (low high : ℕ) (starts : List Start) → low ≤ high → RiseFrom high starts → RiseFrom low starts
rise-lower low high [] less rise = tt
rise-lower low high (s ∷ starts) less rise = (omega (arith, rise.0), rise.1, rise.2)

pub none-reached : (x bound method : ℕ) (starts : List Start) → x < bound → RiseFrom bound starts → chosen_from method starts x ≡ method
none-reached x bound method [] less rise = refl
none-reached x bound method (s ∷ starts) less rise =
    ap (λ b. chosen_from (if b then method else s.method) starts x) (is-before x s.first rise.1 (omega (arith, rise.0)))
    ∙ none-reached x (suc s.first) method starts (omega (arith, rise.0)) rise.2

pub one-reached : (x method : ℕ) (s : Start) (starts : List Start) → x < 2 ^ 31 → s.first ≤ x → chosen_from method (s ∷ starts) x ≡ chosen_from s.method starts x
one-reached x method s starts low more =
    ap (λ b. chosen_from (if b then method else s.method) starts x) (is-reached x s.first low more)

pub chosen-joined : (x method : ℕ) (front back : List Start) → chosen_from method (front ++ back) x ≡ chosen_from (chosen_from method front x) back x
chosen-joined x method [] back = refl
chosen-joined x method (s ∷ front) back = chosen-joined x (if is_below x s.first then method else s.method) front back

-- a method from which the choice begins
either-way : (b : Bool) (m : ℕ) → (if b then m else m) ≡ m
either-way true m = refl
either-way false m = refl

pub chosen-begins : (x : ℕ) (starts : List Start) → (m : ℕ) × (chosen starts x ≡ chosen_from m starts x)
chosen-begins x [] = (0, refl)
chosen-begins x (s ∷ starts) = (s.method, ap (λ m. chosen_from m starts x) (sym (either-way (is_below x s.first) s.method)))

-- ---- starts by their numbers

module _ (f : ℕ → Start) (m : ℕ) (below : (j : ℕ) → j < m → (f j).first < 2 ^ 31) (more : (j : ℕ) → j + 1 < m → (f j).first < (f (j + 1)).first) where
  pub counted-rise : (a n low : ℕ) → a + n ≡ m → (0 < n → low ≤ (f a).first) → RiseFrom low (map f (range_with_len a n))
  counted-rise a zero low whole start = tt
  counted-rise a (suc n) low whole start = (
    start (omega arith),
    below a (omega arith),
    counted-rise (a + 1) n (suc (f a).first) (omega arith) (λ some. let step = more a (omega arith) in omega arith),
  )

  this-chosen : (x method a n : ℕ) → x < 2 ^ 31 → a + suc n ≡ m → (f a).first ≤ x → (a + 1 < m → x < (f (a + 1)).first) → chosen_from method (map f (range_with_len a (suc n))) x ≡ (f a).method
  this-chosen x method a n low whole reach next =
      one-reached x method (f a) (map f (range_with_len (a + 1) n)) low reach
      ∙ none-reached x (suc x) (f a).method (map f (range_with_len (a + 1) n)) (omega arith)
      (counted-rise (a + 1) n (suc x) (omega arith) (λ some. let step = next (omega arith) in omega arith))

  pub counted-chosen : (x j method a n : ℕ) → x < 2 ^ 31 → a + n ≡ m → a ≤ j → j < m → (f j).first ≤ x → (j + 1 < m → x < (f (j + 1)).first) → chosen_from method (map f (range_with_len a n)) x ≡ (f j).method
  counted-chosen x j method a zero low whole from to reach next = absurd (omega arith)
  counted-chosen x j method a (suc n) low whole from to reach next =
      elim (cases_lt a j) [
        | inl less ↦ counted-chosen x j (if is_below x (f a).first then method else (f a).method) (a + 1) n low (omega arith) (omega arith) to reach next
        | inr same ↦
            subst (λ i. (f i).first ≤ x → (i + 1 < m → x < (f (i + 1)).first) → chosen_from method (map f (range_with_len a (suc n))) x ≡ (f i).method)
            (let is : a ≡ j = omega arith in is)
            (λ r to_next. this-chosen x method a n low whole r to_next) reach next
      ]
