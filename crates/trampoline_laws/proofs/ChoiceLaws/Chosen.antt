-- The method that belongs to an address, by halves of the starts.
use Rattle.std.proofs.Common.{◌≡◌, ℕ, suc, ◌≤◌, true, false, if◌then◌else◌, List, [], ◌∷◌, ◌++◌, length, refl, ap, ◌∙◌, arith}
use Rattle.run_definition.specs.Words.{IsWord}
use Rattle.trampoline.specs.declared.start.Start.{Start}
use Rattle.trampoline.specs.Trees.{first_of}
use Rattle.trampoline_laws.specs.Choosing.{is_below, chosen_from, chosen, RiseFrom}
use Rattle.trampoline_laws.proofs.ChoiceLaws.Tests.{below-more}

-- ---- starts that rise

pub rise-lower : (low high : ℕ) (starts : List Start) → low ≤ high → RiseFrom high starts → RiseFrom low starts
rise-lower low high [] less rise = tt
rise-lower low high (s ∷ starts) less rise = (omega (arith, rise.0), rise.1, rise.2)

pub rise-front : (below from : List Start) (low : ℕ) → RiseFrom low (below ++ from) → RiseFrom low below
rise-front [] from low rise = tt
rise-front (s ∷ below) from low rise = (rise.0, rise.1, rise-front below from (suc s.first) rise.2)

pub rise-back : (below from : List Start) (low : ℕ) → RiseFrom low (below ++ from) → RiseFrom low from
rise-back [] from low rise = rise
rise-back (s ∷ below) from low rise =
    rise-lower low (suc s.first) from (omega (arith, rise.0)) (rise-back below from (suc s.first) rise.2)

-- ---- the chosen method

-- no start from this address on is reached
none-reached : (x bound method : ℕ) (starts : List Start) → IsWord x → is_below x bound ≡ true → RiseFrom bound starts → chosen_from method starts x ≡ method
none-reached x bound method [] word is rise = refl
none-reached x bound method (s ∷ starts) word is rise =
    ap (λ b. chosen_from (if b then method else s.method) starts x) (below-more x bound s.first word rise.0 rise.1 is)
    ∙ none-reached x bound method starts word is (rise-lower bound (suc s.first) starts (omega (arith, rise.0)) rise.2)

chosen-joined : (x method : ℕ) (below from : List Start) → chosen_from method (below ++ from) x ≡ chosen_from (chosen_from method below x) from x
chosen-joined x method [] from = refl
chosen-joined x method (s ∷ below) from = chosen-joined x (if is_below x s.first then method else s.method) below from

pub chosen-below : (x : ℕ) (below from : List Start) → IsWord x → 1 ≤ length below → RiseFrom 0 (below ++ from) → is_below x (first_of from) ≡ true → chosen (below ++ from) x ≡ chosen below x
chosen-below x [] from word some rise is = absurd (omega (arith, some))
chosen-below x (s ∷ below) [] word some rise is = chosen-joined x s.method below []
chosen-below x (s ∷ below) (t ∷ from) word some rise is =
    chosen-joined x s.method below (t ∷ from)
    ∙ none-reached x t.first (chosen (s ∷ below) x) (t ∷ from) word is (let back = rise-back (s ∷ below) (t ∷ from) 0 rise in (omega arith, back.1, back.2))

pub chosen-from : (x : ℕ) (below from : List Start) → 1 ≤ length below → 1 ≤ length from → is_below x (first_of from) ≡ false → chosen (below ++ from) x ≡ chosen from x
chosen-from x [] from some more is = absurd (omega (arith, some))
chosen-from x (s ∷ below) [] some more is = absurd (omega (arith, more))
chosen-from x (s ∷ below) (t ∷ from) some more is =
    chosen-joined x s.method below (t ∷ from)
    ∙ ap (λ b. chosen_from (if b then chosen (s ∷ below) x else t.method) from x) is
