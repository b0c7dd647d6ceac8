-- Places that rise.
use Rattle.std.proofs.Common.{◌≡◌, ℕ, ◌+◌, ◌==◌, ◌<◌, ◌≤◌, List, [], ◌∷◌, ◌++◌, length, Option, Some, None, refl, ap, ◌∙◌, arith}
use Rattle.std.proofs.Common.{cond}
use Rattle.std.proofs.lemmas.Bool.Decides.{nat_tests}
use Rattle.std.proofs.lemmas.List.Sums.{sum_by-cons}
use Rattle.std.specs.List.{count_by}
use Rattle.run_simulation_laws.specs.Trail.{Step}
use Rattle.run_simulation_laws.specs.Places.{Rises, visit, visited, is_at, visits}

pub rises_from : (low more : ℕ) (places : List ℕ) (high : ℕ) → low ≤ more → Rises more places high → Rises low places high
rises_from low more [] high less rises = omega arith
rises_from low more (place ∷ places) high less rises =
    let first = rises.0 in (omega arith, rises.1)

pub rises_join : (low : ℕ) (xs : List ℕ) (mid : ℕ) (ys : List ℕ) (high : ℕ) → Rises low xs mid → Rises mid ys high → Rises low (xs ++ ys) high
rises_join low [] mid ys high first next = rises_from low mid ys high first next
rises_join low (x ∷ xs) mid ys high first next = (first.0, rises_join (x + 1) xs mid ys high first.1 next)

pub rises_length : (low : ℕ) (xs : List ℕ) (high : ℕ) → Rises low xs high → low + length xs ≤ high
rises_length low [] high rises = omega arith
rises_length low (x ∷ xs) high rises =
    let first = rises.0 in let rest = rises_length (x + 1) xs high rises.1 in omega arith

pub visited_append : {S : Type 0} (place : S → Option ℕ) (xs ys : List (Step S)) → visited place (xs ++ ys) ≡ visited place xs ++ visited place ys
visited_append place [] ys = refl
visited_append place (step ∷ steps) ys =
    visit_append (place step.from) (visited place steps) (visited place ys) (visited place (steps ++ ys)) (visited_append place steps ys)
  where
    visit_append : (at : Option ℕ) (xs ys both : List ℕ) → both ≡ xs ++ ys → visit at both ≡ visit at xs ++ ys
    visit_append None xs ys both e = e
    visit_append (Some at) xs ys both e = ap (λ zs. at ∷ zs) e

-- ---- none twice

-- a place below all that are visited is not visited, and one that is visited first is not visited again
once_by : {S : Type 0} (place : S → Option ℕ) (at low high : ℕ) (here : Option ℕ) (steps : List (Step S)) (step : Step S) → place step.from ≡ here → Rises low (visit here (visited place steps)) high → ((more : ℕ) → Rises more (visited place steps) high → (count_by (visits place at) steps ≤ 1) × (at < more → count_by (visits place at) steps ≡ 0)) → (count_by (visits place at) (step ∷ steps) ≤ 1) × (at < low → count_by (visits place at) (step ∷ steps) ≡ 0)
once_by place at low high None steps step e rises on =
    let rest = on low rises in
    let cons : count_by (visits place at) (step ∷ steps) ≡ 0 + count_by (visits place at) steps = sum_by-cons (λ y. cond (visits place at y) 1 0) step steps ∙ ap (λ o. cond (is_at at o) 1 0 + count_by (visits place at) steps) e in
    (omega (arith, rest.0), λ below. let none = rest.1 below in omega arith)
once_by place at low high (Some here) steps step e rises on =
    let rest = on (here + 1) rises.1 in
    let first = rises.0 in
    let cons : count_by (visits place at) (step ∷ steps) ≡ cond (here == at) 1 0 + count_by (visits place at) steps = sum_by-cons (λ y. cond (visits place at y) 1 0) step steps ∙ ap (λ o. cond (is_at at o) 1 0 + count_by (visits place at) steps) e in
    let most = rest.0 in
    let none = rest.1 in
    (grind (arith, nat_tests), λ below. grind (arith, nat_tests))

pub once : {S : Type 0} (place : S → Option ℕ) (at low high : ℕ) (trail : List (Step S)) → Rises low (visited place trail) high → (count_by (visits place at) trail ≤ 1) × (at < low → count_by (visits place at) trail ≡ 0)
once place at low high [] rises = (omega arith, λ below. refl)
once place at low high (step ∷ steps) rises =
    once_by place at low high (place step.from) steps step refl rises (λ more later. once place at more high steps later)
