-- Trees: enough levels make the same tree, and how many steps it has.
use Rattle.std.proofs.Common.{◌≡◌, ℕ, zero, suc, ◌+◌, ◌-◌, ◌*◌, ◌/◌, ◌<◌, ◌≤◌, List, [], ◌∷◌, length, take, drop, ◌++◌, refl, sym, ◌∙◌, append_assoc, arith}
use Rattle.std.proofs.lemmas.List.{length-take-le, length-drop, length-append}
use Rattle.jvm_definition.specs.declared.branch_name.BranchName.TheVariants.{Goto}
use Rattle.emit_steps.specs.declared.step.Step.{Step}
use Rattle.emit_steps.specs.declared.step.Step.TheVariants.{Skips}
use Rattle.trampoline.specs.declared.start.Start.{Start}
use Rattle.trampoline.specs.Trees.{reached_code, halves_code, first_of, tree_of, tree}

-- the lengths of both halves of two starts or more
below-length : (starts : List Start) → length (take (length starts / 2) starts) ≡ length starts / 2
below-length starts = length-take-le (length starts / 2) starts (omega arith)

from-length : (starts : List Start) → length (drop (length starts / 2) starts) ≡ length starts - length starts / 2
from-length starts = length-drop (length starts / 2) starts

same-halves : (first : ℕ) (a b c d : List Step) → a ≡ b → c ≡ d → halves_code first a c ≡ halves_code first b d
same-halves first a b c d p q = λ i. halves_code first (p i) (q i)

pub tree-levels : (n m : ℕ) (starts : List Start) → length starts ≤ n → length starts ≤ m → tree_of n starts ≡ tree_of m starts
tree-levels zero zero starts h g = refl
tree-levels zero (suc m) [] h g = refl
tree-levels zero (suc m) (s ∷ starts) h g = absurd (omega (arith, h))
tree-levels (suc n) zero [] h g = refl
tree-levels (suc n) zero (s ∷ starts) h g = absurd (omega (arith, g))
tree-levels (suc n) (suc m) [] h g = refl
tree-levels (suc n) (suc m) (s ∷ []) h g = refl
tree-levels (suc n) (suc m) (s ∷ t ∷ rest) h g =
    let starts : List Start = s ∷ t ∷ rest in
    let half = length starts / 2 in
    same-halves (first_of (drop half starts)) _ _ _ _
    (tree-levels n m (take half starts) (omega (arith, below-length starts, h)) (omega (arith, below-length starts, g)))
    (tree-levels n m (drop half starts) (omega (arith, from-length starts, h)) (omega (arith, from-length starts, g)))

-- the tree of two starts or more is that of its halves
pub tree-halves : (s t : Start) (rest : List Start) → tree (s ∷ t ∷ rest) ≡ halves_code (first_of (drop (length (s ∷ t ∷ rest) / 2) (s ∷ t ∷ rest))) (tree (take (length (s ∷ t ∷ rest) / 2) (s ∷ t ∷ rest))) (tree (drop (length (s ∷ t ∷ rest) / 2) (s ∷ t ∷ rest)))
tree-halves s t rest =
    let starts : List Start = s ∷ t ∷ rest in
    let half = length starts / 2 in
    same-halves (first_of (drop half starts)) _ _ _ _
    (tree-levels (suc (length rest)) (length (take half starts)) (take half starts) (omega (arith, below-length starts)) (omega arith))
    (tree-levels (suc (length rest)) (length (drop half starts)) (drop half starts) (omega (arith, from-length starts)) (omega arith))

halves-length : (first : ℕ) (below from : List Step) → length (halves_code first below from) ≡ 4 + length below + length from
halves-length first below from = omega (arith, length-append below (Skips Goto (length from) ∷ from))

pub tree_length : (n : ℕ) (starts : List Start) → length starts ≤ n → 0 < length starts → length (tree_of n starts) + 4 ≡ 5 * length starts
tree_length zero starts h some = absurd (omega (arith, h, some))
tree_length (suc n) [] h some = absurd (omega (arith, some))
tree_length (suc n) (s ∷ []) h some = refl
tree_length (suc n) (s ∷ t ∷ rest) h some =
    let starts : List Start = s ∷ t ∷ rest in
    let half = length starts / 2 in
    let below = tree_length n (take half starts) (omega (arith, below-length starts, h)) (omega (arith, below-length starts)) in
    let from = tree_length n (drop half starts) (omega (arith, from-length starts, h)) (omega (arith, from-length starts)) in
    omega (arith, below, from, below-length starts, from-length starts, halves-length (first_of (drop half starts)) (tree_of n (take half starts)) (tree_of n (drop half starts)))

tree_split : (starts : List Start) → 2 ≤ length starts → tree starts ≡ halves_code (first_of (drop (length starts / 2) starts)) (tree (take (length starts / 2) starts)) (tree (drop (length starts / 2) starts))
tree_split [] h = absurd (omega (arith, h))
tree_split (s ∷ []) h = absurd (omega (arith, h))
tree_split (s ∷ t ∷ rest) h = tree-halves s t rest

pub tree_steps_are : (starts : List Start) → 0 < length starts → length (tree starts) + 4 ≡ 5 * length starts
tree_steps_are starts some = tree_length (length starts) starts (omega arith) some

-- what halves make, where the second one begins at an address
pub tree-made : (starts below from : List Start) (first : ℕ) → 2 ≤ length starts → below ≡ take (length starts / 2) starts → from ≡ drop (length starts / 2) starts → first ≡ first_of from → halves_code first (tree below) (tree from) ≡ tree starts
tree-made starts below from first h b f is =
    (λ i. halves_code (is i) (tree below) (tree from))
    ∙ (λ i. halves_code (first_of (f i)) (tree (b i)) (tree (f i)))
    ∙ sym (tree_split starts h)

-- the code of halves, one part after the other
pub halves-appended : (old below from : List Step) (first n m : ℕ) → n ≡ length below → m ≡ length from → (((old ++ reached_code first (n + 1)) ++ below) ++ (Skips Goto m ∷ [])) ++ from ≡ old ++ halves_code first below from
halves-appended old below from first n m e g =
    (λ i. (((old ++ reached_code first (e i + 1)) ++ below) ++ (Skips Goto (g i) ∷ [])) ++ from)
    ∙ append_assoc ((old ++ reached_code first (length below + 1)) ++ below) (Skips Goto (length from) ∷ []) from
    ∙ append_assoc (old ++ reached_code first (length below + 1)) below (Skips Goto (length from) ∷ from)
    ∙ append_assoc old (reached_code first (length below + 1)) (below ++ Skips Goto (length from) ∷ from)
