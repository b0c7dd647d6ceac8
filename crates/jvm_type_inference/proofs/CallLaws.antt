-- Arguments are taken from the last one on.
use Rattle.std.proofs.Common.{◌≡◌, ◌≤◌, Bool, true, false, List, [], ◌∷◌, ◌++◌, length, refl, ap, ◌∙◌, Option, Some, None, arith}
use Rattle.std.specs.Prelude.{if◌then◌else◌, is_some}
use Rattle.std.proofs.lemmas.Bool.{cond-true, cond-false, false≢true, true≢false}
use Rattle.std.proofs.lemmas.List.{nil_from_length}
use Rattle.jvm_definition.specs.declared.kind.Kind.{Kind}
use Rattle.jvm_definition.specs.Effect.{last_first}
use Rattle.jvm_definition.specs.Typing.{below, taken, slots_of, is_long_kind}

last_first-push : (xs : List Kind) (k : Kind) (front : List Kind) → last_first (xs ++ k ∷ []) front ≡ k ∷ last_first xs front
last_first-push [] k front = refl
last_first-push (x ∷ xs) k front = last_first-push xs k (x ∷ front)

module _ (wanted others : List Kind) (k : Kind) (is : wanted ≡ others ++ k ∷ []) where
  taken-is : (rest : List Kind) → taken (last_first wanted []) rest ≡ taken (k ∷ last_first others []) rest
  taken-is rest = ap (λ x. taken (last_first x []) rest) is ∙ ap (λ x. taken x rest) (last_first-push others k [])

  pub no-argument : (rest : List Kind) → length rest ≡ 0 → taken (last_first wanted []) rest ≡ None
  no-argument rest e = taken-is rest ∙ ap (taken (k ∷ last_first others [])) (nil_from_length rest e)

  pub other-argument : (rest : List Kind) (o : Kind) (os : List Kind) → rest ≡ o ∷ os → below o k ≡ false → taken (last_first wanted []) rest ≡ None
  other-argument rest o os e misses = taken-is rest ∙ (ap (taken (k ∷ last_first others [])) e ∙ cond-false (below o k) (taken (last_first others []) os) None misses)

  pub next-argument : (rest : List Kind) (o : Kind) (os : List Kind) → rest ≡ o ∷ os → below o k ≡ true → taken (last_first wanted []) rest ≡ taken (last_first others []) os
  next-argument rest o os e passes = taken-is rest ∙ (ap (taken (k ∷ last_first others [])) e ∙ cond-true (below o k) (taken (last_first others []) os) None passes)

slots-some : (k : Kind) → 1 ≤ (if is_long_kind k then 2 else 1)
slots-some k = by-test (is_long_kind k)
  where
    by-test : (b : Bool) → 1 ≤ (if b then 2 else 1)
    by-test true = omega arith
    by-test false = omega arith

pub length-slots : (ks : List Kind) → length ks ≤ slots_of ks
length-slots [] = omega arith
length-slots (k ∷ ks) = omega (arith, length-slots ks, slots-some k)

pub some-there : {A : Type 0} (o : Option A) → is_some o ≡ true → (x : A) × (o ≡ Some x)
some-there None e = absurd (false≢true e)
some-there (Some x) e = (x, refl)

pub none-there : {A : Type 0} (o : Option A) → is_some o ≡ false → o ≡ None
none-there None e = refl
none-there (Some x) e = absurd (true≢false e)
