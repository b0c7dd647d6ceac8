-- What stands behind types at the front.
use Rattle.std.proofs.Common.{◌≡◌, true, false, List, [], ◌∷◌, ◌++◌, length, refl, sym, ap, ◌∙◌, arith}
use Rattle.std.proofs.lemmas.Bool.{false≢true}
use Rattle.jvm_definition.specs.declared.kind.Kind.{Kind}
use Rattle.jvm_definition.specs.declared.kind.Kind.TheVariants.{Top, Int, Long, Null, Ints, Pages, Text}
use Rattle.jvm_definition.specs.Typing.{same_kind}

abbrev first-or : Kind → List Kind → Kind
first-or k [] = k
first-or k (x ∷ xs) = x

abbrev others-of : List Kind → List Kind
others-of [] = []
others-of (x ∷ xs) = xs

pub same-is : (k o : Kind) → same_kind k o ≡ true → k ≡ o
same-is Top Top e = refl
same-is Int Int e = refl
same-is Long Long e = refl
same-is Null Null e = refl
same-is Ints Ints e = refl
same-is Pages Pages e = refl
same-is Text Text e = refl
same-is _ _ e = absurd (false≢true e)

pub itself : (k : Kind) → same_kind k k ≡ true
itself Top = refl
itself Int = refl
itself Long = refl
itself Null = refl
itself Ints = refl
itself Pages = refl
itself Text = refl

-- what is left begins with what is wanted as the whole begins with the front
pub record IsMatching (front kinds wanted rest : List Kind) : Type 0 where
  pub on : (r : List Kind) → kinds ≡ front ++ r → rest ≡ wanted ++ r
  pub back : (r : List Kind) → rest ≡ wanted ++ r → kinds ≡ front ++ r

pub first-matching : (front kinds : List Kind) → IsMatching front kinds front kinds
first-matching front kinds = record { on = λ r e. e; back = λ r e. e }

module _ (front kinds wanted rest others : List Kind) (k : Kind) (first : wanted ≡ k ∷ others) (m : IsMatching front kinds wanted rest) where
  front-is : (r : List Kind) → kinds ≡ front ++ r → rest ≡ k ∷ (others ++ r)
  front-is r e = m.on r e ∙ ap (λ x. x ++ r) first

  pub next-matching : (o : Kind) (behind : List Kind) → rest ≡ o ∷ behind → same_kind k o ≡ true → IsMatching front kinds others behind
  next-matching o behind second same = record {
    on = λ r e. ap others-of (sym second ∙ front-is r e);
    back = λ r e. m.back r (second ∙ (ap (λ x. x ∷ behind) (sym (same-is k o same)) ∙ (ap (λ x. k ∷ x) e ∙ ap (λ x. x ++ r) (sym first))));
  }

  pub nothing-left : length rest ≡ 0 → (r : List Kind) → kinds ≡ front ++ r → ⊥
  nothing-left none r e = omega (arith, none, ap length (front-is r e))

  pub another : (o : Kind) (behind : List Kind) → rest ≡ o ∷ behind → same_kind k o ≡ false → (r : List Kind) → kinds ≡ front ++ r → ⊥
  another o behind second other r e =
      let same : o ≡ k = ap (first-or k) (sym second ∙ front-is r e) in
      false≢true (sym other ∙ (ap (same_kind k) same ∙ itself k))

pub all-matching : (front kinds wanted rest : List Kind) → length wanted ≡ 0 → IsMatching front kinds wanted rest → kinds ≡ front ++ rest
all-matching front kinds [] rest e m = m.back rest refl
all-matching front kinds (k ∷ wanted) rest e m = absurd (omega (arith, e))

pub not-same : (k o : Kind) → same_kind k o ≡ false → k ≡ o → ⊥
not-same k o e same = false≢true (sym e ∙ (ap (same_kind k) (sym same) ∙ itself k))
