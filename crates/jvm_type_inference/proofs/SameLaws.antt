-- A local variable that gets the type that it has.
use Rattle.std.proofs.Common.{◌≡◌, ℕ, Bool, true, false, List, refl, ap, ◌∙◌, get_or}
use Rattle.std.specs.Prelude.{◌==◌, if◌then◌else◌}
use Rattle.std.proofs.lemmas.Bool.{eqb-true, false≢true}
use Rattle.jvm_definition.specs.declared.kind.Kind.{Kind}
use Rattle.jvm_definition.specs.declared.kind.Kind.TheVariants.{Top, Int, Long, Null, Ints, Pages, Text}
use Rattle.jvm_definition.specs.Typing.{same_kind}

same-is : (k o : Kind) → same_kind k o ≡ true → k ≡ o
same-is Top Top e = refl
same-is Int Int e = refl
same-is Long Long e = refl
same-is Null Null e = refl
same-is Ints Ints e = refl
same-is Pages Pages e = refl
same-is Text Text e = refl
same-is _ _ e = absurd (false≢true e)

-- the local variables are what they were
pub same-locals : (locals : List Kind) (index : ℕ) (kind : Kind) → same_kind (get_or locals index Top) kind ≡ true → (i : ℕ) → get_or locals i Top ≡ (if i == index then kind else get_or locals i Top)
same-locals locals index kind e i = by-test (i == index) refl
  where
    by-test : (b : Bool) → (i == index) ≡ b → get_or locals i Top ≡ (if b then kind else get_or locals i Top)
    by-test true h = ap (λ j. get_or locals j Top) (eqb-true i index h) ∙ same-is (get_or locals index Top) kind e
    by-test false h = refl
