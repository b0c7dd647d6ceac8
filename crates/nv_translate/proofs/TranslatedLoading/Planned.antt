-- Methods that are made by plans.
use Rattle.std.proofs.Common.{◌≡◌, ℕ, zero, suc, ◌+◌, List, [], ◌∷◌, ◌++◌, map, length, slice_get, Some, refl, ap, sym, subst, ◌∙◌, arith}
use Rattle.std.specs.List.{range_with_len}
use Rattle.jvm_definition.specs.declared.kind.Kind.{Kind}
use Rattle.jvm_definition.specs.declared.kind.Kind.TheVariants as kinds
use Rattle.jvm_definition.specs.Program.{Program}
use Rattle.class_definition.specs.NameGrammar.{after_field}
use Rattle.class_definition.specs.Linking.{parameters_of, parameters_from}
use Rattle.emit_steps.specs.Placing.{LiesAt}
use Rattle.emit_program_laws.specs.LoadingCodeLaws.Leading.{IsMethod}
use Rattle.translate_classes.specs.Making.{Plan, nothing}
use Rattle.translate_classes.specs.Called.{pages_descriptor}
use Rattle.translate_classes.specs.DataNaming.{words_descriptor}
use Rattle.nv_translate.specs.Linked.{IsPlanned, ArePlanned}
use Rattle.nv_translate.proofs.TranslatedMethods.Lines.{lies}

pub no-parameters : parameters_of nothing ≡ []
unfolding parameters_from after_field
no-parameters = refl

pub a-text : parameters_of pages_descriptor ≡ kinds.Text ∷ []
unfolding parameters_from after_field
a-text = refl

pub ints-and-text : parameters_of words_descriptor ≡ kinds.Ints ∷ kinds.Text ∷ []
unfolding parameters_from after_field
ints-and-text = refl

pub planned-method : (program : Program) (number : ℕ) (p : Plan) (parameters : List Kind) → IsPlanned program number p
    → parameters_of p.descriptor ≡ parameters → IsMethod program number parameters
planned-method program number p parameters is are =
    record { method = is.method; there = is.there; parameters_are = is.parameters_are ∙ are }

pub planned-lies : (program : Program) (number : ℕ) (p : Plan) → IsPlanned program number p → LiesAt program number 0 p.code
planned-lies program number p is = lies program number is.method p.code is.there is.lines_are

-- ---- a plan in a list of plans

pub first-planned : (program : Program) (first : ℕ) (p : Plan) (others : List Plan) → ArePlanned program first (p ∷ others) → IsPlanned program first p
first-planned program first p others are =
    let e : first + 0 ≡ first = omega arith in subst (λ number. IsPlanned program number p) e (are 0 p refl)

behind : (front back : List Plan) (k : ℕ) → slice_get (front ++ back) (length front + k) ≡ slice_get back k
behind [] back k = let e : 0 + k ≡ k = omega arith in ap (slice_get back) e
behind (p ∷ front) back k =
    let e : suc (length front) + k ≡ suc (length front + k) = omega arith in
    ap (slice_get (p ∷ front ++ back)) e ∙ behind front back k

pub planned-behind : (program : Program) (front back : List Plan) (n k : ℕ) (p : Plan) → length front ≡ n → ArePlanned program 0 (front ++ back)
    → slice_get back k ≡ Some p → IsPlanned program (n + k) p
planned-behind program front back n k p long are at =
    let place : 0 + (n + k) ≡ n + k = omega arith in
    subst (λ number. IsPlanned program number p) place
    (are (n + k) p (ap (λ i. slice_get (front ++ back) (i + k)) (sym long) ∙ behind front back k ∙ at))

pub counted-length : (f : ℕ → Plan) (a n : ℕ) → length (map f (range_with_len a n)) ≡ n
counted-length f a zero = refl
counted-length f a (suc n) = ap suc (counted-length f (a + 1) n)
