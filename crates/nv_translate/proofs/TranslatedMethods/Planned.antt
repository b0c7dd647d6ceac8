-- Methods that are made by plans.
use Rattle.std.proofs.Common.{◌≡◌, ℕ, zero, suc, ◌+◌, ◌<◌, List, [], ◌∷◌, ◌++◌, map, length, slice_get, Some, refl, ap, ◌∙◌, arith}
use Rattle.std.specs.List.{range_with_len}
use Rattle.jvm_definition.specs.Program.{Program}
use Rattle.class_definition.specs.NameGrammar.{after_field}
use Rattle.class_definition.specs.Linking.{parameters_of, parameters_from}
use Rattle.emit_steps.specs.Placing.{LiesAt}
use Rattle.emit_program_laws.specs.TrampolineLaws.Choosing.{IsMethod}
use Rattle.translate_classes.specs.Making.{Plan, nothing}
use Rattle.nv_translate.specs.Linked.{IsPlanned}
use Rattle.nv_translate.proofs.TranslatedMethods.Lines.{lies}

no-parameters : parameters_of nothing ≡ []
unfolding parameters_from after_field
no-parameters = refl

pub planned-method : (program : Program) (number : ℕ) (p : Plan) → IsPlanned program number p → p.descriptor ≡ nothing → IsMethod program number
planned-method program number p is none = record {
  method = is.method;
  there = is.there;
  no_parameters = is.parameters_are ∙ ap parameters_of none ∙ no-parameters;
}

pub planned-lies : (program : Program) (number : ℕ) (p : Plan) → IsPlanned program number p → LiesAt program number 0 p.code
planned-lies program number p is = lies program number is.method p.code is.there is.lines_are

-- ---- a plan in a list of plans

pub left-of : {X : Type 0} (xs ys : List X) (k : ℕ) (x : X) → slice_get xs k ≡ Some x → slice_get (xs ++ ys) k ≡ Some x
left-of [] ys k x at = absurd (cc)
left-of (y ∷ xs) ys zero x at = at
left-of (y ∷ xs) ys (suc k) x at = left-of xs ys k x at

pub right-of : {X : Type 0} (xs ys : List X) (k : ℕ) → slice_get (xs ++ ys) (length xs + k) ≡ slice_get ys k
right-of [] ys k = let e : 0 + k ≡ k = omega arith in ap (slice_get ys) e
right-of (x ∷ xs) ys k =
    let e : length (x ∷ xs) + k ≡ suc (length xs + k) = omega arith in
    ap (slice_get ((x ∷ xs) ++ ys)) e ∙ right-of xs ys k

pub counted : {X : Type 0} (f : ℕ → X) (a n k : ℕ) → k < n → slice_get (map f (range_with_len a n)) k ≡ Some (f (a + k))
counted f a zero k below = absurd (omega arith)
counted f a (suc n) zero below = let e : a ≡ a + 0 = omega arith in ap (λ j. Some (f j)) e
counted f a (suc n) (suc k) below =
    let e : a + 1 + k ≡ a + suc k = omega arith in
    counted f (a + 1) n k (omega arith) ∙ ap (λ j. Some (f j)) e

pub counted-first : {X : Type 0} (f : ℕ → X) (n k : ℕ) → k < n → slice_get (map f (range_with_len 0 n)) k ≡ Some (f k)
counted-first f n k below = let e : 0 + k ≡ k = omega arith in counted f 0 n k below ∙ ap (λ j. Some (f j)) e
