-- The spans of classes have no address in common.
use Rattle.std.proofs.Common.{◌≡◌, ℕ, ◌+◌, ◌*◌, ◌<◌, ◌≤◌, nat_le, nat_lt, Bool, true, false, ◌&&◌, ◌||◌, inl, inr, List, [], ◌∷◌, length, map, slice_get, Some, All, refl, ap, subst, ◌∙◌, arith}
use Rattle.std.specs.List.{range_with_len}
use Rattle.std.proofs.lemmas.Bool.{and_parts, and_left, and_right, or_from, ltb-true, leb-true, cases_lt}
use Rattle.std.proofs.lemmas.Bool.Decides.{nat_tests}
use Rattle.std.proofs.lemmas.List.Elements.{All-head, All-tail}
use Rattle.emit_paths_laws.specs.Guest.{Span, holds, in_one_span}
use Rattle.trampoline_laws.specs.Classes.{CodeClass, IsClass, AreOrdered, counted_span, counted_spans}
use Rattle.trampoline_laws.proofs.TrampolineLaws.Elements.{all-at, all-joined, all-counted}
use Rattle.trampoline_laws.proofs.TrampolineLaws.Spans.{joined-apart}
use Rattle.trampoline_laws.proofs.TrampolineLaws.Words.{span-in}
use Rattle.trampoline_laws.proofs.TrampolineLaws.Order.{classes-apart}

-- ---- spans

-- an address lies in a span
record LiesIn (s : Span) (a : ℕ) : Type 0 where
  from : s.first ≤ a
  to : a < s.first + 4 * s.words

lies-in : (s : Span) (a : ℕ) → holds s a ≡ true → LiesIn s a
lies-in s a held =
    let parts = and_parts (nat_le s.first a) (nat_lt a (s.first + 4 * s.words)) held in
    record { from = leb-true s.first a parts.0; to = ltb-true a (s.first + 4 * s.words) parts.1 }

before-span : (s : Span) (a : ℕ) → a < s.first → holds s a ≡ false
before-span s a less = grind (arith, nat_tests)

behind-span : (s : Span) (a : ℕ) → s.first + 4 * s.words ≤ a → holds s a ≡ false
behind-span s a more = grind (arith, nat_tests)

in-none : (a b : ℕ) (spans : List Span) → All (λ (s : Span). (holds s a && holds s b) ≡ false) spans → in_one_span spans a b ≡ false
in-none a b [] none = refl
in-none a b (s ∷ spans) none =
    or_from (holds s a && holds s b) (in_one_span spans a b) (All-head (λ (t : Span). (holds t a && holds t b) ≡ false) s spans none)
    (in-none a b spans (All-tail (λ (t : Span). (holds t a && holds t b) ≡ false) s spans none))

and-turned : (x y : Bool) → (x && y) ≡ (y && x)
and-turned true true = refl
and-turned true false = refl
and-turned false true = refl
and-turned false false = refl

pub one-span-turned : (a b : ℕ) (spans : List Span) → in_one_span spans a b ≡ in_one_span spans b a
one-span-turned a b [] = refl
one-span-turned a b (s ∷ spans) =
    ap (λ t. t || in_one_span spans a b) (and-turned (holds s a) (holds s b))
    ∙ ap (λ t. (holds s b && holds s a) || t) (one-span-turned a b spans)

-- ---- those of classes

module _ (classes : List CodeClass) (n : ℕ) (c : CodeClass) (j a b : ℕ) (are : All IsClass classes) (ordered : AreOrdered classes) (at : slice_get classes n ≡ Some c) (below : j < length c.spans) (held : holds (counted_span c j) a ≡ true) (apart : holds (counted_span c j) b ≡ false) where
  abbrev NotBoth : Span → Type 0
  NotBoth s = (holds s a && holds s b) ≡ false

  is : IsClass c
  is = all-at IsClass classes n c are at

  lies : LiesIn (counted_span c j) a
  lies = lies-in (counted_span c j) a held

  -- another span of its class
  same-class : (i : ℕ) → i < length c.spans → NotBoth (counted_span c i)
  same-class i below_i =
      elim (cases_lt i j) [
        | inl less ↦
            let up = joined-apart c.spans 0 c.count i j is.joined less below in
            and_left (holds (counted_span c i) a) (holds (counted_span c i) b) (behind-span (counted_span c i) a (omega (arith, up, lies.from)))
        | inr more ↦ elim (cases_lt j i) [
          | inl less ↦
              let up = joined-apart c.spans 0 c.count j i is.joined less below_i in
              and_left (holds (counted_span c i) a) (holds (counted_span c i) b) (before-span (counted_span c i) a (omega (arith, up, lies.to)))
          | inr no_more ↦
              let same : j ≡ i = omega arith in
              subst (λ k. NotBoth (counted_span c k)) same (and_right (holds (counted_span c j) a) (holds (counted_span c j) b) apart)
        ]
      ]

  -- a span of any class
  any-class : (m : ℕ) (d : CodeClass) (i : ℕ) → slice_get classes m ≡ Some d → i < length d.spans → NotBoth (counted_span d i)
  any-class m d i at_m below_i =
      elim (cases_lt m n) [
        | inl less ↦
            let up = classes-apart classes m n d c are ordered at_m at less in
            let inside = span-in d (all-at IsClass classes m d are at_m) i below_i in
            and_left (holds (counted_span d i) a) (holds (counted_span d i) b) (behind-span (counted_span d i) a (omega (arith, up, inside.to, lies.from)))
        | inr more ↦ elim (cases_lt n m) [
          | inl less ↦
              let up = classes-apart classes n m c d are ordered at at_m less in
              let inside = span-in c is j below in
              and_left (holds (counted_span d i) a) (holds (counted_span d i) b) (before-span (counted_span d i) a (omega (arith, up, inside.to, lies.to)))
          | inr no_more ↦
              let same_number : n ≡ m = omega arith in
              let at_n : slice_get classes m ≡ Some c = subst (λ k. slice_get classes k ≡ Some c) same_number at in
              let same : c ≡ d = cc in
              subst (λ e. i < length e.spans → NotBoth (counted_span e i)) same (λ below_e. same-class i below_e) below_i
        ]
      ]

  pub none-has-both : in_one_span (counted_spans classes) a b ≡ false
  none-has-both =
      in-none a b (counted_spans classes)
      (all-joined NotBoth (λ (d : CodeClass). map (counted_span d) (range_with_len 0 (length d.spans))) classes
      (λ m d at_m. all-counted NotBoth (counted_span d) 0 (length d.spans) (λ i from to. any-class m d i at_m (omega arith))))
