-- Words of a program's classes are told by their addresses.
use Rattle.std.proofs.Common.{◌≡◌, ℕ, ◌+◌, ◌*◌, ◌<◌, ◌≤◌, inl, inr, List, length, slice_get, Some, All, sym, ap, subst, ◌∙◌, arith}
use Rattle.std.proofs.lemmas.Bool.{cases_lt}
use Rattle.emit_spans.specs.Neighbours as words
use Rattle.emit_program_laws.specs.TrampolineLaws.Classes.{CodeClass, IsClass, AreOrdered, span_words}
use Rattle.emit_program_laws.proofs.TrampolineLaws.Elements.{all-at}
use Rattle.emit_program_laws.proofs.TrampolineLaws.Spans.{joined-apart}
use Rattle.emit_program_laws.proofs.TrampolineLaws.Words.{span-in}
use Rattle.emit_program_laws.proofs.TrampolineLaws.Order.{classes-apart}

-- a word of a span of a class
pub record IsWordOf (classes : List CodeClass) (n : ℕ) (c : CodeClass) (j k : ℕ) : Type 0 where
  pub there : slice_get classes n ≡ Some c
  pub span_below : j < length c.spans
  pub above : (span_words c j).first ≤ k
  pub below : k < (span_words c j).end

-- two words are the same
pub record AreSame (n m : ℕ) (c d : CodeClass) (j i k l : ℕ) : Type 0 where
  pub numbers : n ≡ m
  pub classes_are : c ≡ d
  pub spans : j ≡ i
  pub words_are : k ≡ l

module _ (classes : List CodeClass) (are : All IsClass classes) (ordered : AreOrdered classes) where
  -- the words of a class lie between its ends
  module _ (n : ℕ) (c : CodeClass) (j k : ℕ) (w : IsWordOf classes n c j k) where
    is : IsClass c
    is = all-at IsClass classes n c are w.there

    pub word-from : c.first ≤ k
    word-from = omega (arith, w.above)

    pub word-to : k < c.first + c.count
    word-to = let at = span-in c is j w.span_below in omega (arith, at.to, w.below)

  number-same : (n : ℕ) (c : CodeClass) (j k m : ℕ) (d : CodeClass) (i l : ℕ) → IsWordOf classes n c j k → IsWordOf classes m d i l
      → c.start + 4 * k ≡ d.start + 4 * l → n ≡ m
  number-same n c j k m d i l v w same = elim (cases_lt n m) [
    | inl less ↦
        let apart = classes-apart classes n m c d are ordered v.there w.there less in
        let to = word-to n c j k v in
        let from = word-from m d i l w in
        absurd (omega (arith, apart, to, from, same))
    | inr more ↦ elim (cases_lt m n) [
      | inl less ↦
          let apart = classes-apart classes m n d c are ordered w.there v.there less in
          let to = word-to m d i l w in
          let from = word-from n c j k v in
          absurd (omega (arith, apart, to, from, same))
      | inr no_more ↦ omega (arith, more, no_more)
    ]
  ]

  span-same : (n : ℕ) (c : CodeClass) (j k m i l : ℕ) → IsWordOf classes n c j k → IsWordOf classes m c i l → k ≡ l → j ≡ i
  span-same n c j k m i l v w same =
      let joined = (all-at IsClass classes n c are v.there).joined in
      elim (cases_lt j i) [
        | inl less ↦
            let apart = joined-apart c.spans 0 c.count j i joined less w.span_below in
            absurd (omega (arith, apart, v.below, w.above, same))
        | inr more ↦ elim (cases_lt i j) [
          | inl less ↦
              let apart = joined-apart c.spans 0 c.count i j joined less v.span_below in
              absurd (omega (arith, apart, w.below, v.above, same))
          | inr no_more ↦ omega (arith, more, no_more)
        ]
      ]

  -- a word has one address, and no other word has it
  pub words-same : (n : ℕ) (c : CodeClass) (j k m : ℕ) (d : CodeClass) (i l : ℕ) → IsWordOf classes n c j k → IsWordOf classes m d i l
      → words.address (span_words c j) k ≡ words.address (span_words d i) l → AreSame n m c d j i k l
  words-same n c j k m d i l v w same =
      let numbers = number-same n c j k m d i l v w same in
      let there : slice_get classes m ≡ Some c = subst (λ p. slice_get classes p ≡ Some c) numbers v.there in
      let class : c ≡ d = let both : Some c ≡ Some d = sym there ∙ w.there in cc in
      let starts : c.start ≡ d.start = ap (λ (e : CodeClass). e.start) class in
      let words_are : k ≡ l = omega (arith, same, starts) in
      let own : IsWordOf classes m c i l = subst (λ e. IsWordOf classes m e i l) (sym class) w in
      record {
        numbers = numbers;
        classes_are = class;
        spans = span-same n c j k m i l v own words_are;
        words_are = words_are;
      }
