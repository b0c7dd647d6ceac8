-- A range of a program's code has one list of units, and one of leaders.
use Rattle.std.proofs.Common.{◌≡◌, ℕ, Bool, false, List, Option, Some, sym, ap, ◌∙◌, subst, arith}
use Rattle.std.proofs.lemmas.List.{ext_get_or}
use Rattle.delay_slots.specs.declared.unit.Unit.{Unit}
use Rattle.delay_slots.specs.Units.{units_of}
use Rattle.block_builder.specs.Leaders.{AreLeaders}
use Rattle.elf_definition.specs.declared.range.Range.{Range}
use Rattle.elf_image_parts.specs.Ranges.{AreWords, IsRangeCode}

some_one : (x y : ℕ) → Some x ≡ Some y → x ≡ y
some_one x y e = cc

words_one : (code : ℕ → Option ℕ) (range : Range) (xs ys : List ℕ) → AreWords code range xs → AreWords code range ys → xs ≡ ys
words_one code range xs ys are are' =
    ext_get_or 0 xs ys (are.count ∙ sym are'.count)
    (λ i h. some_one _ _ (sym (are.each i (omega (h, are.count, arith))) ∙ are'.each i (omega (h, are.count, arith))))

leads_one : (units : List Unit) (start : ℕ) (xs ys : List Bool) → AreLeaders units start xs → AreLeaders units start ys → xs ≡ ys
leads_one units start xs ys are are' =
    ext_get_or false xs ys (are.same_len ∙ sym are'.same_len)
    (λ i h. are.leads i (omega (h, are.same_len, arith)) ∙ sym (are'.leads i (omega (h, are.same_len, arith))))

module _ (code : ℕ → Option ℕ) (range : Range) (units units' : List Unit) (leads leads' : List Bool)
    (is : IsRangeCode code range units leads) (is' : IsRangeCode code range units' leads') where
  pub units_same : units ≡ units'
  units_same = is.units_are ∙ ap units_of (words_one code range is.words is'.words is.are_words is'.are_words) ∙ sym is'.units_are

  pub leads_same : leads ≡ leads'
  leads_same = leads_one units range.first leads leads' is.leads_are (subst (λ l. AreLeaders l range.first leads') (sym units_same) is'.leads_are)
