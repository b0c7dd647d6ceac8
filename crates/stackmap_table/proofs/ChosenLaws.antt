-- Which form is chosen.
use Rattle.std.proofs.Common.{◌≡◌, ℕ, ◌-◌, ◌^◌, ◌<◌, ◌≤◌, Bool, true, false, List, [], ◌∷◌, ◌++◌, length, refl, sym, ap, subst, ◌∙◌, arith, take, drop}
use Rattle.std.specs.Prelude.{if◌then◌else◌, nat_lt, map, reverse}
use Rattle.std.proofs.lemmas.Bool.{ltb-true, ltb-false}
use Rattle.std.proofs.lemmas.List.{length-append, length-take, append_cancel_left, append-nil, take-append-drop}
use Rattle.class_format.proofs.FieldLaws.{wide16}
use Rattle.class_definition.specs.declared.entry.Entry.{Entry}
use Rattle.jvm_definition.specs.declared.kind.Kind.{Kind}
use Rattle.jvm_definition.specs.Typing.{no_top}
use Rattle.stackmap_table.specs.declared.reference_slots.ReferenceSlots.{ReferenceSlots}
use Rattle.stackmap_table.specs.declared.table_frame.TableFrame.{TableFrame}
use Rattle.stackmap_table.specs.declared.table_frame.TableFrame.TheVariants.{Same, SameWithOperand, SameWithOperandExtended, Chop, SameExtended, Append, Full}
use Rattle.stackmap_table.specs.Forms.{IsShortestForm}
use Rattle.stackmap_table.specs.declared.form.Form.TheVariants as forms
use Rattle.stackmap_table.specs.Shortest.{AreReferences, GivesShortest, NoOther, written_type, has_no_long}
use Rattle.stackmap_table.proofs.ShortLaws.{same-least, operand-least, extended-operand-least, delta-least, append-least, full-least}
use Rattle.stackmap_table.proofs.GivesLaws.{AreWide, wide-slots-of, kinds-written, kind-lowest, kinds-lowest, all-lowest, gives-same, gives-extended, gives-operand, gives-operand-extended, gives-chop, gives-append, gives-full}

-- ---- no other form

no-front : (before ls : List Kind) → ((rest : List Kind) → ls ≡ before ++ rest → ⊥) → ls ≡ before → ⊥
no-front before ls none e = none [] (e ∙ sym (append-nil before))

taken-length : (before : List Kind) (n : ℕ) → n ≤ length before → length (take (length before - n) before) ≡ length before - n
taken-length before n h = omega (arith, length-take (length before - n) before)

-- neither list begins with the other
pub apart : (before ls stack : List Kind) → ((rest : List Kind) → ls ≡ before ++ rest → ⊥) → ((rest : List Kind) → before ≡ ls ++ rest → ⊥) → NoOther before ls stack
apart before ls stack none other = record {
  same = λ e. absurd (no-front before ls none e);
  chopped = λ n some few within e. absurd (other (drop (length before - n) before) (sym (take-append-drop (length before - n) before) ∙ ap (λ x. x ++ drop (length before - n) before) (sym e)));
  appended = λ added some few e. absurd (none added e);
}

-- local variables are dropped, but there are operands, or too many are dropped
pub not-chopped : (before ls dropped stack : List Kind) → ((rest : List Kind) → ls ≡ before ++ rest → ⊥) → before ≡ ls ++ dropped → (length dropped ≤ 3 → 1 ≤ length stack) → NoOther before ls stack
not-chopped before ls dropped stack none is many = record {
  same = λ e. absurd (no-front before ls none e);
  chopped = λ n some few within e. many (omega (arith, few, within, ap length is, length-append ls dropped, ap length e, taken-length before n within));
  appended = λ added some few e. absurd (none added e);
}

-- local variables are added, but there are operands, or too many are added
pub not-appended : (before ls added stack : List Kind) → ls ≡ before ++ added → 1 ≤ length added → (length added ≤ 3 → 1 ≤ length stack) → NoOther before ls stack
not-appended before ls added stack is some many = record {
  same = λ e. absurd (omega (arith, some, ap length is, length-append before added, ap length e));
  chopped = λ n one few within e. absurd (omega (arith, one, within, ap length is, length-append before added, ap length e, taken-length before n within));
  appended = λ others one few e. many (omega (arith, few, ap length (append_cancel_left before added others (sym is ∙ e))));
}

-- they are the same, and there are two operands
pub not-same : (before ls stack : List Kind) → ls ≡ before → 2 ≤ length stack → NoOther before ls stack
not-same before ls stack is two = record {
  same = λ e. two;
  chopped = λ n one few within e. omega (arith, two);
  appended = λ others one few e. omega (arith, two);
}

-- ---- the chosen forms

module _ (pool : List Entry) (slots : ReferenceSlots) (refs : AreReferences pool slots) (wide : AreWide slots) (before ls stack : List Kind) (d : ℕ) (small : d < 2 ^ 16) where
  abbrev Chosen : TableFrame → Type 0
  Chosen f = GivesShortest pool before d ls stack f

  pub chosen-same : ls ≡ before → stack ≡ [] → Chosen (if nat_lt d 64 then Same d else SameExtended d)
  chosen-same is none = by-test (nat_lt d 64) refl
    where
      by-test : (b : Bool) → nat_lt d 64 ≡ b → Chosen (if b then Same d else SameExtended d)
      by-test true e = same-least pool before ls stack d d (gives-same pool before ls stack d (ltb-true d 64 e) is none)
      by-test false e =
          let far = ltb-false d 64 e in
          delta-least pool before ls stack d (SameExtended d) tt (omega (arith, wide16.len d)) (ap length none) (λ near _. omega (arith, near, far)) (gives-extended pool before ls stack d small is none)

  pub chosen-operand : (k : Kind) → ls ≡ before → stack ≡ k ∷ [] → no_top (k ∷ []) ≡ true → Chosen (if nat_lt d 64 then SameWithOperand d (written_type slots k) else SameWithOperandExtended d (written_type slots k))
  chosen-operand k is one typed = subst (λ s. GivesShortest pool before d ls s (if nat_lt d 64 then SameWithOperand d (written_type slots k) else SameWithOperandExtended d (written_type slots k))) (sym one) (by-test (nat_lt d 64) refl)
    where
      by-test : (b : Bool) → nat_lt d 64 ≡ b → GivesShortest pool before d ls (k ∷ []) (if b then SameWithOperand d (written_type slots k) else SameWithOperandExtended d (written_type slots k))
      by-test true e = operand-least pool before ls (k ∷ []) d d (written_type slots k) (kind-lowest pool slots refs wide k) (gives-operand pool slots refs wide before ls k d (ltb-true d 64 e) is typed)
      by-test false e = extended-operand-least pool before ls (k ∷ []) d d (written_type slots k) (kind-lowest pool slots refs wide k) (ltb-false d 64 e) (gives-operand-extended pool slots refs wide before ls k d small is typed)

  pub chosen-chop : (dropped : List Kind) → ((rest : List Kind) → ls ≡ before ++ rest → ⊥) → before ≡ ls ++ dropped → length dropped ≤ 3 → stack ≡ [] → Chosen (Chop d (length dropped))
  chosen-chop dropped none is few empty =
      let some : 1 ≤ length dropped = some-dropped dropped is in
      delta-least pool before ls stack d (Chop d (length dropped)) tt (omega (arith, wide16.len d)) (ap length empty) (λ _ e. no-front before ls none e)
      (gives-chop pool before ls dropped stack d small is some few empty)
    where
      some-dropped : (xs : List Kind) → before ≡ ls ++ xs → 1 ≤ length xs
      some-dropped [] e = absurd (no-front before ls none (sym (e ∙ append-nil ls)))
      some-dropped (x ∷ xs) e = omega arith

  pub chosen-append : (added : List Kind) → ls ≡ before ++ added → 1 ≤ length added → length added ≤ 3 → has_no_long added ≡ true → stack ≡ [] → Chosen (Append d (map (written_type slots) added))
  chosen-append added is some few short none =
      append-least pool before ls stack d added d (map (written_type slots) added) (kinds-lowest pool slots refs wide added) (kinds-written pool slots refs wide added) some is (ap length none)
      (gives-append pool slots refs wide before ls added stack d small is some few short none)

  pub chosen-full : length ls ≤ 65535 → length stack ≤ 65535 → has_no_long ls ≡ true → no_top stack ≡ true → NoOther before ls stack → Chosen (Full d (map (written_type slots) ls) (reverse (map (written_type slots) stack)))
  chosen-full few few-operands short typed alone =
      full-least pool before ls stack d d (map (written_type slots) ls) (reverse (map (written_type slots) stack)) (all-lowest pool slots refs wide ls stack) alone
      (gives-full pool slots refs wide before ls stack d small (omega (arith, few)) (omega (arith, few-operands)) short typed)

-- ---- the form alone

pub form-full : (before ls stack : List Kind) → length ls ≤ 65535 → length stack ≤ 65535 → has_no_long ls ≡ true → no_top stack ≡ true → NoOther before ls stack → IsShortestForm before ls stack forms.Full
form-full before ls stack few few-operands short typed alone pool slots delta refs small =
    chosen-full pool slots refs (wide-slots-of pool slots refs) before ls stack delta (omega (arith, small)) few few-operands short typed alone
