-- A table is a format.
use Rattle.std.proofs.Common.{◌≡◌, ℕ, ◌+◌, ◌-◌, ◌<◌, Bool, true, false, eqb, List, length, Option, Some, None, refl, sym, ap, ◌∙◌, arith}
use Rattle.std.specs.Prelude.{if◌then◌else◌, nat_lt, is_some}
use Rattle.std.specs.Int.{w8, w16}
use Rattle.std.proofs.lemmas.Bool.{and_parts, eqb-true, eq-eqb, ltb-true, ltb-false}
use Rattle.std.proofs.lemmas.Option.{same_Some, none-some}
use Rattle.class_definition.specs.Format.{Format, number_format, nothing, both, mapped, counted, repeated, refused_format, fits_by}
use Rattle.class_definition.specs.Spelling.{IsFormat}
use Rattle.class_format.proofs.FieldLaws.{wide8, wide16, number_law, nothing_law, refused_law}
use Rattle.class_format.proofs.Combined.{both_law, mapped_law, tested_law, repeated_law}
use Rattle.class_format.proofs.Parts.{IsRow, AreRows, tagged_law, counted_law, headed_law}
use Rattle.class_definition.specs.declared.entry.Entry.{Entry}
use Rattle.stackmap_table.specs.declared.place.Place.{Place}
use Rattle.stackmap_table.specs.declared.place.Place.TheVariants.{Local, Operand}
use Rattle.stackmap_table.specs.declared.table_type.TableType.{TableType}
use Rattle.stackmap_table.specs.declared.table_type.TableType.TheVariants.{Top, Int, Long, Null, Object}
use Rattle.stackmap_table.specs.declared.table_frame.TableFrame.{TableFrame}
use Rattle.stackmap_table.specs.declared.table_frame.TableFrame.TheVariants.{Same, SameWithOperand, SameWithOperandExtended, Chop, SameExtended, Append, Full}
use Rattle.stackmap_table.specs.Tables.{bad_table, kind_at, type_tag, top_of, int_of, long_type, null_of, object_of, plain, reference_slot, reference_row, types_at, type_at, frame_tag, same_of, same_frame, operand_of, same_with_operand, delta, extended_operand_of, same_with_operand_extended, chop_of, chop, extended_of, same_extended, append_of, append, full_of, full, form, frame, frame_table}

-- ---- types

top_made : (a : TableType) (b : Unit {0}) → top_of a ≡ Some b → Top ≡ a
top_made Top b e = refl
top_made _ b e = absurd cc

int_made : (a : TableType) (b : Unit {0}) → int_of a ≡ Some b → Int ≡ a
int_made Int b e = refl
int_made _ b e = absurd cc

long_made : (a : TableType) (b : Unit {0}) → long_type a ≡ Some b → Long ≡ a
long_made Long b e = refl
long_made _ b e = absurd cc

null_made : (a : TableType) (b : Unit {0}) → null_of a ≡ Some b → Null ≡ a
null_made Null b e = refl
null_made _ b e = absurd cc

object_made : (a : TableType) (b : ℕ) → object_of a ≡ Some b → Object b ≡ a
object_made (Object s) b e = ap Object (sym (same_Some s b e))
object_made _ b e = absurd cc

unit_fits : {A : Type 0} (back : A → Option (Unit {0})) (x a : A) → (mapped (λ (_ : Unit {0}). x) back nothing).fits a ≡ true → back a ≡ Some tt
unit_fits back x a e = by-case (back a) e
  where
    by-case : (o : Option (Unit {0})) → fits_by nothing o ≡ true → o ≡ Some tt
    by-case None e = absurd cc
    by-case (Some tt) e = refl

plain_row : (tag : ℕ) (type : TableType) (back : TableType → Option (Unit {0})) → type_tag type ≡ tag → back type ≡ Some tt → ((a : TableType) (b : Unit {0}) → back a ≡ Some b → type ≡ a) → IsRow type_tag (plain tag type back)
plain_row tag type back tag-is is made = record {
  law = mapped_law (λ _. type) back nothing nothing_law (record { back_of = λ b e. is; made_of = made });
  tag = λ a e. sym (ap type_tag (made a tt (unit_fits back type a e))) ∙ tag-is;
}

object_tag : (pool : List Entry) (a : TableType) → (reference_row pool).form.fits a ≡ true → type_tag a ≡ 7
object_tag pool (Object s) e = refl
object_tag pool _ e = absurd cc

reference_law : (pool : List Entry) → IsRow type_tag (reference_row pool)
reference_law pool = record {
  law = mapped_law Object object_of (reference_slot pool)
      (tested_law bad_table (λ slot. is_some (kind_at pool slot)) (number_format bad_table w16) (number_law bad_table w16 wide16))
      (record { back_of = λ b e. refl; made_of = object_made });
  tag = object_tag pool;
}

types_law : (pool : List Entry) (place : Place) → AreRows type_tag (types_at pool place)
types_law pool Local = (plain_row 0 Top top_of refl refl top_made, (plain_row 1 Int int_of refl refl int_made, (plain_row 5 Null null_of refl refl null_made, (reference_law pool, tt))))
types_law pool Operand = (plain_row 1 Int int_of refl refl int_made, (plain_row 4 Long long_type refl refl long_made, (plain_row 5 Null null_of refl refl null_made, (reference_law pool, tt))))

type_law : (pool : List Entry) (place : Place) → IsFormat (type_at pool place)
unfolding type_at
type_law pool place = tagged_law bad_table bad_table type_tag (types_at pool place) (types_law pool place)

-- ---- forms of frames

-- a form whose frames have a tag
record IsForm (f : Format TableFrame) (tag : ℕ) : Type 0 where
  law : IsFormat f
  tag_is : (a : TableFrame) → f.fits a ≡ true → frame_tag a ≡ tag

held : {A : Type 0} (n m : ℕ) (x y : A) → (if eqb m n then Some x else None) ≡ Some y → (m ≡ n) × (x ≡ y)
held n m x y e = by-test (eqb m n) refl e
  where
    by-test : (t : Bool) → eqb m n ≡ t → (if t then Some x else None) ≡ Some y → (m ≡ n) × (x ≡ y)
    by-test true h e = (eqb-true m n h, same_Some x y e)
    by-test false h e = absurd (none-some y e)

here : {A : Type 0} (n : ℕ) (x : A) → (if eqb n n then Some x else None) ≡ Some x
here n x = ap (λ t. if t then Some x else None) (eq-eqb n n refl)

-- what a value of a mapped form is made of
made_by : {A B : Type 0} (make : B → A) (back : A → Option B) (f : Format B) (a : A) → (mapped make back f).fits a ≡ true → (b : B) × (back a ≡ Some b) × (f.fits b ≡ true)
made_by {A} {B} make back f a e = by-case (back a) refl e
  where
    by-case : (o : Option B) → back a ≡ o → fits_by f o ≡ true → (b : B) × (back a ≡ Some b) × (f.fits b ≡ true)
    by-case None h fits = absurd cc
    by-case (Some b) h fits = (b, h, fits)

same_made : (n : ℕ) (a : TableFrame) (b : Unit {0}) → same_of n a ≡ Some b → Same n ≡ a
same_made n (Same d) b e = ap Same (sym (held n d tt b e).0)
same_made n _ b e = absurd cc

same_form : (n : ℕ) → IsForm (same_frame n) n
same_form n = record {
  law = mapped_law (λ _. Same n) (same_of n) nothing nothing_law (record { back_of = λ b e. here n tt; made_of = same_made n });
  tag_is = λ a e. let m = made_by (λ _. Same n) (same_of n) nothing a e in sym (ap frame_tag (same_made n a m.0 m.1));
}

operand_made : (n : ℕ) (a : TableFrame) (b : TableType) → operand_of n a ≡ Some b → SameWithOperand n b ≡ a
operand_made n (SameWithOperand d t) b e = let h = held n d t b e in λ i. SameWithOperand (sym h.0 i) (sym h.1 i)
operand_made n _ b e = absurd cc

operand_form : (pool : List Entry) (n : ℕ) → IsForm (same_with_operand pool n) (64 + n)
operand_form pool n = record {
  law = mapped_law (SameWithOperand n) (operand_of n) (type_at pool Operand) (type_law pool Operand) (record { back_of = λ b e. here n b; made_of = operand_made n });
  tag_is = λ a e. let m = made_by (SameWithOperand n) (operand_of n) (type_at pool Operand) a e in sym (ap frame_tag (operand_made n a m.0 m.1));
}

delta_law : IsFormat delta
delta_law = number_law bad_table w16 wide16

extended_operand_made : (a : TableFrame) (b : ℕ × TableType) → extended_operand_of a ≡ Some b → SameWithOperandExtended b.0 b.1 ≡ a
extended_operand_made (SameWithOperandExtended d t) b e = let h = same_Some (d, t) b e in λ i. SameWithOperandExtended (sym h i).0 (sym h i).1
extended_operand_made _ b e = absurd cc

extended_operand_form : (pool : List Entry) → IsForm (same_with_operand_extended pool) 247
extended_operand_form pool = record {
  law = mapped_law (λ x. SameWithOperandExtended x.0 x.1) extended_operand_of (both delta (λ _. type_at pool Operand)) (both_law delta (λ _. type_at pool Operand) delta_law (λ _. type_law pool Operand)) (record { back_of = λ b e. refl; made_of = extended_operand_made });
  tag_is = λ a e. let m = made_by (λ x. SameWithOperandExtended x.0 x.1) extended_operand_of (both delta (λ _. type_at pool Operand)) a e in sym (ap frame_tag (extended_operand_made a m.0 m.1));
}

chop_made : (n : ℕ) (a : TableFrame) (b : ℕ) → chop_of n a ≡ Some b → Chop b n ≡ a
chop_made n (Chop d k) b e = let h = held n k d b e in λ i. Chop (sym h.1 i) (sym h.0 i)
chop_made n _ b e = absurd cc

chop_form : (n : ℕ) → IsForm (chop n) (251 - n)
chop_form n = record {
  law = mapped_law (λ d. Chop d n) (chop_of n) delta delta_law (record { back_of = λ b e. here n b; made_of = chop_made n });
  tag_is = λ a e. let m = made_by (λ d. Chop d n) (chop_of n) delta a e in sym (ap frame_tag (chop_made n a m.0 m.1));
}

extended_made : (a : TableFrame) (b : ℕ) → extended_of a ≡ Some b → SameExtended b ≡ a
extended_made (SameExtended d) b e = ap SameExtended (sym (same_Some d b e))
extended_made _ b e = absurd cc

extended_form : IsForm same_extended 251
extended_form = record {
  law = mapped_law SameExtended extended_of delta delta_law (record { back_of = λ b e. refl; made_of = extended_made });
  tag_is = λ a e. let m = made_by SameExtended extended_of delta a e in sym (ap frame_tag (extended_made a m.0 m.1));
}

append_made : (a : TableFrame) (b : ℕ × List TableType) → append_of a ≡ Some b → Append b.0 b.1 ≡ a
append_made (Append d ts) b e = let h = same_Some (d, ts) b e in λ i. Append (sym h i).0 (sym h i).1
append_made _ b e = absurd cc

append_form : (pool : List Entry) (n : ℕ) → IsForm (append pool n) (251 + n)
append_form pool n =
    let parts = both delta (λ _. repeated (type_at pool Local) n) in
    record {
      law = mapped_law (λ x. Append x.0 x.1) append_of parts (both_law delta (λ _. repeated (type_at pool Local) n) delta_law (λ _. repeated_law (type_at pool Local) n (type_law pool Local))) (record { back_of = λ b e. refl; made_of = append_made });
      tag_is = λ a e.
          let m = made_by (λ (x : ℕ × List TableType). Append x.0 x.1) append_of parts a e in
          let p = and_parts (delta.fits m.0.0) ((repeated (type_at pool Local) n).fits m.0.1) m.2 in
          let count : length m.0.1 ≡ n = eqb-true (length m.0.1) n (and_parts (eqb (length m.0.1) n) _ p.1).0 in
          sym (ap frame_tag (append_made a m.0 m.1)) ∙ ap (λ k. 251 + k) count;
    }

full_made : (a : TableFrame) (b : ℕ × (List TableType × List TableType)) → full_of a ≡ Some b → Full b.0 b.1.0 b.1.1 ≡ a
full_made (Full d ls os) b e = let h = same_Some (d, (ls, os)) b e in λ i. Full (sym h i).0 (sym h i).1.0 (sym h i).1.1
full_made _ b e = absurd cc

full_form : (pool : List Entry) → IsForm (full pool) 255
full_form pool =
    let parts = both delta (λ _. both (counted bad_table w16 (type_at pool Local)) (λ _. counted bad_table w16 (type_at pool Operand))) in
    record {
      law = mapped_law (λ x. Full x.0 x.1.0 x.1.1) full_of parts
          (both_law delta (λ _. both (counted bad_table w16 (type_at pool Local)) (λ _. counted bad_table w16 (type_at pool Operand))) delta_law
          (λ _. both_law (counted bad_table w16 (type_at pool Local)) (λ _. counted bad_table w16 (type_at pool Operand)) (counted_law bad_table w16 (type_at pool Local) wide16 (type_law pool Local)) (λ _. counted_law bad_table w16 (type_at pool Operand) wide16 (type_law pool Operand))))
          (record { back_of = λ b e. refl; made_of = full_made });
      tag_is = λ a e. let m = made_by (λ (x : ℕ × (List TableType × List TableType)). Full x.0 x.1.0 x.1.1) full_of parts a e in sym (ap frame_tag (full_made a m.0 m.1));
    }

no_form : (tag : ℕ) → IsForm (refused_format bad_table 1) tag
no_form tag = record { law = refused_law bad_table 1; tag_is = λ a e. absurd cc }

-- ---- by the tag

-- the form that a tag of a byte stands for
record IsFormOf (f : Format TableFrame) (tag : ℕ) : Type 0 where
  law : IsFormat f
  tag_is : (a : TableFrame) → f.fits a ≡ true → tag < 256 → frame_tag a ≡ tag

either : (b : Bool) (f g : Format TableFrame) (tag : ℕ) → (b ≡ true → IsFormOf f tag) → (b ≡ false → IsFormOf g tag) → IsFormOf (if b then f else g) tag
either true f g tag one two = one refl
either false f g tag one two = two refl

as-tag : (f : Format TableFrame) (n tag : ℕ) → (tag < 256 → n ≡ tag) → IsForm f n → IsFormOf f tag
as-tag f n tag e i = record { law = i.law; tag_is = λ a h less. i.tag_is a h ∙ e less }

form_is : (pool : List Entry) (tag : ℕ) → IsFormOf (form pool tag) tag
form_is pool tag =
    either (nat_lt tag 64) _ _ tag (λ a. as-tag (same_frame tag) tag tag (λ _. refl) (same_form tag))
    (λ a. either (nat_lt tag 128) _ _ tag (λ b. as-tag (same_with_operand pool (tag - 64)) (64 + (tag - 64)) tag (λ _. omega (arith, ltb-false tag 64 a)) (operand_form pool (tag - 64)))
    (λ b. either (nat_lt tag 247) _ _ tag (λ c. as-tag (refused_format bad_table 1) tag tag (λ _. refl) (no_form tag))
    (λ c. either (eqb tag 247) _ _ tag (λ d. as-tag (same_with_operand_extended pool) 247 tag (λ _. sym (eqb-true tag 247 d)) (extended_operand_form pool))
    (λ d. either (nat_lt tag 251) _ _ tag (λ e. as-tag (chop (251 - tag)) (251 - (251 - tag)) tag (λ _. omega (arith, ltb-true tag 251 e)) (chop_form (251 - tag)))
    (λ e. either (eqb tag 251) _ _ tag (λ f. as-tag same_extended 251 tag (λ _. sym (eqb-true tag 251 f)) extended_form)
    (λ f. either (nat_lt tag 255) _ _ tag (λ g. as-tag (append pool (tag - 251)) (251 + (tag - 251)) tag (λ _. omega (arith, ltb-false tag 251 e)) (append_form pool (tag - 251)))
    (λ g. as-tag (full pool) 255 tag (λ less. omega (arith, ltb-false tag 255 g, less)) (full_form pool))))))))

frame_law : (pool : List Entry) → IsFormat (frame pool)
unfolding frame
frame_law pool =
    headed_law (number_format bad_table w8) frame_tag (form pool) (number_law bad_table w8 wide8) (λ k. (form_is pool k).law)
    (λ k a small e. (form_is pool k).tag_is a e (ltb-true k 256 small))

pub table_law : (pool : List Entry) → IsFormat (frame_table pool)
table_law pool = counted_law bad_table w16 (frame pool) wide16 (frame_law pool)
