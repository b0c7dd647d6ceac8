-- The entries and the pool are formats.
use Rattle.std.proofs.Common.{◌≡◌, ℕ, ◌+◌, Bool, true, false, cond, leb, ℤ, ◌-◌, ◌&&◌, eqb, List, length, Option, Some, None, refl, sym, ap, ◌∙◌, arith}
use Rattle.std.proofs.lemmas.Bool.{and_parts, eqb-true, leb-true}
use Rattle.std.specs.Int.{w16, w32, w64}
use Rattle.class_definition.specs.Kinds.{cut, tag, index, utf8}
use Rattle.class_definition.specs.Format.{Format, number_format, raw, nothing, refused_format, mapped, fits_by, headed, signed, tested, is_sound, fault_unless, chain_fits}
use Rattle.class_definition.specs.Spelling.{IsFormat}
use Rattle.class_format.proofs.FieldLaws.{wide16, wide32, wide64, number_law, raw_law, nothing_law, refused_law}
use Rattle.class_format.proofs.Signed.{signed32, signed64, signed_law}
use Rattle.class_format.proofs.Combined.{both_law, chain_law, mapped_law, tested_law, checked_law}
use Rattle.class_format.proofs.Parts.{IsRow, passes, tagged_law, headed_law, parsed_law}
use Rattle.class_definition.specs.declared.entry.Entry.{Entry}
use Rattle.class_definition.specs.declared.entry.Entry.TheVariants.{Utf8, Integer, Long, LongRest, ClassName, Text, FieldRef, MethodRef, NameAnd}
use Rattle.class_definition.specs.EntryParts.{tag_of}
use Rattle.class_definition.specs.Utf8.{text_bytes, has_16_bit_characters, text_of_bytes}
use Rattle.class_definition.specs.PoolEntries.{utf8_of, integer_of, long_entry, rest_of, class_entry_name, string_of, field_entry, method_entry, name_entry, slot_index, two_slots, text, long, entry_forms, entry, is_long_entry, slot, slots}
use Rattle.class_definition.specs.PoolChecks.{pool_entries_fault, sound_slots, pool}
use Rattle.constant_pool.proofs.TextLemmas.{text_parser}

-- ---- what an entry is made of makes it

utf8_made : (e : Entry) (x : List ℕ) → utf8_of e ≡ Some x → Utf8 x ≡ e
utf8_made (Utf8 a) x p = cc
utf8_made (Integer a) x p = absurd cc
utf8_made (Long a) x p = absurd cc
utf8_made LongRest x p = absurd cc
utf8_made (ClassName a) x p = absurd cc
utf8_made (Text a) x p = absurd cc
utf8_made (FieldRef a b) x p = absurd cc
utf8_made (MethodRef a b) x p = absurd cc
utf8_made (NameAnd a b) x p = absurd cc

integer_made : (e : Entry) (x : ℤ) → integer_of e ≡ Some x → Integer x ≡ e
integer_made (Utf8 a) x p = absurd cc
integer_made (Integer a) x p = cc
integer_made (Long a) x p = absurd cc
integer_made LongRest x p = absurd cc
integer_made (ClassName a) x p = absurd cc
integer_made (Text a) x p = absurd cc
integer_made (FieldRef a b) x p = absurd cc
integer_made (MethodRef a b) x p = absurd cc
integer_made (NameAnd a b) x p = absurd cc

long_made : (e : Entry) (x : ℤ) → long_entry e ≡ Some x → Long x ≡ e
long_made (Utf8 a) x p = absurd cc
long_made (Integer a) x p = absurd cc
long_made (Long a) x p = cc
long_made LongRest x p = absurd cc
long_made (ClassName a) x p = absurd cc
long_made (Text a) x p = absurd cc
long_made (FieldRef a b) x p = absurd cc
long_made (MethodRef a b) x p = absurd cc
long_made (NameAnd a b) x p = absurd cc

class_made : (e : Entry) (x : ℕ) → class_entry_name e ≡ Some x → ClassName x ≡ e
class_made (Utf8 a) x p = absurd cc
class_made (Integer a) x p = absurd cc
class_made (Long a) x p = absurd cc
class_made LongRest x p = absurd cc
class_made (ClassName a) x p = cc
class_made (Text a) x p = absurd cc
class_made (FieldRef a b) x p = absurd cc
class_made (MethodRef a b) x p = absurd cc
class_made (NameAnd a b) x p = absurd cc

string_made : (e : Entry) (x : ℕ) → string_of e ≡ Some x → Text x ≡ e
string_made (Utf8 a) x p = absurd cc
string_made (Integer a) x p = absurd cc
string_made (Long a) x p = absurd cc
string_made LongRest x p = absurd cc
string_made (ClassName a) x p = absurd cc
string_made (Text a) x p = cc
string_made (FieldRef a b) x p = absurd cc
string_made (MethodRef a b) x p = absurd cc
string_made (NameAnd a b) x p = absurd cc

field_made : (e : Entry) (x : ℕ × ℕ) → field_entry e ≡ Some x → FieldRef x.0 x.1 ≡ e
field_made (Utf8 a) x p = absurd cc
field_made (Integer a) x p = absurd cc
field_made (Long a) x p = absurd cc
field_made LongRest x p = absurd cc
field_made (ClassName a) x p = absurd cc
field_made (Text a) x p = absurd cc
field_made (FieldRef a b) x p = let q : (a, b) ≡ x = cc in rw (← q) refl
field_made (MethodRef a b) x p = absurd cc
field_made (NameAnd a b) x p = absurd cc

method_made : (e : Entry) (x : ℕ × ℕ) → method_entry e ≡ Some x → MethodRef x.0 x.1 ≡ e
method_made (Utf8 a) x p = absurd cc
method_made (Integer a) x p = absurd cc
method_made (Long a) x p = absurd cc
method_made LongRest x p = absurd cc
method_made (ClassName a) x p = absurd cc
method_made (Text a) x p = absurd cc
method_made (FieldRef a b) x p = absurd cc
method_made (MethodRef a b) x p = let q : (a, b) ≡ x = cc in rw (← q) refl
method_made (NameAnd a b) x p = absurd cc

name_made : (e : Entry) (x : ℕ × ℕ) → name_entry e ≡ Some x → NameAnd x.0 x.1 ≡ e
name_made (Utf8 a) x p = absurd cc
name_made (Integer a) x p = absurd cc
name_made (Long a) x p = absurd cc
name_made LongRest x p = absurd cc
name_made (ClassName a) x p = absurd cc
name_made (Text a) x p = absurd cc
name_made (FieldRef a b) x p = absurd cc
name_made (MethodRef a b) x p = absurd cc
name_made (NameAnd a b) x p = let q : (a, b) ≡ x = cc in rw (← q) refl

rest_made : (e : Entry) (x : Unit {0}) → rest_of e ≡ Some x → LongRest ≡ e
rest_made (Utf8 a) x p = absurd cc
rest_made (Integer a) x p = absurd cc
rest_made (Long a) x p = absurd cc
rest_made LongRest x p = refl
rest_made (ClassName a) x p = absurd cc
rest_made (Text a) x p = absurd cc
rest_made (FieldRef a b) x p = absurd cc
rest_made (MethodRef a b) x p = absurd cc
rest_made (NameAnd a b) x p = absurd cc

-- ---- the forms behind the tags

text_law : IsFormat text
text_law =
    parsed_law utf8 1 text_of_bytes has_16_bit_characters text_bytes (headed (number_format cut w16) length (raw cut))
    (headed_law (number_format cut w16) length (raw cut) (number_law cut w16 wide16) (λ n. raw_law cut n) (λ n bytes _ e. eqb-true _ _ e)) text_parser

slot_law : IsFormat slot_index
slot_law = number_law cut w16 wide16

two_law : IsFormat two_slots
two_law = both_law slot_index (λ _. slot_index) slot_law (λ _. slot_law)

-- the tag of a value that was made
tag_from : {B : Type 0} (make : B → Entry) (back : Entry → Option B) (f : Format B) (t : ℕ) → ((b : B) → tag_of (make b) ≡ t) → ((a : Entry) (b : B) → back a ≡ Some b → make b ≡ a)
    → (a : Entry) (o : Option B) → back a ≡ o → fits_by f o ≡ true → tag_of a ≡ t
tag_from make back f t tags made a None is e = absurd cc
tag_from make back f t tags made a (Some b) is e = ap tag_of (sym (made a b is)) ∙ tags b

row : {B : Type 0} (make : B → Entry) (back : Entry → Option B) (f : Format B) (t : ℕ) → IsFormat f → ((b : B) → back (make b) ≡ Some b) → ((b : B) → tag_of (make b) ≡ t)
    → ((a : Entry) (b : B) → back a ≡ Some b → make b ≡ a) → IsRow tag_of (record { tag = t; form = mapped make back f })
row make back f t law backs tags made = record {
  law = mapped_law make back f law (record { back_of = λ b e. backs b; made_of = made });
  tag = λ a e. tag_from make back f t tags made a (back a) refl e;
}

long_row : (to_come : ℕ) → IsRow tag_of (record { tag = 5; form = long to_come })
long_row to_come =
    elim (leb 1 to_come) as (λ b. IsRow tag_of (record { tag = 5; form = cond b (mapped Long long_entry (signed cut w64)) (refused_format index 1) })) [
      | true ↦ row Long long_entry (signed cut w64) 5 (signed_law cut w64 wide64 signed64) (λ b. refl) (λ b. refl) long_made
      | false ↦ record { law = refused_law index 1; tag = λ a e. absurd cc }
    ]

entry_law : (to_come : ℕ) → IsFormat (entry to_come)
unfolding entry
entry_law to_come =
    tagged_law cut tag tag_of (entry_forms to_come) (
      row Utf8 utf8_of text 1 text_law (λ b. refl) (λ b. refl) utf8_made,
      (
        row Integer integer_of (signed cut w32) 3 (signed_law cut w32 wide32 signed32) (λ b. refl) (λ b. refl) integer_made,
        (
          long_row to_come,
          (
            row ClassName class_entry_name slot_index 7 slot_law (λ b. refl) (λ b. refl) class_made,
            (
              row Text string_of slot_index 8 slot_law (λ b. refl) (λ b. refl) string_made,
              (
                row (λ x. FieldRef x.0 x.1) field_entry two_slots 9 two_law (λ b. refl) (λ b. refl) field_made,
                (
                  row (λ x. MethodRef x.0 x.1) method_entry two_slots 10 two_law (λ b. refl) (λ b. refl) method_made,
                  (row (λ x. NameAnd x.0 x.1) name_entry two_slots 12 two_law (λ b. refl) (λ b. refl) name_made, tt),
                ),
              ),
            ),
          ),
        ),
      ),
    )

slot_is : (after_long : Bool) (to_come : ℕ) → IsFormat (slot after_long to_come)
slot_is true to_come = mapped_law (λ _. LongRest) rest_of nothing nothing_law (record { back_of = λ b e. refl; made_of = rest_made })
slot_is false to_come = entry_law to_come

-- ---- the pool

slots_law : (count : ℕ) → IsFormat (slots count)
slots_law count = chain_law slot (λ _ e. is_long_entry e) slot_is false count

sound_law : (count : ℕ) → IsFormat (sound_slots count)
sound_law count = checked_law (λ entries. pool_entries_fault entries entries 0) (slots (count - 1)) (slots_law (count - 1))

-- a number of slots and 1 is not 0
count_is : (n : ℕ) (entries : List Entry) → ((number_format cut w16).fits n && is_sound (fault_unless index (leb 1 n))) ≡ true → (sound_slots n).fits entries ≡ true → length entries + 1 ≡ n
count_is n entries one e =
    let o = and_parts ((number_format cut w16).fits n) (is_sound (fault_unless index (leb 1 n))) one in
    let p = and_parts ((slots (n - 1)).fits entries) (is_sound (pool_entries_fault entries entries 0)) e in
    let q = and_parts (eqb (length entries) (n - 1)) (chain_fits slot (λ _ e. is_long_entry e) false entries) p.0 in
    let same = eqb-true _ _ q.0 in
    let some = leb-true _ _ (passes index (leb 1 n) o.1) in
    omega arith

pub pool_law : IsFormat pool
unfolding pool
pool_law =
    headed_law (tested index (λ n. leb 1 n) (number_format cut w16)) (λ entries. length entries + 1) sound_slots
    (tested_law index (λ n. leb 1 n) (number_format cut w16) (number_law cut w16 wide16)) sound_law count_is
