-- Names of letters, digits, _ and $, of which each character takes one byte.
use Rattle.std.proofs.Common.{◌≡◌, ℕ, ◌<◌, ◌≤◌, ◌^◌, true, false, List, [], ◌∷◌, ◌++◌, length, refl, ◌∙◌, arith, ltb-true, length-append}
use Rattle.std.specs.Prelude.{◌&&◌, ◌==◌, not, nat_lt, decimal, codes}
use Rattle.std.specs.List.{list_all}
use Rattle.std.specs.Str.Parse.{AllDigits}
use Rattle.std.proofs.lemmas.Bool.{and_from, and_parts, or_left, not_from_false, le-ltb}
use Rattle.std.proofs.lemmas.Fmt.{decimal_is_IsNumeral, length-decimal-le_succ}
use Rattle.std.proofs.lemmas.Str.Parse.{digit_from_value}
use Rattle.std.proofs.lemmas.List.Folds.{list_all-append}
use Rattle.nv_values.specs.Names.{is_letter, is_letter_or_digit, IsClassName}
use Rattle.class_definition.specs.NameGrammar.{is_part_character, is_name_from, is_class_file_name, is_array_name, is_member_name}
use Rattle.class_definition.specs.Utf8.{character_bytes, text_bytes}
use Rattle.class_definition.specs.Named.{is_own_descriptor}
use Rattle.emit_layout.specs.ClassNames.{code_class_name, data_class_name, span_name}
use Rattle.emit_classes.specs.declared.member_kind.MemberKind.TheVariants.{Method}
use Rattle.emit_classes.specs.Lawful.{is_descriptor, names_class, names_member}
use Rattle.emit_classes.specs.Built.{is_long_text}
use Rattle.translate_classes.specs.Making.{nothing}
use Rattle.translate_classes.specs.Room.{is_short, is_own_name, is_own_method, can_name_class, can_name_method}
use Rattle.translate_classes.proofs.LawfulNames.MemberLemmas.{nothing-named, nothing-own}

-- ---- characters

part-bounds : (c : ℕ) → is_part_character c ≡ true → (36 ≤ c) × (c ≤ 122)
part-bounds c is = (grind arith, grind arith)

one-byte : (c : ℕ) → is_part_character c ≡ true → length (character_bytes c) ≡ 1
one-byte c is = let h = part-bounds c is in grind (arith, h.0, h.1)

no-slash : (c : ℕ) → is_part_character c ≡ true → (c == 47) ≡ false
no-slash c is = grind arith

digit-part : (c : ℕ) → 48 ≤ c → c ≤ 57 → is_part_character c ≡ true
digit-part c low high = grind arith

letter-part : (c : ℕ) → is_letter_or_digit c ≡ true → is_part_character c ≡ true
letter-part c is = grind arith

-- ---- texts

parts-bytes : (cs : List ℕ) → list_all is_part_character cs ≡ true → length (text_bytes cs) ≡ length cs
parts-bytes [] is = refl
parts-bytes (c ∷ cs) is =
    let each = and_parts (is_part_character c) (list_all is_part_character cs) is in
    omega (arith, length-append (character_bytes c) (text_bytes cs), one-byte c each.0, parts-bytes cs each.1)

parts-inside : (cs : List ℕ) → list_all is_part_character cs ≡ true → is_name_from true cs ≡ true
parts-inside [] is = refl
parts-inside (c ∷ cs) is =
    let each = and_parts (is_part_character c) (list_all is_part_character cs) is in
    rw (no-slash c each.0) (and_from (is_part_character c) (is_name_from true cs) each.0 (parts-inside cs each.1))

parts-name : (cs : List ℕ) → list_all is_part_character cs ≡ true → 0 < length cs → is_class_file_name cs ≡ true
parts-name [] is some = absurd (omega (arith, some))
parts-name (c ∷ cs) is some =
    let each = and_parts (is_part_character c) (list_all is_part_character cs) is in
    rw (no-slash c each.0) (and_from (is_part_character c) (is_name_from true cs) each.0 (parts-inside cs each.1))

parts-member : (cs : List ℕ) → list_all is_part_character cs ≡ true → 0 < length cs → is_member_name cs ≡ true
parts-member [] is some = absurd (omega (arith, some))
parts-member (c ∷ cs) is some = and_from (not (length (c ∷ cs) == 0)) (list_all is_part_character (c ∷ cs)) (grind arith) is

-- ---- numbers, and the name of a program

digits-parts : (ds : List ℕ) → AllDigits 10 ds → list_all is_part_character ds ≡ true
digits-parts [] all = refl
digits-parts (c ∷ cs) all =
    let h = digit_from_value c all.0 in
    and_from (is_part_character c) (list_all is_part_character cs) (digit-part c (omega (arith, h)) (omega (arith, h))) (digits-parts cs all.1)

number-parts : (k : ℕ) → k < 2 ^ 15 → list_all is_part_character (decimal k) ≡ true
number-parts k low = digits-parts (decimal k) (decimal_is_IsNumeral k (omega (arith, low))).0.1

number-length : (k : ℕ) → k < 2 ^ 15 → length (decimal k) ≤ 32768
number-length k low = omega (arith, low, length-decimal-le_succ k (omega (arith, low)))

letters-parts : (cs : List ℕ) → list_all is_letter_or_digit cs ≡ true → list_all is_part_character cs ≡ true
letters-parts [] is = refl
letters-parts (c ∷ cs) is =
    let each = and_parts (is_letter_or_digit c) (list_all is_letter_or_digit cs) is in
    and_from (is_part_character c) (list_all is_part_character cs) (letter-part c each.0) (letters-parts cs each.1)

-- a text of such characters, of which there are some and not too many
record IsPlainName (cs : List ℕ) (most : ℕ) : Type 0 where
  parts : list_all is_part_character cs ≡ true
  some : 0 < length cs
  few : length cs ≤ most

first-letter : (b : ℕ) → is_letter b ≡ true → is_letter_or_digit b ≡ true
first-letter b is = rw is refl

plain-main : (main : List ℕ) → IsClassName main → IsPlainName main 64
plain-main [] is = absurd cc
plain-main (b ∷ bs) is =
    let all = and_parts (is_letter b && list_all is_letter_or_digit bs) (nat_lt (length bs) 64) is in
    let each = and_parts (is_letter b) (list_all is_letter_or_digit bs) all.0 in
    let few : length bs < 64 = ltb-true (length bs) 64 all.1 in
    record {
      parts = and_from (is_part_character b) (list_all is_part_character bs) (letter-part b (first-letter b each.0)) (letters-parts bs each.1);
      some = omega arith;
      few = omega (arith, few);
    }

joined-parts : (xs ys : List ℕ) → list_all is_part_character xs ≡ true → list_all is_part_character ys ≡ true
    → list_all is_part_character (xs ++ ys) ≡ true
joined-parts xs ys first second = list_all-append is_part_character xs ys ∙ and_from _ _ first second

plain-numbered : (main mark : List ℕ) (k : ℕ) → IsPlainName main 64 → list_all is_part_character mark ≡ true → length mark ≤ 2 → k < 2 ^ 15
    → IsPlainName (main ++ mark ++ decimal k) 32834
plain-numbered main mark k is marked short low = record {
  parts = joined-parts (main ++ mark) (decimal k) (joined-parts main mark is.parts marked) (number-parts k low);
  some = omega (arith, is.some, length-append (main ++ mark) (decimal k), length-append main mark);
  few = omega (arith, is.few, short, number-length k low, length-append (main ++ mark) (decimal k), length-append main mark);
}

plain-span : (k : ℕ) → k < 2 ^ 15 → IsPlainName (span_name k) 32769
plain-span k low = record {
  parts = and_from true (list_all is_part_character (decimal k)) refl (number-parts k low);
  some = omega arith;
  few = omega (arith, number-length k low);
}

plain-code : (main : List ℕ) (k : ℕ) → IsClassName main → k < 2 ^ 15 → IsPlainName (code_class_name main k) 32834
plain-code main k is low = plain-numbered main (codes "_") k (plain-main main is) refl (omega arith) low

plain-data : (main : List ℕ) (k : ℕ) → IsClassName main → k < 2 ^ 15 → IsPlainName (data_class_name main k) 32834
plain-data main k is low = plain-numbered main (codes "_D") k (plain-main main is) refl (omega arith) low

-- ---- what a class builder takes

pub short-text : (cs : List ℕ) → length (text_bytes cs) ≤ 65535 → is_long_text cs ≡ false
short-text cs few = le-ltb 65535 (length (text_bytes cs)) few

plain-short : (cs : List ℕ) (most : ℕ) → most ≤ 65535 → IsPlainName cs most → is_short cs ≡ true
plain-short cs most low p = not_from_false (is_long_text cs) (short-text cs (omega (arith, low, p.few, parts-bytes cs p.parts)))

plain-own : (cs : List ℕ) (most : ℕ) → most ≤ 65535 → IsPlainName cs most → is_own_name cs ≡ true
plain-own cs most low p = and_from (is_class_file_name cs) (is_short cs) (parts-name cs p.parts p.some) (plain-short cs most low p)

pub main-own : (main : List ℕ) → IsClassName main → is_own_name main ≡ true
main-own main is = plain-own main 64 (omega arith) (plain-main main is)

pub code-own : (main : List ℕ) (k : ℕ) → IsClassName main → k < 2 ^ 15 → is_own_name (code_class_name main k) ≡ true
code-own main k is low = plain-own (code_class_name main k) 32834 (omega arith) (plain-code main k is low)

pub data-own : (main : List ℕ) (k : ℕ) → IsClassName main → k < 2 ^ 15 → is_own_name (data_class_name main k) ≡ true
data-own main k is low = plain-own (data_class_name main k) 32834 (omega arith) (plain-data main k is low)

pub own-named : (cs : List ℕ) → is_own_name cs ≡ true → can_name_class cs ≡ true
own-named cs is =
    let parts = and_parts (is_class_file_name cs) (is_short cs) is in
    and_from (names_class cs) (is_short cs) (or_left (is_class_file_name cs) (is_array_name cs) parts.0) parts.1

pub main-named : (main : List ℕ) → IsClassName main → can_name_class main ≡ true
main-named main is = own-named main (main-own main is)

span-texts : (k : ℕ) → k < 2048 → (is_short (span_name k) && is_short nothing) ≡ true
span-texts k low = and_from (is_short (span_name k)) (is_short nothing) (plain-short (span_name k) 32769 (omega arith) (plain-span k (omega (arith, low)))) refl

span-is-member : (k : ℕ) → k < 2048 → is_member_name (span_name k) ≡ true
span-is-member k low = let p = plain-span k (omega (arith, low)) in parts-member (span_name k) p.parts p.some

pub span-named : (k : ℕ) → k < 2048 → can_name_method (span_name k) nothing ≡ true
span-named k low =
    and_from (names_member Method (span_name k) nothing) (is_short (span_name k) && is_short nothing)
    (and_from (is_member_name (span_name k)) (is_descriptor Method nothing) (span-is-member k low) nothing-named) (span-texts k low)

pub span-own : (k : ℕ) → k < 2048 → is_own_method (span_name k) nothing ≡ true
span-own k low =
    and_from (is_member_name (span_name k) && is_own_descriptor nothing) (is_short (span_name k) && is_short nothing)
    (and_from (is_member_name (span_name k)) (is_own_descriptor nothing) (span-is-member k low) nothing-own) (span-texts k low)
