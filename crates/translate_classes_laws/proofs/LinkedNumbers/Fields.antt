-- The fields of the main class differ.
use Rattle.std.proofs.Common.{◌≡◌, ℕ, ◌+◌, ◌<◌, Bool, true, false, cond, List, [], ◌∷◌, ◌++◌, map, drop, refl, sym, ap, subst, ◌∙◌, arith}
use Rattle.std.specs.Prelude.{codes, decimal}
use Rattle.std.specs.List.{AllByRecursion, IsDistinct, range_with_len}
use Rattle.std.proofs.lemmas.Bool.{lt-ltb}
use Rattle.std.proofs.lemmas.Fmt.{decimal_injective}
use Rattle.class_definition.specs.MemberNames.{Signature, same_signature}
use Rattle.class_definition.specs.LinkFault.{has_equal}
use Rattle.emit_layout.specs.Fields.{special_name, field_name, field_descriptor}
use Rattle.translate_classes_laws.specs.Planned.{numbered}
use Rattle.translate_classes_laws.specs.Translated.{fields_of_main}
use Rattle.translate_classes_laws.proofs.LinkedNumbers.Numbers.{text-other}
use Rattle.translate_classes_laws.proofs.LinkedNumbers.Signatures.{none-equal, distinct-from}
use Rattle.translate_classes_laws.proofs.LinkedNumbers.Names.{distinct-range, no-digit, other-first}

abbrev field : ℕ → Signature
field = numbered field_name field_descriptor

register-name : (i : ℕ) → i < 31 → field_name i ≡ 114 ∷ decimal (i + 1)
register-name i low = ap (λ b. cond b (codes "r" ++ decimal (i + 1)) (special_name i)) (lt-ltb i 31 low)

registers-differ : (i j : ℕ) → i < j → j < 31 → same_signature (field i) (field j) ≡ false
registers-differ i j less high = other-first (field i) (field j) (text-other (field_name i) (field_name j) (λ e.
    let both : 114 ∷ decimal (i + 1) ≡ 114 ∷ decimal (j + 1) = sym (register-name i (omega arith)) ∙ e ∙ register-name j high in
    let same : i + 1 ≡ j + 1 = decimal_injective (i + 1) (j + 1) (omega arith) (omega arith) (ap (drop 1) both) in
    omega arith))

-- the second character of the other names is no digit
not-special : (i : ℕ) → i < 31 → (s : Signature) (a c : ℕ) (cs : List ℕ) → 57 < c → s.name ≡ a ∷ c ∷ cs → same_signature (field i) s ≡ false
not-special i low s a c cs above is = other-first (field i) s (text-other (field_name i) s.name (λ e.
    let both : 114 ∷ decimal (i + 1) ≡ a ∷ c ∷ cs = sym (register-name i low) ∙ e ∙ is in
    no-digit (i + 1) c cs (omega arith) above (ap (drop 1) both)))

-- the name of the field of a meter begins as no register's does either
abbrev metered_fields : Bool → List Signature
metered_fields true = field 38 ∷ []
metered_fields false = []

abbrev specials : Bool → List Signature
specials metered = map field (range_with_len 31 7) ++ metered_fields metered

none-metered : (metered : Bool) (i : ℕ) → i < 31 → AllByRecursion (λ s. same_signature (field i) s ≡ false) (metered_fields metered)
none-metered true i low = (not-special i low (field 38) 108 101 (102 ∷ 116 ∷ []) (omega arith) refl, tt)
none-metered false i low = tt

none-special : (metered : Bool) (i : ℕ) → i < 31 → AllByRecursion (λ s. same_signature (field i) s ≡ false) (specials metered)
none-special metered i low =
    let other = not-special i low in (
      other (field 31) 104 105 [] (omega arith) refl,
      (
        other (field 32) 108 111 [] (omega arith) refl,
        (
          other (field 33) 112 99 [] (omega arith) refl,
          (
            other (field 34) 114 100 [] (omega arith) refl,
            (
              other (field 35) 119 114 [] (omega arith) refl,
              (
                other (field 36) 108 108 [] (omega arith) refl,
                (other (field 37) 108 102 [] (omega arith) refl, none-metered metered i low),
              ),
            ),
          ),
        ),
      ),
    )

specials-differ : (metered : Bool) → IsDistinct same_signature (specials metered)
specials-differ true = distinct-from (specials true) refl
specials-differ false = distinct-from (specials false) refl

in-parts : (metered : Bool) → fields_of_main metered ≡ map field (range_with_len 0 31) ++ specials metered
in-parts true = refl
in-parts false = refl

pub fields-differ : (metered : Bool) → has_equal (fields_of_main metered) ≡ false
fields-differ metered = none-equal (fields_of_main metered) (subst (IsDistinct same_signature) (sym (in-parts metered))
    (distinct-range same_signature field 31 0 31 (specials metered) (omega arith) registers-differ (none-special metered) (specials-differ metered)))
