-- Two's complement numbers are formats.
use Rattle.std.proofs.Common.{◌≡◌, ℕ, ◌*◌, ◌^◌, ◌<◌, Bool, true, false, cond, ℤ, pos, negsuc, Some, None, refl, arith}
use Rattle.std.specs.Int.{Width, w8, w16, w32, w64, byte_len, cast_signed, cast_unsigned}
use Rattle.std.proofs.lemmas.Bool.{ltb-true}
use Rattle.class_definition.specs.Format.{number_format, signed, fits_signed, bits_of}
use Rattle.class_definition.specs.Spelling.{IsFormat}
use Rattle.class_format.proofs.FieldLaws.{IsWide, number_law}
use Rattle.class_format.proofs.Combined.{mapped_law}

-- a width whose signed numbers and bits lead to each other
pub record IsSigned (w : Width) : Type 0 where
  pub fit : (n : ℕ) → n < 2 ^ (8 * byte_len w) → fits_signed w (cast_signed w n) ≡ true
  pub bits : (n : ℕ) → n < 2 ^ (8 * byte_len w) → cast_unsigned w (cast_signed w n) ≡ n
  pub again : (z : ℤ) → fits_signed w z ≡ true → cast_signed w (cast_unsigned w z) ≡ z

again8 : (z : ℤ) → fits_signed w8 z ≡ true → cast_signed w8 (cast_unsigned w8 z) ≡ z
again8 (pos n) e = let lt = ltb-true _ _ e in grind arith
again8 (negsuc n) e = let lt = ltb-true _ _ e in grind arith

pub signed8 : IsSigned w8
signed8 = record { fit = λ n lt. grind arith; bits = λ n lt. grind arith; again = again8 }

again16 : (z : ℤ) → fits_signed w16 z ≡ true → cast_signed w16 (cast_unsigned w16 z) ≡ z
again16 (pos n) e = let lt = ltb-true _ _ e in grind arith
again16 (negsuc n) e = let lt = ltb-true _ _ e in grind arith

pub signed16 : IsSigned w16
signed16 = record { fit = λ n lt. grind arith; bits = λ n lt. grind arith; again = again16 }

again32 : (z : ℤ) → fits_signed w32 z ≡ true → cast_signed w32 (cast_unsigned w32 z) ≡ z
again32 (pos n) e = let lt = ltb-true _ _ e in grind arith
again32 (negsuc n) e = let lt = ltb-true _ _ e in grind arith

pub signed32 : IsSigned w32
signed32 = record { fit = λ n lt. grind arith; bits = λ n lt. grind arith; again = again32 }

again64 : (z : ℤ) → fits_signed w64 z ≡ true → cast_signed w64 (cast_unsigned w64 z) ≡ z
again64 (pos n) e = let lt = ltb-true _ _ e in grind arith
again64 (negsuc n) e = let lt = ltb-true _ _ e in grind arith

pub signed64 : IsSigned w64
signed64 = record { fit = λ n lt. grind arith; bits = λ n lt. grind arith; again = again64 }

-- a choice that gave something
chosen : {A : Type 0} (b : Bool) (x y : A) → cond b (Some x) None ≡ Some y → (b ≡ true) × (x ≡ y)
chosen true x y e = (refl, cc)
chosen false x y e = absurd cc

bits_back : (cut : ℕ) (w : Width) → IsSigned w → (n : ℕ) → (number_format cut w).fits n ≡ true → bits_of w (cast_signed w n) ≡ Some n
bits_back cut w is n e = let lt = ltb-true _ _ e in rw (is.fit n lt, is.bits n lt) refl

bits_made : (w : Width) → IsSigned w → (z : ℤ) (n : ℕ) → bits_of w z ≡ Some n → cast_signed w n ≡ z
bits_made w is z n e =
    let p = chosen (fits_signed w z) (cast_unsigned w z) n e in
    rw (← p.1) (is.again z p.0)

pub signed_law : (cut : ℕ) (w : Width) → IsWide w → IsSigned w → IsFormat (signed cut w)
signed_law cut w wide is =
    mapped_law (cast_signed w) (bits_of w) (number_format cut w) (number_law cut w wide)
    (record { back_of = bits_back cut w is; made_of = bits_made w is })
