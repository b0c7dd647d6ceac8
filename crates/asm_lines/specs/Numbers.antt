-- The numbers of an assembly text, and what they stand for.
use Rattle.std.specs.Prelude.{ℕ, ◌+◌, ◌-◌, ◌*◌, ◌%◌, ◌^◌, ◌==◌, ◌&&◌, Bool, true, false, nat_le, nat_lt, cond, if◌then◌else◌, List, [], ◌∷◌, Option, Some, None, option_map}
use Rattle.std.specs.Str.{byte}
use Rattle.asm_lines.specs.declared.number.Number.{Number}

-- the value of a digit, upper or lower case, or 16 where it is none
abbrev pub digit_value : ℕ → ℕ
digit_value b =
    if nat_le 48 b && nat_le b 57 then b - 48
    else if nat_le 65 b && nat_le b 70 then b - 55
    else if nat_le 97 b && nat_le b 102 then b - 87
    else 16

-- the number whose leading digits are a number and whose further digits are these
abbrev pub digits_after : ℕ → ℕ → List ℕ → Option ℕ
digits_after base high [] = Some high
digits_after base high (b ∷ bs) =
    cond (nat_lt (digit_value b) base) (digits_after base (high * base + digit_value b) bs) None

-- the number that one or more digits are
abbrev pub digits_number : ℕ → List ℕ → Option ℕ
digits_number base [] = None
digits_number base (b ∷ bs) = digits_after base 0 (b ∷ bs)

abbrev pub hexadecimal_or_decimal : List ℕ → Option ℕ
hexadecimal_or_decimal [] = None
hexadecimal_or_decimal (b ∷ []) = digits_number 10 (b ∷ [])
hexadecimal_or_decimal (b ∷ c ∷ bs) =
    cond (b == byte "0" && c == byte "x") (digits_number 16 bs) (digits_number 10 (b ∷ c ∷ bs))

-- a number: decimal digits with an optional `-`, or `0x` and hexadecimal digits
abbrev pub written_number : List ℕ → Option Number
written_number [] = None
written_number (b ∷ bs) =
    cond (b == byte "-") (option_map (λ n. record { negative = true; magnitude = n })
    (digits_number 10 bs))
    (option_map (λ n. record { negative = false; magnitude = n }) (hexadecimal_or_decimal (b ∷ bs)))

-- whether there are further digits behind a zero
abbrev pub has_leading_zero : List ℕ → Bool
has_leading_zero [] = false
has_leading_zero (b ∷ []) = false
has_leading_zero (b ∷ c ∷ bs) = b == byte "0"

abbrev pub below_32 : Option ℕ → Option ℕ
below_32 None = None
below_32 (Some n) = cond (nat_lt n 32) (Some n) None

-- the number of a register, `$0` to `$31` without leading zeros
abbrev pub register_of : List ℕ → Option ℕ
register_of [] = None
register_of (b ∷ digits) =
    cond (b == byte "$") (cond (has_leading_zero digits) None (below_32 (digits_number 10 digits)))
    None

-- whether a number is from -low to high
abbrev pub is_between : ℕ → ℕ → Number → Bool
is_between low high n = cond n.negative (nat_le n.magnitude low) (nat_le n.magnitude high)

-- the low bits of a number in two's complement, for a number from -2^bits on
abbrev pub low_bits_of : ℕ → Number → ℕ
low_bits_of bits n = cond n.negative (2 ^ bits - n.magnitude) n.magnitude % 2 ^ bits
