-- JVM Specification, 4.4.7: modified UTF-8.
use Rattle.std.specs.Prelude.{ℕ, ◌+◌, ◌-◌, ◌*◌, ◌/◌, ◌%◌, ◌<◌, ◌&&◌, ◌||◌, ◌==◌, Bool, nat_lt, nat_le, if◌then◌else◌, List, [], ◌∷◌, Option, Some, None, option_map}
use Rattle.std.specs.List.{flat_map, list_all}
use Rattle.class_definition.specs.declared.partial.Partial.{Partial}
use Rattle.class_definition.specs.declared.partial.Partial.TheVariants.{Start, Two, Three, Last}
use Rattle.class_definition.specs.declared.step.Step.{Step}
use Rattle.class_definition.specs.declared.step.Step.TheVariants.{More, Character, Wrong}

-- the bytes of a 16-bit character: one for 1 to 7F, two for 0 and 80 to 7FF (110 and 5 bits, 10 and 6 bits), three for the
-- others (1110 and 4 bits, 10 and 6, 10 and 6)
abbrev pub character_bytes : ℕ → List ℕ
character_bytes c =
    if nat_le 1 c && nat_lt c 0x80 then c ∷ []
    else if nat_lt c 0x800 then (0xC0 + c / 64) ∷ (0x80 + c % 64) ∷ []
    else (0xE0 + c / 4096) ∷ (0x80 + c / 64 % 64) ∷ (0x80 + c % 64) ∷ []

-- the bytes of a text
abbrev pub text_bytes : List ℕ → List ℕ
text_bytes cs = flat_map character_bytes cs

-- a text has characters of 16 bits
abbrev pub has_16_bit_characters : List ℕ → Bool
has_16_bit_characters cs = list_all (λ c. nat_lt c 0x1_0000) cs

-- ---- the text of bytes, byte by byte

abbrev pub first_step : ℕ → Step
first_step b =
    if nat_le 1 b && nat_lt b 0x80 then Character b
    else if nat_le 0xC0 b && nat_lt b 0xE0 then More (Two (b - 0xC0))
    else if nat_le 0xE0 b && nat_lt b 0xF0 then More (Three (b - 0xE0))
    else Wrong

-- the six bits of a byte that goes on
abbrev pub low_six_bits : ℕ → Option ℕ
low_six_bits b = if nat_le 0x80 b && nat_lt b 0xC0 then Some (b - 0x80) else None

-- a character of so many bytes: only the shortest form is one
abbrev pub two_bytes : ℕ → Step
two_bytes c = if c == 0 || nat_le 0x80 c then Character c else Wrong

abbrev pub three_bytes : ℕ → Step
three_bytes c = if nat_le 0x800 c then Character c else Wrong

abbrev pub gone_on : (ℕ → Step) → Option ℕ → Step
gone_on f None = Wrong
gone_on f (Some low) = f low

-- what one more byte makes of a character
abbrev pub step : Partial → ℕ → Step
step Start b = first_step b
step (Two high) b = gone_on (λ low. two_bytes (high * 64 + low)) (low_six_bits b)
step (Three high) b = gone_on (λ low. More (Last (high * 64 + low))) (low_six_bits b)
step (Last high) b = gone_on (λ low. three_bytes (high * 64 + low)) (low_six_bits b)

abbrev pub resumed : (Partial → Option (List ℕ)) → Step → Option (List ℕ)
resumed walk (More partial) = walk partial
resumed walk (Character c) = option_map (λ cs. c ∷ cs) (walk Start)
resumed walk Wrong = None

-- the text of bytes that go on with a character of which some was read; none where they are no text's
unfoldable pub text_from : Partial → List ℕ → Option (List ℕ)
text_from Start [] = Some []
text_from (Two high) [] = None
text_from (Three high) [] = None
text_from (Last high) [] = None
text_from partial (b ∷ bytes) = resumed (λ next. text_from next bytes) (step partial b)

-- the text of bytes
abbrev pub text_of_bytes : List ℕ → Option (List ℕ)
text_of_bytes bytes = text_from Start bytes

-- the bits of a part of a character
abbrev pub IsPartial : Partial → Type 0
IsPartial Start = Unit {0}
IsPartial (Two high) = high < 32
IsPartial (Three high) = high < 16
IsPartial (Last high) = high < 1024
