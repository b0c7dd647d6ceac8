-- Words of 32 bits: their two's complement values, their four bytes, and the numbers that stand in a list of bytes.
use Rattle.std.specs.Prelude.{ℕ, ℤ, pos, negsuc, suc, ◌+◌, ◌-◌, ◌*◌, ◌/◌, ◌%◌, ◌^◌, ◌<◌, ◌-ℤ◌, nat_lt, if◌then◌else◌, List, [], ◌∷◌, ◌++◌, length, take, drop, slice_index}
use Rattle.run_definition.specs.declared.order.Order.{Order}
use Rattle.run_definition.specs.declared.order.Order.TheVariants.{Big, Little}

-- a word is a number of 32 bits
abbrev pub IsWord : ℕ → Type 0
IsWord w = w < 2 ^ 32

-- the word as a two's complement number
abbrev pub signed_of : ℕ → ℤ
signed_of w = if nat_lt w (2 ^ 31) then pos w else pos w -ℤ pos (2 ^ 32)

-- the word whose two's complement number is z, for z of 32 bits
abbrev pub unsigned_of : ℤ → ℕ
unsigned_of (pos n) = n
unsigned_of (negsuc n) = 2 ^ 32 - suc n

-- the number modulo 2^32, as a word
abbrev pub wrapped : ℤ → ℕ
wrapped (pos n) = n % 2 ^ 32
wrapped (negsuc n) = 2 ^ 32 - suc (n % 2 ^ 32)

-- lane i of a word, for i below 4: one of its four bytes, lane 0 the most significant
abbrev pub lane_of_word : ℕ → ℕ → ℕ
lane_of_word w i = w / 2 ^ (24 - 8 * i) % 2 ^ 8

-- the same in a stated order: lane 0 is the byte that has the lowest address
abbrev pub lane_in_order : Order → ℕ → ℕ → ℕ
lane_in_order Big w i = lane_of_word w i
lane_in_order Little w i = lane_of_word w (3 - i)

-- the word with its lane i replaced by the byte b
abbrev pub word_with_lane : ℕ → ℕ → ℕ → ℕ
word_with_lane w i b = w - lane_of_word w i * 2 ^ (24 - 8 * i) + b * 2 ^ (24 - 8 * i)

-- the word of four bytes, the most significant first
abbrev pub word_of_bytes : ℕ → ℕ → ℕ → ℕ → ℕ
word_of_bytes a b c d = a * 2 ^ 24 + b * 2 ^ 16 + c * 2 ^ 8 + d

-- the half-word of two bytes, the more significant first
abbrev pub half_of_bytes : ℕ → ℕ → ℕ
half_of_bytes a b = a * 2 ^ 8 + b

-- the half-word that stands at a place of a list of bytes
abbrev pub half_of_list : Order → List ℕ → ℕ → ℕ
half_of_list Big bs at = half_of_bytes (slice_index bs at) (slice_index bs (at + 1))
half_of_list Little bs at = half_of_bytes (slice_index bs (at + 1)) (slice_index bs at)

-- the word that stands at a place of a list of bytes
abbrev pub word_of_list : Order → List ℕ → ℕ → ℕ
word_of_list Big bs at =
    word_of_bytes (slice_index bs at) (slice_index bs (at + 1)) (slice_index bs (at + 2))
    (slice_index bs (at + 3))
word_of_list Little bs at =
    word_of_bytes (slice_index bs (at + 3)) (slice_index bs (at + 2)) (slice_index bs (at + 1))
    (slice_index bs at)

-- the two bytes of a half-word, the more significant first
abbrev pub bytes_of_half : ℕ → List ℕ
bytes_of_half h = h / 2 ^ 8 % 2 ^ 8 ∷ h % 2 ^ 8 ∷ []

-- the four bytes of a word, the most significant first
abbrev pub bytes_of_word : ℕ → List ℕ
bytes_of_word w = lane_of_word w 0 ∷ lane_of_word w 1 ∷ lane_of_word w 2 ∷ lane_of_word w 3 ∷ []

-- the list with these items in place of as many from a place
abbrev pub list_with : List ℕ → ℕ → List ℕ → List ℕ
list_with bs at items = take at bs ++ items ++ drop (at + length items) bs
