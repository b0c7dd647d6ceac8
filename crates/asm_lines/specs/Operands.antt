-- What the operands of a line stand for, or the kind of their fault: 2 a wrong number or form of operands, 3 a number out of
-- range or a target that the instruction cannot reach, 5 a name without a label. Of several faults the lowest kind counts.
use Rattle.std.specs.Prelude.{ℕ, ◌+◌, ◌-◌, ◌/◌, ◌%◌, ◌^◌, ◌==◌, ◌&&◌, Bool, nat_le, nat_lt, cond, min, List, [], ◌∷◌, ◌++◌, length, take, drop, Option, Some, None, Result, Ok, Err, bytes_eq, codes, slice_index}
use Rattle.std.specs.Str.{byte}
use Rattle.asm_lines.specs.Lexical.{is_name, name_before}
use Rattle.asm_lines.specs.Numbers.{written_number, register_of, is_between, low_bits_of}
use Rattle.asm_lines.specs.declared.number.Number.{Number}

-- the labels: each name with its address
abbrev pub LabelList : Type 0
LabelList = List (List ℕ × ℕ)

-- the address of the first label of a name
abbrev pub label_address : LabelList → List ℕ → Option ℕ
label_address [] name = None
label_address (l ∷ labels) name = cond (bytes_eq l.0 name) (Some l.1) (label_address labels name)

-- the first of two addresses that is there
abbrev pub first_of : Option ℕ → Option ℕ → Option ℕ
first_of None other = other
first_of (Some a) other = Some a

abbrev pub or_kind : {A : Type 0} → ℕ → Option A → Result A ℕ
or_kind kind None = Err kind
or_kind kind (Some x) = Ok x

-- both lists of values, or the lowest kind
abbrev pub both_values : Result (List ℕ) ℕ → Result (List ℕ) ℕ → Result (List ℕ) ℕ
both_values (Ok xs) (Ok ys) = Ok (xs ++ ys)
both_values (Ok xs) (Err k) = Err k
both_values (Err k) (Ok ys) = Err k
both_values (Err j) (Err k) = Err (min j k)

-- the value of an operand, as a list of one
abbrev pub one : Result ℕ ℕ → Result (List ℕ) ℕ
one (Ok x) = Ok (x ∷ [])
one (Err k) = Err k

abbrev pub register_operand : List ℕ → Result ℕ ℕ
register_operand text = or_kind 2 (register_of text)

-- the low bits of a number from -low to high
abbrev pub in_range : ℕ → ℕ → ℕ → Option Number → Result ℕ ℕ
in_range low high bits None = Err 2
in_range low high bits (Some n) = cond (is_between low high n) (Ok (low_bits_of bits n)) (Err 3)

abbrev pub number_operand : ℕ → ℕ → ℕ → List ℕ → Result ℕ ℕ
number_operand low high bits text = in_range low high bits (written_number text)

-- the name in `%hi(name)` or `%lo(name)`
abbrev pub name_within : List ℕ → List ℕ → Option (List ℕ)
name_within opening text =
    cond (bytes_eq (take (length opening) text) opening)
    (name_before (byte ")") (drop (length opening) text)) None

-- the upper half of an address for LUI, where the lower half is added as a signed number; and its lower half
abbrev pub upper_half : ℕ → ℕ
upper_half address = (address + 0x8000) / 0x10000 % 2 ^ 16

abbrev pub lower_half : ℕ → ℕ
lower_half address = address % 2 ^ 16

abbrev pub half_of : (ℕ → ℕ) → Option ℕ → Result ℕ ℕ
half_of half None = Err 5
half_of half (Some address) = Ok (half address)

abbrev pub by_halves : LabelList → Option (List ℕ) → Option (List ℕ) → Result ℕ ℕ → Result ℕ ℕ
by_halves labels (Some name) lower otherwise = half_of upper_half (label_address labels name)
by_halves labels None (Some name) otherwise = half_of lower_half (label_address labels name)
by_halves labels None None otherwise = otherwise

-- an immediate of 16 bits: a number from -low to 65535, `%hi(name)` or `%lo(name)`
abbrev pub immediate : ℕ → LabelList → List ℕ → Result ℕ ℕ
immediate low labels text =
    by_halves labels (name_within (codes "%hi(") text) (name_within (codes "%lo(") text)
    (number_operand low 65535 16 text)

-- a shift amount; a code; a trap's code
abbrev pub amount : List ℕ → Result ℕ ℕ
amount text = number_operand 0 31 5 text

abbrev pub code_operand : List ℕ → Result ℕ ℕ
code_operand text = number_operand 0 1048575 20 text

abbrev pub trap_code : List ℕ → Result ℕ ℕ
trap_code text = number_operand 0 1023 10 text

abbrev pub later : Bool → Option ℕ → Option ℕ
later here (Some i) = Some (i + 1)
later here None = cond here (Some 0) None

-- the place of the last `(`, where there is one
abbrev pub last_opening : List ℕ → Option ℕ
last_opening [] = None
last_opening (b ∷ bs) = later (b == byte "(") (last_opening bs)

abbrev pub around : LabelList → List ℕ → Option ℕ → Result (List ℕ) ℕ
around labels inner None = Err 2
around labels inner (Some i) =
    both_values (one (immediate 32768 labels (take i inner))) (one (register_operand (drop (i + 1) inner)))

-- an immediate and a register, `imm($rs)`
abbrev pub in_memory : LabelList → List ℕ → Result (List ℕ) ℕ
in_memory labels text =
    let inner = take (length text - 1) text in
    cond (slice_index text (length text - 1) == byte ")") (around labels inner (last_opening inner))
    (Err 2)

-- ---- targets
-- an address: that of a label, or a number
abbrev pub numbered : Option Number → Result ℕ ℕ
numbered None = Err 2
numbered (Some n) = cond (is_between 0 (2 ^ 32 - 1) n) (Ok n.magnitude) (Err 3)

abbrev pub target : LabelList → List ℕ → Result ℕ ℕ
target labels text =
    cond (is_name text) (or_kind 5 (label_address labels text)) (numbered (written_number text))

-- the immediate of a branch at an address: a signed number of words from the next instruction on
abbrev pub branch_to : ℕ → Result ℕ ℕ → Result ℕ ℕ
branch_to at (Err k) = Err k
branch_to at (Ok to) =
    cond (to % 4 == 0 && nat_le (at + 4) (to + 2 ^ 17) && nat_lt to (at + 4 + 2 ^ 17))
    (Ok ((to + 2 ^ 18 - (at + 4)) / 4 % 2 ^ 16)) (Err 3)

-- the index of a jump at an address: a word whose address has the upper four bits of the next instruction's
abbrev pub jump_to : ℕ → Result ℕ ℕ → Result ℕ ℕ
jump_to at (Err k) = Err k
jump_to at (Ok to) =
    cond (to % 4 == 0 && to / 2 ^ 28 == (at + 4) / 2 ^ 28) (Ok (to / 4 % 2 ^ 26)) (Err 3)
