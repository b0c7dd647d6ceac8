-- JVM Specification, 6.5: the targets of branches. A branch's offset counts from its opcode.
use Rattle.std.specs.Prelude.{ℕ, ◌+◌, ◌-◌, ◌%◌, ◌^◌, nat_lt, nat_le, if◌then◌else◌, Option, Some, None}
use Rattle.std.specs.Int.{w16, w32}
use Rattle.class_definition.specs.Format.{Format, number_format, mapped}

-- the kinds of what is wrong with code
abbrev pub outside : ℕ
outside = 1

abbrev pub cut_instruction : ℕ
cut_instruction = 2

abbrev pub bad_target : ℕ
bad_target = 3

abbrev pub switch_keys : ℕ
switch_keys = 4

abbrev pub bad_length : ℕ
bad_length = 5

-- an offset of two bytes with its sign, as a number modulo 2 ^ 32
abbrev pub extended : ℕ → ℕ
extended bits = if nat_lt bits (2 ^ 15) then bits else bits + (2 ^ 32 - 2 ^ 16)

-- the target of an offset from a place; one before the code's start is a great number, and so no line's offset
abbrev pub target_from : ℕ → ℕ → ℕ
target_from at offset = (at + offset) % 2 ^ 32

-- the offset from a place to a target
abbrev pub offset_to : ℕ → ℕ → ℕ
offset_to at target = (target + (2 ^ 32 - at)) % 2 ^ 32

abbrev pub near_bits : ℕ → Option ℕ
near_bits offset =
    if nat_lt offset (2 ^ 15) then Some offset
    else if nat_le (2 ^ 32 - 2 ^ 15) offset then Some (offset - (2 ^ 32 - 2 ^ 16)) else None

-- a target that is given by an offset of two bytes, and of four
abbrev pub near : ℕ → Format ℕ
near at =
    mapped (λ bits. target_from at (extended bits)) (λ target. if nat_lt target (2 ^ 32)
    then near_bits (offset_to at target) else None)
    (number_format cut_instruction w16)

abbrev pub wide : ℕ → Format ℕ
wide at =
    mapped (λ bits. target_from at bits) (λ target. if nat_lt target (2 ^ 32)
    then Some (offset_to at target) else None)
    (number_format cut_instruction w32)
