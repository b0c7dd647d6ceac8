-- JVM Specification, 6.5, tableswitch and lookupswitch.
use Rattle.std.specs.Prelude.{ℕ, ℤ, pos, negsuc, suc, int_lt, ◌-◌, ◌%◌, ◌^◌, ◌+ℤ◌, ◌-ℤ◌, ◌&&◌, ◌==◌, Bool, true, nat_lt, List, [], ◌∷◌, length, replicate, Some}
use Rattle.std.specs.List.{list_all}
use Rattle.std.specs.Int.{w32}
use Rattle.jvm_definition.specs.declared.pair.Pair.{Pair}
use Rattle.jvm_definition.specs.declared.table_switch.TableSwitch.{TableSwitch}
use Rattle.jvm_definition.specs.declared.lookup_switch.LookupSwitch.{LookupSwitch}
use Rattle.class_definition.specs.Format.{Format, number_format, raw, both, repeated, mapped, tested, signed}
use Rattle.class_definition.specs.Targets.{cut_instruction, switch_keys, wide}

-- the number of padding bytes behind the opcode at a place, up to a multiple of 4
abbrev pub pad_of : ℕ → ℕ
pad_of at = 3 - at % 4

abbrev pub is_padding : List ℕ → Bool
is_padding bytes = list_all (λ b. b == 0) bytes

-- ---- tableswitch: padding, default, low, high, and a target for each key from low to high

-- how many keys there are from low to high
abbrev pub keys_in : ℤ → ℕ
keys_in (pos n) = suc n
keys_in (negsuc n) = 0

abbrev pub key_count : ℤ → ℤ → ℕ
key_count low high = keys_in (high -ℤ low)

abbrev pub TableHead : Type 0
TableHead = List ℕ × (ℕ × (ℤ × ℤ))

abbrev pub table_count : TableHead → ℕ
table_count head = key_count head.1.1.0 head.1.1.1

abbrev pub table_head : ℕ → Format TableHead
table_head at =
    tested switch_keys (λ head. is_padding head.0 && nat_lt 0 (table_count head))
    (both (raw cut_instruction (pad_of at)) (λ _.
    both (wide at) (λ _. both (signed cut_instruction w32) (λ _. signed cut_instruction w32))))

-- the greatest key
abbrev pub last_key : TableSwitch → ℤ
last_key s = (s.low +ℤ pos (length s.targets)) -ℤ pos 1

unfoldable pub table_switch : ℕ → Format TableSwitch
table_switch at =
    mapped (λ x. record { default = x.0.1.0; low = x.0.1.1.0; targets = x.1 })
    (λ s. Some ((replicate (pad_of at) 0, (s.default, (s.low, last_key s))), s.targets))
    (both (table_head at) (λ head. repeated (wide at) (table_count head)))

-- ---- lookupswitch: padding, default, the number of pairs, and the pairs, whose keys rise

abbrev pub LookupHead : Type 0
LookupHead = List ℕ × (ℕ × ℕ)

abbrev pub lookup_head : ℕ → Format LookupHead
lookup_head at =
    tested switch_keys (λ head. is_padding head.0 && nat_lt head.1.1 (2 ^ 31))
    (both (raw cut_instruction (pad_of at)) (λ _. both (wide at) (λ _. number_format cut_instruction w32)))

abbrev pub pair : ℕ → Format Pair
pair at =
    mapped (λ x. record { key = x.0; target = x.1 }) (λ p. Some (p.key, p.target))
    (both (signed cut_instruction w32) (λ _. wide at))

-- each key is above the one before
abbrev pub rises_from : ℤ → List Pair → Bool
rises_from key [] = true
rises_from key (p ∷ pairs) = int_lt key p.key && rises_from p.key pairs

abbrev pub rises : List Pair → Bool
rises [] = true
rises (p ∷ pairs) = rises_from p.key pairs

unfoldable pub lookup_switch : ℕ → Format LookupSwitch
lookup_switch at =
    mapped (λ x. record { default = x.0.1.0; pairs = x.1 })
    (λ s. Some ((replicate (pad_of at) 0, (s.default, length s.pairs)), s.pairs))
    (both (lookup_head at) (λ head. tested switch_keys rises (repeated (pair at) head.1.1)))
