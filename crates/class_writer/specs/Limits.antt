-- JVM Specification, 4.11: how much a class file can hold, of what is counted by two bytes.
use Rattle.std.specs.Prelude.{ℕ, Bool, false, nat_lt, if◌then◌else◌, List, length, Option, Some, None}
use Rattle.std.specs.List.{list_any}
use Rattle.class_definition.specs.declared.entry.Entry.{Entry}
use Rattle.class_definition.specs.declared.entry.Entry.TheVariants.{Utf8}
use Rattle.class_definition.specs.Utf8.{text_bytes}
use Rattle.class_definition.specs.declared.class.Class.{Class}

abbrev pub has_long_text : Entry → Bool
has_long_text (Utf8 characters) = nat_lt 65535 (length (text_bytes characters))
has_long_text _ = false

abbrev pub text_limit : List Entry → Option ℕ
text_limit entries = if list_any has_long_text entries then Some 4 else None

-- the first limit that a class exceeds: slots of the pool, fields, methods, bytes of a text
abbrev pub limit : Class → Option ℕ
limit c =
    if nat_lt 65534 (length c.pool) then Some 1
    else if nat_lt 65535 (length c.fields) then Some 2
    else if nat_lt 65535 (length c.methods) then Some 3
    else text_limit c.pool
