-- What is written of the parts of a class. Where a class keeps the rules it is the class's spelling.
use Rattle.std.specs.Prelude.{ℕ, ◌+◌, ◌^◌, Bool, nat_lt, not, List, [], ◌∷◌, ◌++◌, length, flat_map, unwrap_or}
use Rattle.std.specs.Int.{w16, w32, w64, to_be_bytes, cast_unsigned}
use Rattle.class_definition.specs.declared.entry.Entry.{Entry}
use Rattle.class_definition.specs.declared.entry.Entry.TheVariants.{Utf8, Integer, Long, LongRest, ClassName, Text, FieldRef, MethodRef, NameAnd}
use Rattle.class_definition.specs.Utf8.{text_bytes}
use Rattle.class_definition.specs.declared.class.Class.{Class}
use Rattle.class_definition.specs.declared.member.Member.{Member}
use Rattle.class_definition.specs.declared.method.Method.{Method}
use Rattle.class_definition.specs.declared.framed_class.FramedClass.{FramedClass}
use Rattle.class_definition.specs.Tables.{table_slot, table_size}

abbrev pub halves : List ℕ → List ℕ
halves numbers = flat_map (to_be_bytes w16) numbers

abbrev pub word : ℕ → List ℕ
word n = to_be_bytes w32 n

abbrev pub entry_bytes : Entry → List ℕ
entry_bytes (Utf8 characters) = (1 ∷ to_be_bytes w16 (length (text_bytes characters)))
    ++ text_bytes characters
entry_bytes (Integer n) = 3 ∷ to_be_bytes w32 (cast_unsigned w32 n)
entry_bytes (Long n) = 5 ∷ to_be_bytes w64 (cast_unsigned w64 n)
entry_bytes LongRest = []
entry_bytes (ClassName name) = 7 ∷ halves (name ∷ [])
entry_bytes (Text string) = 8 ∷ halves (string ∷ [])
entry_bytes (FieldRef class name) = 9 ∷ halves (class ∷ name ∷ [])
entry_bytes (MethodRef class name) = 10 ∷ halves (class ∷ name ∷ [])
entry_bytes (NameAnd name descriptor) = 12 ∷ halves (name ∷ descriptor ∷ [])

abbrev pub field_bytes : Member → List ℕ
field_bytes f = halves (9 ∷ f.name ∷ f.desc ∷ 0 ∷ [])

abbrev pub has_short_code : Method → Bool
has_short_code m = not (nat_lt 65535 (length m.code))

-- a method up to its code, where its attribute is so long
unfoldable pub code_bytes : Method → ℕ → List ℕ
code_bytes m size =
    halves (9 ∷ m.name ∷ m.desc ∷ 1 ∷ m.attr ∷ [])
    ++ word size ++ halves (m.stack ∷ m.locals ∷ []) ++ word (length m.code) ++ m.code

-- no exception handlers and no attributes follow
unfoldable pub method_bytes : Method → List ℕ
method_bytes m = code_bytes m (length m.code + 12) ++ halves (0 ∷ 0 ∷ [])

-- a class of a version up to its methods
abbrev pub front_bytes : ℕ → Class → List ℕ
front_bytes version c =
    word 0xCAFEBABE
    ++ halves (0 ∷ version ∷ (length c.pool + 1) ∷ [])
    ++ flat_map entry_bytes c.pool
    ++ halves (0x31 ∷ c.this_class ∷ c.super_class ∷ 0 ∷ length c.fields ∷ [])
    ++ flat_map field_bytes c.fields
    ++ halves (length c.methods ∷ [])

abbrev pub class_bytes : Class → List ℕ
class_bytes c = front_bytes 48 c ++ flat_map method_bytes c.methods ++ halves (0 ∷ [])

-- ---- with tables of frames

-- the attributes of a method's code, of which one with a table has the name in a slot
abbrev pub table_bytes : ℕ → List ℕ → List ℕ
table_bytes name [] = halves (0 ∷ [])
table_bytes name (byte ∷ table) =
    halves (1 ∷ name ∷ []) ++ word (length (byte ∷ table)) ++ (byte ∷ table)

unfoldable pub framed_method_bytes : ℕ → Method → List ℕ → List ℕ
framed_method_bytes name m table =
    code_bytes m (length m.code + 12 + table_size table) ++ halves (0 ∷ [])
    ++ table_bytes name table

abbrev pub framed_methods_bytes : ℕ → List Method → List (List ℕ) → List ℕ
framed_methods_bytes name [] tables = []
framed_methods_bytes name (m ∷ methods) [] = []
framed_methods_bytes name (m ∷ methods) (t ∷ tables) =
    framed_method_bytes name m t ++ framed_methods_bytes name methods tables

-- the slot of the tables' name, or 0
abbrev pub name_slot : List Entry → ℕ
name_slot entries = unwrap_or (table_slot entries) 0

abbrev pub framed_class_bytes : FramedClass → List ℕ
framed_class_bytes c =
    front_bytes 51 c.class
    ++ framed_methods_bytes (name_slot c.class.pool) c.class.methods c.tables
    ++ halves (0 ∷ [])

-- a table's length can be counted
abbrev pub is_short_table : List ℕ → Bool
is_short_table table = nat_lt (length table) (2 ^ 31)
