-- JVM Specification, Java SE 7 edition, 4.7.3 and 4.7.4: the code of a method, which may have a table of frames.
use Rattle.std.specs.Prelude.{ℕ, ◌+◌, ◌-◌, ◌==◌, ◌||◌, Bool, true, false, nat_le, if◌then◌else◌, List, [], ◌∷◌, length, codes, Option, Some, None}
use Rattle.std.specs.List.{position_from}
use Rattle.std.specs.Int.{w16, w32}
use Rattle.class_definition.specs.Kinds.{cut, index, attribute}
use Rattle.class_definition.specs.Format.{Format, number_format, raw, both, mapped, tested, exactly, behind, before}
use Rattle.class_definition.specs.declared.entry.Entry.{Entry}
use Rattle.class_definition.specs.declared.entry.Entry.TheVariants.{Utf8}
use Rattle.class_definition.specs.NameGrammar.{same_text, is_member_name}
use Rattle.class_definition.specs.PoolChecks.{text_at}
use Rattle.class_definition.specs.declared.method.Method.{Method}
use Rattle.class_definition.specs.Named.{slot_of, text_slot, is_own_descriptor, code_name_slot}
use Rattle.class_definition.specs.Members.{public_static, attributes, CodeHead, code_length, code_bytes}

-- ---- the name of the attribute with a table: the first slot with this text

abbrev pub is_table_name : Entry → Bool
is_table_name (Utf8 characters) = same_text characters (codes "StackMapTable")
is_table_name _ = false

abbrev pub table_slot : List Entry → Option ℕ
table_slot entries = position_from is_table_name 1 entries

abbrev pub is_slot : Option ℕ → ℕ → Bool
is_slot None n = false
is_slot (Some slot) n = slot == n

-- what is wrong with any other slot
abbrev pub other_name_kind : Option (List ℕ) → ℕ
other_name_kind None = index
other_name_kind (Some text) = attribute

abbrev pub table_name_fault : List Entry → ℕ → Option ℕ
table_name_fault entries n = if is_slot (table_slot entries) n then None
    else Some (other_name_kind (text_at entries n))

abbrev pub table_name : List Entry → Format (Unit {0})
table_name entries =
    mapped (λ _. tt) (λ _. table_slot entries) (slot_of (table_name_fault entries))

-- ---- code

-- The attribute's length counts what follows it: 12 bytes and the code; where there is a table, 6 bytes more and those of
-- the table, one at least.
abbrev pub is_lawful_length : ℕ → ℕ → Bool
is_lawful_length length code = length == code + 12 || nat_le (code + 19) length

abbrev pub code_numbers : Format CodeHead
code_numbers = both (number_format cut w32)
    (λ _. both (number_format cut w16) (λ _. both (number_format cut w16) (λ _. code_length)))

abbrev pub framed_code_head : Format CodeHead
framed_code_head = tested attribute (λ h. is_lawful_length h.0 h.1.1.1) code_numbers

abbrev pub is_no_table : List ℕ → Bool
is_no_table [] = true
is_no_table (byte ∷ table) = false

abbrev pub without_table : Format (List ℕ)
without_table = mapped (λ _. []) (λ table. if is_no_table table then Some tt else None) (attributes 0)

-- a table of so many bytes
abbrev pub some_table : List Entry → ℕ → Format (List ℕ)
some_table entries n =
    behind (attributes 1)
    (behind (table_name entries) (behind (exactly cut w32 attribute n) (raw cut n)))

-- by how many bytes the attribute is longer than one without a table
abbrev pub table_attribute : List Entry → ℕ → Format (List ℕ)
table_attribute entries more = if more == 0 then without_table else some_table entries (more - 6)

-- the code, no exception handlers, and the table
unfoldable pub framed_code_attribute : List Entry → Format (CodeHead × (List ℕ × List ℕ))
framed_code_attribute entries =
    both framed_code_head (λ h. both (before (code_bytes h.1.1.1) (attributes 0))
    (λ _. table_attribute entries (h.0 - (h.1.1.1 + 12))))

-- ---- a method with its table

-- name, descriptor, the name of the attribute, and the attribute
abbrev pub FramedMethodParts : Type 0
FramedMethodParts = (ℕ × ℕ) × (ℕ × (CodeHead × (List ℕ × List ℕ)))

abbrev pub framed_method_made : FramedMethodParts → Method × List ℕ
framed_method_made x = (
  record {
    name = x.0.0;
    desc = x.0.1;
    attr = x.1.0;
    stack = x.1.1.0.1.0;
    locals = x.1.1.0.1.1.0;
    code = x.1.1.1.0;
  },
  x.1.1.1.1,
)

abbrev pub table_size : List ℕ → ℕ
table_size table = if is_no_table table then 0 else length table + 6

abbrev pub framed_method_parts : Method × List ℕ → FramedMethodParts
framed_method_parts m = (
  (m.0.name, m.0.desc),
  (
    m.0.attr,
    (
      (
        length m.0.code + 12 + table_size m.1,
        (m.0.stack, (m.0.locals, length m.0.code)),
      ),
      (m.0.code, m.1),
    ),
  ),
)

unfoldable pub framed_method : List Entry → Format (Method × List ℕ)
framed_method entries =
    mapped framed_method_made (λ m. Some (framed_method_parts m))
    (behind public_static
    (both (both (text_slot entries is_member_name) (λ _. text_slot entries is_own_descriptor))
    (λ _. behind (attributes 1)
    (both (code_name_slot entries) (λ _. framed_code_attribute entries)))))
