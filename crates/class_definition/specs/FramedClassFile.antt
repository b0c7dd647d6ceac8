-- JVM Specification, Java SE 7 edition, 4.1: a class file of version 51.0, of a public final class without interfaces and
-- attributes. It is as one of version 48.0 but for the tables of frames.
use Rattle.std.specs.Prelude.{◌≡◌, ◌≢◌, ℕ, ◌<◌, ◌^◌, List, [], ◌∷◌, length, map, slice_index_or, Option, Some, None, option_map, IsSome, Result, Ok, Err}
use Rattle.std.specs.Int.{w16, w32}
use Rattle.class_definition.specs.declared.class_fault.ClassFault.{ClassFault}
use Rattle.class_definition.specs.declared.miss.Miss.{Miss}
use Rattle.class_definition.specs.Kinds.{cut, magic, version, trailing}
use Rattle.class_definition.specs.Format.{Format, both, mapped, exactly, behind, before, counted, whole, fault_at}
use Rattle.class_definition.specs.Spelling as laws
use Rattle.class_definition.specs.declared.entry.Entry.{Entry}
use Rattle.class_definition.specs.PoolChecks.{pool}
use Rattle.class_definition.specs.declared.member.Member.{Member}
use Rattle.class_definition.specs.declared.method.Method.{Method}
use Rattle.class_definition.specs.Members.{attributes, field}
use Rattle.class_definition.specs.ClassFile.{class_slots}
use Rattle.class_definition.specs.declared.framed_class.FramedClass.{FramedClass}
use Rattle.class_definition.specs.Tables.{framed_method, table_slot}

-- CAFEBABE and the version
unfoldable pub framed_preamble : Format (Unit {0})
framed_preamble = behind (exactly cut w32 magic 0xCAFEBABE)
    (behind (exactly cut w16 version 0) (exactly cut w16 version 51))

-- the fields, and the methods with their tables
unfoldable pub members_with_tables : List Entry → Format (List Member × List (Method × List ℕ))
members_with_tables entries =
    before (both (counted cut w16 (field entries)) (λ _. counted cut w16 (framed_method entries)))
    (attributes 0)

-- ---- the class, and a table for each of its methods

abbrev pub FramedClassParts : Type 0
FramedClassParts = List Entry × ((ℕ × ℕ) × (List Member × List (Method × List ℕ)))

abbrev pub method_without_table : Method × List ℕ → Method
method_without_table m = m.0

abbrev pub table_of : Method × List ℕ → List ℕ
table_of m = m.1

abbrev pub framed_class_made : FramedClassParts → FramedClass
framed_class_made x = record {
  class = record {
    pool = x.0;
    this_class = x.1.0.0;
    super_class = x.1.0.1;
    fields = x.1.1.0;
    methods = map method_without_table x.1.1.1;
  };
  tables = map table_of x.1.1.1;
}

abbrev pub with_method : Method × List ℕ → Option (List (Method × List ℕ))
    → Option (List (Method × List ℕ))
with_method m methods = option_map (λ ms. m ∷ ms) methods

-- each method with its table, where there are as many of them
abbrev pub methods_with_tables : List Method → List (List ℕ) → Option (List (Method × List ℕ))
methods_with_tables [] [] = Some []
methods_with_tables [] (t ∷ tables) = None
methods_with_tables (m ∷ methods) [] = None
methods_with_tables (m ∷ methods) (t ∷ tables) = with_method (m, t) (methods_with_tables methods tables)

abbrev pub framed_class_parts : FramedClass → Option FramedClassParts
framed_class_parts c =
    option_map (λ methods. (
      c.class.pool,
      ((c.class.this_class, c.class.super_class), (c.class.fields, methods)),
    ))
    (methods_with_tables c.class.methods c.tables)

unfoldable pub framed_class : Format FramedClass
framed_class =
    mapped framed_class_made framed_class_parts
    (behind framed_preamble (both pool (λ entries. both (class_slots entries) (λ _. members_with_tables entries))))

-- the bytes are a class's, with its tables
abbrev pub SpellsFramed : List ℕ → FramedClass → Type 0
SpellsFramed bytes c = laws.SpellsBy framed_class bytes c

-- the first rule that bytes break
abbrev pub fault_of_reading : ℕ → Result FramedClass Miss → Option ClassFault
fault_of_reading size (Ok c) = None
fault_of_reading size (Err miss) = Some (fault_at 0 size miss)

abbrev pub class_fault : List ℕ → Option ClassFault
class_fault bytes = fault_of_reading (length bytes) (whole framed_class trailing bytes)

-- ---- which tables a class may have

pub record IsTabled (c : FramedClass) : Type 0 where
  -- one for each method
  pub count : length c.tables ≡ length c.class.methods
  -- each of them can be counted in the length of its code's attribute
  pub short : (i : ℕ) → length (slice_index_or c.tables i []) < 2 ^ 31
  -- where one is not empty, the pool has the attribute's name
  pub named : (i : ℕ) → slice_index_or c.tables i [] ≢ [] → IsSome (table_slot c.class.pool)
