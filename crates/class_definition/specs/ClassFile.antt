-- JVM Specification, 4.1: a class file of version 48.0, of a public final class without interfaces and attributes.
use Rattle.std.specs.Prelude.{ℕ, List, length, Option, Some, None, Result, Ok, Err}
use Rattle.std.specs.Int.{w16, w32}
use Rattle.class_definition.specs.declared.class_fault.ClassFault.{ClassFault}
use Rattle.class_definition.specs.declared.miss.Miss.{Miss}
use Rattle.class_definition.specs.Kinds.{cut, magic, version, flags, trailing}
use Rattle.class_definition.specs.Format.{Format, both, mapped, exactly, behind, before, counted, whole, fault_at}
use Rattle.class_definition.specs.Spelling as laws
use Rattle.class_definition.specs.declared.entry.Entry.{Entry}
use Rattle.class_definition.specs.PoolChecks.{pool}
use Rattle.class_definition.specs.declared.class.Class.{Class}
use Rattle.class_definition.specs.declared.member.Member.{Member}
use Rattle.class_definition.specs.declared.method.Method.{Method}
use Rattle.class_definition.specs.Named.{this_slot, super_slot}
use Rattle.class_definition.specs.Members.{attributes, field, method}

-- CAFEBABE and the version
unfoldable pub preamble : Format (Unit {0})
preamble = behind (exactly cut w32 magic 0xCAFEBABE)
    (behind (exactly cut w16 version 0) (exactly cut w16 version 48))

-- public, final and super
abbrev pub class_flags : Format (Unit {0})
class_flags = exactly cut w16 flags 0x31

abbrev pub no_interfaces : Format (Unit {0})
no_interfaces = exactly cut w16 flags 0

-- the slots of the class and of the one above it
unfoldable pub class_slots : List Entry → Format (ℕ × ℕ)
class_slots entries =
    behind class_flags (before (both (this_slot entries) (λ _. super_slot entries)) no_interfaces)

unfoldable pub members : List Entry → Format (List Member × List Method)
members entries =
    before (both (counted cut w16 (field entries)) (λ _. counted cut w16 (method entries)))
    (attributes 0)

abbrev pub ClassParts : Type 0
ClassParts = List Entry × ((ℕ × ℕ) × (List Member × List Method))

abbrev pub class_made : ClassParts → Class
class_made x = record {
  pool = x.0;
  this_class = x.1.0.0;
  super_class = x.1.0.1;
  fields = x.1.1.0;
  methods = x.1.1.1;
}

abbrev pub class_parts : Class → ClassParts
class_parts c = (c.pool, ((c.this_class, c.super_class), (c.fields, c.methods)))

unfoldable pub class : Format Class
class =
    mapped class_made (λ c. Some (class_parts c))
    (behind preamble (both pool (λ entries. both (class_slots entries) (λ _. members entries))))

-- the bytes are a class's
abbrev pub Spells : List ℕ → Class → Type 0
Spells bytes c = laws.SpellsBy class bytes c

-- the first rule that bytes break
abbrev pub fault_of_reading : ℕ → Result Class Miss → Option ClassFault
fault_of_reading size (Ok c) = None
fault_of_reading size (Err miss) = Some (fault_at 0 size miss)

abbrev pub class_fault : List ℕ → Option ClassFault
class_fault bytes = fault_of_reading (length bytes) (whole class trailing bytes)
