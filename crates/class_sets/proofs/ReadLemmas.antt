-- The class that bytes spell, of either version.
use Rattle.std.proofs.Common.{◌≡◌, ℕ, List, [], length, Option, Some, None, Result, Ok, Err, refl, sym, ap}
use Rattle.std.proofs.lemmas.Option.{same_Some, none-some}
use Rattle.class_definition.specs.declared.class_fault.ClassFault.{ClassFault}
use Rattle.class_definition.specs.declared.miss.Miss.{Miss}
use Rattle.class_definition.specs.Kinds.{trailing}
use Rattle.class_definition.specs.Format.{whole, fault_at}
use Rattle.class_definition.specs.declared.class.Class.{Class}
use Rattle.class_definition.specs.ClassFile as file
use Rattle.class_definition_laws.proofs.ClassLaws as plain_laws
use Rattle.class_definition.specs.declared.framed_class.FramedClass.{FramedClass}
use Rattle.class_definition.specs.FramedClassFile as framed
use Rattle.class_definition_laws.proofs.FramedClassLaws as framed_laws
use Rattle.class_sets.specs.ClassSets as plain
use Rattle.class_sets.specs.NamedSets.{without_tables, plain_class_in, named_class_or_fault, framed_class_in}

pub plain_ok : (bytes : List ℕ) (c : Class) → file.Spells bytes c → Ok (record { class = c; tables = [] }) ≡ plain_class_in bytes
plain_ok bytes c h = sym (ap (λ r. without_tables (plain.class_or_fault (length bytes) r)) (plain_laws.spelled_read bytes c h))

pub plain_fault : (bytes : List ℕ) (fault : ClassFault) → file.class_fault bytes ≡ Some fault → Err fault ≡ plain_class_in bytes
plain_fault bytes fault h = by-read (whole file.class trailing bytes) h
  where
    by-read : (r : Result Class Miss) → file.fault_of_reading (length bytes) r ≡ Some fault → Err fault ≡ without_tables (plain.class_or_fault (length bytes) r)
    by-read (Ok c) e = absurd (none-some fault e)
    by-read (Err miss) e = ap (λ f. Err f) (sym (same_Some (fault_at 0 (length bytes) miss) fault e))

pub framed_ok : (bytes : List ℕ) (c : FramedClass) → framed.SpellsFramed bytes c → Ok c ≡ framed_class_in bytes
framed_ok bytes c h = sym (ap (named_class_or_fault (length bytes)) (framed_laws.spelled_read bytes c h))

pub framed_fault : (bytes : List ℕ) (fault : ClassFault) → framed.class_fault bytes ≡ Some fault → Err fault ≡ framed_class_in bytes
framed_fault bytes fault h = by-read (whole framed.framed_class trailing bytes) h
  where
    by-read : (r : Result FramedClass Miss) → framed.fault_of_reading (length bytes) r ≡ Some fault → Err fault ≡ named_class_or_fault (length bytes) r
    by-read (Ok c) e = absurd (none-some fault e)
    by-read (Err miss) e = ap (λ f. Err f) (sym (same_Some (fault_at 0 (length bytes) miss) fault e))
