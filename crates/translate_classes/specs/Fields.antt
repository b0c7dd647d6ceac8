-- The fields of the main class.
use Rattle.std.specs.Prelude.{◌≡◌, ℕ, List, ◌++◌}
use Rattle.std.specs.List.{AllZip, range_with_len}
use Rattle.class_definition.specs.declared.entry.Entry.{Entry}
use Rattle.class_definition.specs.declared.class.Class.{Class}
use Rattle.class_definition.specs.declared.member.Member.{Member}
use Rattle.emit_layout.specs.Fields.{field_name, field_descriptor}
use Rattle.emit_assembly.specs.Assembling.{Extends}
use Rattle.emit_classes.specs.Built.{IsNamed}
use Rattle.emit_classes.specs.Mentioned.{mentioned, Mentions}

-- the field of a number
abbrev pub IsField : List Entry → Member → ℕ → Type 0
IsField pool field number = IsNamed pool field (field_name number) (field_descriptor number)

-- the first fields, in order
abbrev pub AreFields : List Entry → List Member → ℕ → Type 0
AreFields pool fields count = AllZip (IsField pool) fields (range_with_len 0 count)

-- The same class with these fields behind its fields, whose pool names no more than before.
pub record AddsFields (old new : Class) (count : ℕ) : Type 0 where
  pub added : List Member
  pub are : AreFields new.pool added count
  pub pool : Extends old.pool new.pool
  pub mentions : Mentions new.pool (mentioned old.pool)
  pub others : new ≡ record old { pool = new.pool; fields = old.fields ++ added }
