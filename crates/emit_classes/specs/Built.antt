-- How a pool, and a class, grow while they are made.
use Rattle.std.specs.Prelude.{◌≡◌, ℕ, ◌+◌, ◌<◌, ◌≤◌, ◌⊎◌, nat_lt, Bool, List, [], ◌∷◌, ◌++◌, length, IsTrue}
use Rattle.std.specs.List.{list_any}
use Rattle.class_definition.specs.declared.entry.Entry.{Entry}
use Rattle.class_definition.specs.Utf8.{text_bytes}
use Rattle.class_definition.specs.declared.class.Class.{Class}
use Rattle.class_definition.specs.declared.member.Member.{Member}
use Rattle.class_definition.specs.declared.method.Method.{Method}
use Rattle.class_definition.specs.Linking.{lines_of_code}
use Rattle.emit_steps.specs.declared.step.Step.{Step}
use Rattle.emit_assembly.specs.declared.references.References.{References}
use Rattle.emit_assembly.specs.Assembling.{Extends, AreLinked, slots_of}
use Rattle.emit_classes.specs.Named.{IsTextAt}
use Rattle.emit_classes.specs.Sound.{IsPool}
use Rattle.emit_classes.specs.Mentioned.{mentioned, Mentions}

-- so many slots at most were put behind the others
pub record Grows (old new : List Entry) (slots : ℕ) : Type 0 where
  pub kept : Extends old new
  pub few : length new ≤ length old + slots
  pub sound : IsPool old → IsPool new

-- a text has more bytes than a class file can hold
abbrev pub is_long_text : List ℕ → Bool
is_long_text characters = nat_lt 65535 (length (text_bytes characters))

-- a pool has not so many slots left, or one of the texts that are put in is too long
abbrev pub LacksRoom : List Entry → ℕ → List (List ℕ) → Type 0
LacksRoom pool slots texts = (65534 < length pool + slots) ⊎ IsTrue (list_any is_long_text texts)

-- ---- classes

-- the same class, with so many slots at most behind those of its pool
pub record GrowsPool (old new : Class) (slots : ℕ) : Type 0 where
  pub pool : Grows old.pool new.pool slots
  pub others : new ≡ record old { pool = new.pool }

-- the slots of the texts that are a member's name and descriptor
pub record IsNamed (pool : List Entry) (slots : Member) (name descriptor : List ℕ) : Type 0 where
  pub name_is : IsTextAt pool slots.name name
  pub descriptor_is : IsTextAt pool slots.desc descriptor

-- the same class with a field behind its fields, of a name and a descriptor that stand in its pool, which names no more than before
pub record AddsField (old new : Class) (name descriptor : List ℕ) : Type 0 where
  pub field : Member
  pub named : IsNamed new.pool field name descriptor
  pub pool : Grows old.pool new.pool 2
  pub mentions : Mentions new.pool (mentioned old.pool)
  pub others : new ≡ record old { pool = new.pool; fields = old.fields ++ field ∷ [] }

-- The same class with a method behind its methods, of a name, a descriptor and a code: 16 operands and so many local variables at most.
-- Its pool names no more than before.
pub record AddsMethod (old new : Class) (name descriptor : List ℕ) (locals : ℕ) (r : References)
    (code : List Step) : Type 0 where
  pub method : Method
  pub named : IsNamed new.pool (record { name = method.name; desc = method.desc }) name descriptor
  pub stack : method.stack ≡ 16
  pub locals_are : method.locals ≡ locals
  pub lines : AreLinked r new.pool code (lines_of_code method.code)
  pub pool : Grows old.pool new.pool (2 + slots_of code)
  pub mentions : Mentions new.pool (mentioned old.pool)
  pub others : new ≡ record old { pool = new.pool; methods = old.methods ++ method ∷ [] }
