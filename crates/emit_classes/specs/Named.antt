-- JVM Specification, 4.4: what a slot of a constant pool names.
use Rattle.std.specs.Prelude.{◌≡◌, ℕ, List, Some}
use Rattle.class_definition.specs.declared.entry.Entry.{Entry}
use Rattle.class_definition.specs.declared.entry.Entry.TheVariants.{FieldRef, MethodRef, NameAnd}
use Rattle.class_definition.specs.PoolChecks.{text_at, class_text_at}
use Rattle.constant_pool.specs.Slots.{IsAt}

-- a text
abbrev pub IsTextAt : List Entry → ℕ → List ℕ → Type 0
IsTextAt pool slot text = text_at pool slot ≡ Some text

-- the class of a name
abbrev pub IsClassAt : List Entry → ℕ → List ℕ → Type 0
IsClassAt pool slot name = class_text_at pool slot ≡ Some name

-- a name and a descriptor
pub record IsPairAt (pool : List Entry) (slot : ℕ) (name descriptor : List ℕ) : Type 0 where
  pub name_slot : ℕ
  pub descriptor_slot : ℕ
  pub there : IsAt pool slot (NameAnd name_slot descriptor_slot)
  pub name_is : IsTextAt pool name_slot name
  pub descriptor_is : IsTextAt pool descriptor_slot descriptor

-- a member, of the kind of these entries, of the class in a slot
pub record IsMemberAt (kind : ℕ → ℕ → Entry) (pool : List Entry) (slot class : ℕ)
    (name descriptor : List ℕ) : Type 0 where
  pub pair : ℕ
  pub there : IsAt pool slot (kind class pair)
  pub pair_is : IsPairAt pool pair name descriptor

abbrev pub IsFieldAt : List Entry → ℕ → ℕ → List ℕ → List ℕ → Type 0
IsFieldAt pool slot class name descriptor = IsMemberAt FieldRef pool slot class name descriptor

abbrev pub IsMethodAt : List Entry → ℕ → ℕ → List ℕ → List ℕ → Type 0
IsMethodAt pool slot class name descriptor = IsMemberAt MethodRef pool slot class name descriptor
