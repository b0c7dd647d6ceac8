-- Classes in which nothing stands twice, and what the slots of their pools name.
use Rattle.std.specs.Prelude.{◌≡◌, ℕ, ◌+◌, List, [], slice_get, Some, None}
use Rattle.jvm_definition.specs.declared.instruction.Instruction.TheVariants.{Get, Put, Call}
use Rattle.class_definition.specs.declared.entry.Entry.{Entry}
use Rattle.class_definition.specs.declared.class.Class.{Class}
use Rattle.class_definition.specs.declared.pool_name.PoolName.TheVariants.{Getstatic, Putstatic, Invokestatic}
use Rattle.class_definition.specs.MemberNames.{Signature, fields_of, methods_of, own_name}
use Rattle.class_definition.specs.LinkFault.{named_entry_fault, twice_fault}
use Rattle.class_definition.specs.Linking.{descriptor_kind, pool_instruction}
use Rattle.emit_classes.specs.Named.{IsClassAt, IsFieldAt, IsMethodAt}
use Rattle.translate_classes_laws.specs.Before.{fields_before, methods_before}

-- No class stands twice, none has the name of a known one, and no member stands twice in a class.
abbrev pub StandOnce : List Class → Type 0
StandOnce classes = twice_fault [] 0 classes ≡ None

-- Each entry of their pools names what is there.
abbrev pub EntriesName : List Class → Type 0
EntriesName classes =
    (n slot : ℕ) (d : Class) (e : Entry)
    → slice_get classes n ≡ Some d → slice_get d.pool slot ≡ Some e
    → named_entry_fault classes d e ≡ None

-- ---- a slot of a class and a member of one of the classes

-- A slot names the k-th field of the n-th class.
pub record NamesFieldOf (classes : List Class) (n k : ℕ) (owner : Class) (s : Signature)
    (c : Class) (slot class : ℕ) : Type 0 where
  -- this is the n-th class, and its k-th field has this name and descriptor
  pub owner_there : slice_get classes n ≡ Some owner
  pub field_there : slice_get (fields_of owner) k ≡ Some s
  -- in the pool of class c there stand a slot of that class, and a slot of that field of it
  pub class_is : IsClassAt c.pool class (own_name owner)
  pub slot_is : IsFieldAt c.pool slot class s.name s.descriptor

-- A slot names the k-th method of the n-th class.
pub record NamesMethodOf (classes : List Class) (n k : ℕ) (owner : Class) (s : Signature)
    (c : Class) (slot class : ℕ) : Type 0 where
  -- this is the n-th class, and its k-th method has this name and descriptor
  pub owner_there : slice_get classes n ≡ Some owner
  pub method_there : slice_get (methods_of owner) k ≡ Some s
  -- in the pool of class c there stand a slot of that class, and a slot of that method of it
  pub class_is : IsClassAt c.pool class (own_name owner)
  pub slot_is : IsMethodAt c.pool slot class s.name s.descriptor

-- An instruction of class c with a slot means the field of a number, with the type that its
-- descriptor says.
pub record MeansField (classes : List Class) (number : ℕ) (c : Class) (slot field : ℕ)
    (descriptor : List ℕ) : Type 0 where
  -- `getstatic` reads it
  pub get : pool_instruction classes number c Getstatic slot ≡ Get field (descriptor_kind descriptor)
  -- `putstatic` writes it
  pub put : pool_instruction classes number c Putstatic slot ≡ Put field (descriptor_kind descriptor)

-- ---- the laws, of classes in which nothing stands twice

-- A slot that names a field means that of the number that the field has in the program: those of
-- the classes before its own come first.
abbrev pub SlotsMeanFields : Type 0
SlotsMeanFields =
    (classes : List Class) (number n k slot class : ℕ) (c owner : Class) (s : Signature)
    → StandOnce classes
    → NamesFieldOf classes n k owner s c slot class
    → MeansField classes number c slot (fields_before classes n + k) s.descriptor

-- So it is with a slot that names a method, in `invokestatic`.
abbrev pub SlotsMeanMethods : Type 0
SlotsMeanMethods =
    (classes : List Class) (number n k slot class : ℕ) (c owner : Class) (s : Signature)
    → StandOnce classes
    → NamesMethodOf classes n k owner s c slot class
    → pool_instruction classes number c Invokestatic slot ≡ Call (methods_before classes n + k)
