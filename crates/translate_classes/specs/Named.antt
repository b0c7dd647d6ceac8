-- What the classes of a program name in their pools.
use Rattle.std.specs.Prelude.{◌≡◌, ℕ, ◌<◌, List, codes, length, slice_index_or}
use Rattle.class_definition.specs.declared.entry.Entry.{Entry}
use Rattle.class_definition.specs.declared.entry.Entry.TheVariants.{FieldRef, MethodRef}
use Rattle.class_definition.specs.MemberNames.{Signature, string_name, host_name, length_signature, char_at_signature, host_call_signature, host_fault_signature}
use Rattle.emit_layout.specs.Fields.{field_name, field_descriptor}
use Rattle.emit_layout.specs.Helpers.{helper_name, helper_descriptor}
use Rattle.emit_classes.specs.Named.{IsClassAt, IsMemberAt, IsMethodAt}
use Rattle.translate_classes.specs.declared.two_methods.TwoMethods.{TwoMethods}
use Rattle.translate_classes.specs.declared.names.Names.{Names}

-- slots of the first members of the class in a slot, by their names and descriptors
pub record AreMembers (kind : ℕ → ℕ → Entry) (name descriptor : ℕ → List ℕ) (pool : List Entry)
    (class : ℕ) (slots : List ℕ) (count : ℕ) : Type 0 where
  pub count_is : length slots ≡ count
  pub each : (k : ℕ) → k < count
      → IsMemberAt kind pool (slice_index_or slots k 0) class (name k) (descriptor k)

-- slots of the first fields of the main class, which is in a slot
abbrev pub AreFields : List Entry → ℕ → List ℕ → ℕ → Type 0
AreFields pool main slots count =
    AreMembers FieldRef field_name field_descriptor pool main slots count

-- slots of its first helper methods
abbrev pub AreHelpers : List Entry → ℕ → List ℕ → ℕ → Type 0
AreHelpers pool main slots count =
    AreMembers MethodRef helper_name helper_descriptor pool main slots count

-- a method of a class in a slot, by name and descriptor
abbrev pub IsCalled : List Entry → ℕ → ℕ → Signature → Type 0
IsCalled pool slot class s = IsMethodAt pool slot class s.name s.descriptor

-- a class and two of its methods
pub record AreTwoMethods (pool : List Entry) (owner : List ℕ) (first second : Signature)
    (slots : TwoMethods) : Type 0 where
  pub class_is : IsClassAt pool slots.class owner
  pub first_is : IsCalled pool slots.first slots.class first
  pub second_is : IsCalled pool slots.second slots.class second

abbrev pub IsHost : List Entry → TwoMethods → Type 0
IsHost pool host = AreTwoMethods pool host_name host_call_signature host_fault_signature host

abbrev pub AreStrings : List Entry → TwoMethods → Type 0
AreStrings pool strings = AreTwoMethods pool string_name length_signature char_at_signature strings

-- the main class with so many of its fields, the host, strings, and the type of arrays of ints
pub record AreNames (fields : ℕ) (pool : List Entry) (main : List ℕ) (names : Names)
    : Type 0 where
  pub main_is : IsClassAt pool names.main main
  pub fields_are : AreFields pool names.main names.fields.items fields
  pub host_is : IsHost pool names.host
  pub strings_are : AreStrings pool names.strings
  pub ints_is : IsClassAt pool names.ints (codes "[I")
