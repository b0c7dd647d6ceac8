-- What the slots of a class mean, once it is linked, to the code of its methods.
use Rattle.std.specs.Prelude.{◌≡◌, ℕ, ◌+◌, ◌-◌, ◌<◌, Bool, true, false, List, slice_index, Some}
use Rattle.jvm_definition.specs.declared.array_kind.ArrayKind.TheVariants.{Pages}
use Rattle.jvm_definition.specs.declared.instruction.Instruction.TheVariants as instructions
use Rattle.class_definition.specs.declared.entry.Entry.{Entry}
use Rattle.class_definition.specs.declared.entry.Entry.TheVariants.{MethodRef}
use Rattle.class_definition.specs.NameGrammar.{same_text}
use Rattle.class_definition.specs.declared.class.Class.{Class}
use Rattle.class_definition.specs.declared.pool_name.PoolName.TheVariants.{Getstatic, Putstatic, Invokevirtual, Invokestatic, Anewarray}
use Rattle.class_definition.specs.MemberNames.{signature, reference_to, host_name, field_number, method_number}
use Rattle.class_definition.specs.Linking.{descriptor_kind, pool_instruction}
use Rattle.emit_layout.specs.Fields.{field_name, field_descriptor}
use Rattle.emit_steps.specs.declared.step.Step.{Step}
use Rattle.emit_layout.specs.Helpers.{helper_name, helper_descriptor}
use Rattle.emit_assembly.specs.declared.references.References.{References}
use Rattle.emit_assembly.specs.Assembling.{AreKnown, Extends, has_method}
use Rattle.emit_classes.specs.Named.{IsClassAt, IsMethodAt}
use Rattle.emit_methods_laws.specs.Naming.{all_well_of, is_helper}
use Rattle.translate_classes.specs.declared.names.Names.{Names}
use Rattle.translate_classes.specs.Named.{AreHelpers, AreMembers, AreNames}
use Rattle.translate_classes.specs.Tables.{references_of}

-- The slots of so many fields, of the host, of strings and of arrays mean what code means by them,
-- in a class with a number.
pub record AreMeant (fields : ℕ) (r : References) (classes : List Class) (number : ℕ) (c : Class)
    : Type 0 where
  -- the fields of the main class, by their numbers: how each is read, and how it is written
  pub get : (f : ℕ) → f < fields
      → pool_instruction classes number c Getstatic (slice_index r.fields f)
      ≡ instructions.Get f (descriptor_kind (field_descriptor f))
  pub put : (f : ℕ) → f < fields
      → pool_instruction classes number c Putstatic (slice_index r.fields f)
      ≡ instructions.Put f (descriptor_kind (field_descriptor f))
  -- the host's two methods
  pub call : pool_instruction classes number c Invokestatic r.host_call ≡ instructions.CallHost
  pub fault : pool_instruction classes number c Invokestatic r.host_fault ≡ instructions.FaultHost
  -- the two methods of strings
  pub length : pool_instruction classes number c Invokevirtual r.string_length ≡ instructions.Length
  pub char_at : pool_instruction classes number c Invokevirtual r.string_char_at
      ≡ instructions.CharAt
  -- a new table of pages
  pub ints : pool_instruction classes number c Anewarray r.ints_class ≡ instructions.NewArray Pages

-- the slots of methods mean calls of those that may be called
abbrev pub AreCalled : References → List Class → ℕ → Class → (ℕ → Bool) → Type 0
AreCalled r classes number c calls =
    (m : ℕ) → calls m ≡ true
    → pool_instruction classes number c Invokestatic (slice_index r.methods (m - r.first_method))
    ≡ instructions.Call m

-- ---- numbers in the program

-- so many fields of the main class are the first ones
abbrev pub HaveFieldNumbers : ℕ → List Class → List ℕ → Type 0
HaveFieldNumbers fields classes main =
    (f : ℕ) → f < fields
    → field_number classes (reference_to main (signature (field_name f) (field_descriptor f)))
    ≡ Some f

-- so many methods of a class, by their names and descriptors, have numbers that follow each other
abbrev pub HaveMethodNumbers : List Class → List ℕ → (ℕ → List ℕ) → (ℕ → List ℕ) → ℕ → ℕ → Type 0
HaveMethodNumbers classes owner name descriptor first count =
    (k : ℕ) → k < count
    → method_number classes (reference_to owner (signature (name k) (descriptor k)))
    ≡ Some (first + k)

-- A slot of a pool names the method that has a number, of a class that is not the host.
pub record IsMethodNumber (classes : List Class) (pool : List Entry) (slot m : ℕ) : Type 0 where
  -- the slot of its class, and the name of that
  pub class : ℕ
  pub owner : List ℕ
  -- its own name and descriptor
  pub name : List ℕ
  pub descriptor : List ℕ
  pub owner_is : IsClassAt pool class owner
  pub no_host : same_text owner host_name ≡ false
  -- the slot names it, and that is its number in the program
  pub method_is : IsMethodAt pool slot class name descriptor
  pub number_is : method_number classes (reference_to owner (signature name descriptor)) ≡ Some m

-- ---- the laws

-- A class knows what code names where its slots mean what code means by them, of so many fields,
-- and the code names only what is there.
abbrev pub NamedCodeIsKnown : Type 0
NamedCodeIsKnown =
    (fields : ℕ) (r : References) (classes : List Class) (number : ℕ) (c : Class)
    (calls : ℕ → Bool) (gives : Bool) (code : List Step)
    → AreMeant fields r classes number c → AreCalled r classes number c calls
    → all_well_of fields calls number gives code ≡ true
    → AreKnown r classes number c gives code

-- The slots of what every class of a program names mean what code means by them, in a class whose
-- pool goes on behind the one that has them.
abbrev pub NamesAreMeant : Type 0
NamesAreMeant =
    (fields : ℕ) (classes : List Class) (number : ℕ) (c : Class) (pool : List Entry)
    (main : List ℕ) (names : Names) (first : ℕ) (methods : List ℕ)
    → Extends pool c.pool
    → AreNames fields pool main names → HaveFieldNumbers fields classes main
    → AreMeant fields (references_of names first methods) classes number c

-- The slots of methods mean calls of them where each names the method of its number.
abbrev pub NumberedAreCalled : Type 0
NumberedAreCalled =
    (r : References) (classes : List Class) (number : ℕ) (c : Class) (pool : List Entry)
    (calls : ℕ → Bool)
    → Extends pool c.pool
    → ((m : ℕ) → calls m ≡ true
    → IsMethodNumber classes pool (slice_index r.methods (m - r.first_method)) m)
    → AreCalled r classes number c calls

-- So do those of the members of a class whose numbers follow each other.
abbrev pub MembersAreCalled : Type 0
MembersAreCalled =
    (r : References) (classes : List Class) (number : ℕ) (c : Class) (pool : List Entry)
    (class count : ℕ) (owner : List ℕ) (name descriptor : ℕ → List ℕ)
    → Extends pool c.pool
    → IsClassAt pool class owner → same_text owner host_name ≡ false
    → AreMembers MethodRef name descriptor pool class r.methods count
    → HaveMethodNumbers classes owner name descriptor r.first_method count
    → AreCalled r classes number c (has_method r)

-- So do those of the helpers.
abbrev pub HelpersAreCalled : Type 0
HelpersAreCalled =
    (fields : ℕ) (classes : List Class) (number : ℕ) (c : Class) (pool : List Entry)
    (main : List ℕ) (names : Names) (helpers : List ℕ)
    → Extends pool c.pool
    → AreNames fields pool main names → same_text main host_name ≡ false
    → AreHelpers pool names.main helpers 20
    → HaveMethodNumbers classes main helper_name helper_descriptor 0 20
    → AreCalled (references_of names 0 helpers) classes number c is_helper
