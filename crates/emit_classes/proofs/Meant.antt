-- What instructions mean by the slots of a class that was made.
use Rattle.std.proofs.Common.{◌≡◌, ℕ, false, List, Some, refl, ◌∙◌}
use Rattle.class_definition.specs.declared.entry.Entry.{Entry}
use Rattle.class_definition.specs.declared.entry.Entry.TheVariants.{FieldRef, MethodRef}
use Rattle.class_definition.specs.NameGrammar.{same_text}
use Rattle.class_definition.specs.PoolChecks.{entry_at}
use Rattle.class_definition.specs.declared.class.Class.{Class}
use Rattle.jvm_definition.specs.declared.kind.Kind.{Kind}
use Rattle.jvm_definition.specs.declared.instruction.Instruction.{Instruction}
use Rattle.jvm_definition.specs.declared.instruction.Instruction.TheVariants.{Call}
use Rattle.class_definition.specs.MemberNames.{signature, Reference, reference_to, class_name_at, signature_at, host_name, field_number}
use Rattle.class_definition.specs.MemberNames.{method_number}
use Rattle.class_definition.specs.Linking.{descriptor_kind, field_instruction, call_instruction, static_call}
use Rattle.emit_assembly.specs.Assembling.{Extends}
use Rattle.emit_classes.specs.Named.{IsClassAt, IsPairAt, IsMemberAt, IsFieldAt, IsMethodAt}
use Rattle.emit_classes.proofs.Stays.{pair-stays, class-stays}
use Rattle.emit_classes.proofs.Growing.{stays-behind}

module _ (c : Class) (pool : List Entry) (x : Extends pool c.pool) where
  pub class-name : (slot : ℕ) (owner : List ℕ) → IsClassAt pool slot owner → class_name_at c slot ≡ owner
  class-name slot owner is = let at = class-stays pool c.pool (stays-behind pool c.pool x) slot owner is in rw at refl

  pair-signature : (slot : ℕ) (name descriptor : List ℕ) → IsPairAt pool slot name descriptor
      → signature_at c slot ≡ signature name descriptor
  pair-signature slot name descriptor is =
      let p = pair-stays pool c.pool (stays-behind pool c.pool x) slot name descriptor is in
      rw (p.there, p.name_is, p.descriptor_is) refl

  member-entry : (kind : ℕ → ℕ → Entry) (slot class : ℕ) (name descriptor : List ℕ) (m : IsMemberAt kind pool slot class name descriptor)
      → entry_at c.pool slot ≡ Some (kind class m.pair)
  member-entry kind slot class name descriptor m = stays-behind pool c.pool x slot (kind class m.pair) m.there

  -- the field of a slot
  pub field-meant : (classes : List Class) (make : ℕ → Kind → Instruction) (slot class n : ℕ) (owner name descriptor : List ℕ)
      → IsClassAt pool class owner → IsFieldAt pool slot class name descriptor
      → field_number classes (reference_to owner (signature name descriptor)) ≡ Some n
      → field_instruction classes make c (entry_at c.pool slot) ≡ make n (descriptor_kind descriptor)
  field-meant classes make slot class n owner name descriptor of m number =
      rw (member-entry FieldRef slot class name descriptor m)
      (rw (class-name class owner of, pair-signature m.pair name descriptor m.pair_is) (rw number refl))

  -- the method of a slot
  pub method-meant : (call : Reference → Instruction) (slot class : ℕ) (owner name descriptor : List ℕ) → IsClassAt pool class owner
      → IsMethodAt pool slot class name descriptor
      → call_instruction call c (entry_at c.pool slot) ≡ call (reference_to owner (signature name descriptor))
  method-meant call slot class owner name descriptor of m =
      rw (member-entry MethodRef slot class name descriptor m)
      (rw (class-name class owner of, pair-signature m.pair name descriptor m.pair_is) refl)

  -- a method of the classes
  pub call-meant : (classes : List Class) (slot class n : ℕ) (owner name descriptor : List ℕ) → IsClassAt pool class owner
      → IsMethodAt pool slot class name descriptor
      → same_text owner host_name ≡ false → method_number classes (reference_to owner (signature name descriptor)) ≡ Some n
      → call_instruction (static_call classes) c (entry_at c.pool slot) ≡ Call n
  call-meant classes slot class n owner name descriptor of m other number =
      method-meant (static_call classes) slot class owner name descriptor of m ∙ rw (other, number) refl
