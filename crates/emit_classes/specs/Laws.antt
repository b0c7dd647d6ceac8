-- What the slots of a class that was made mean to the instructions of its methods, once it is linked.
use Rattle.std.specs.Prelude.{◌≡◌, ℕ, false, List, Some}
use Rattle.class_definition.specs.declared.entry.Entry.{Entry}
use Rattle.class_definition.specs.NameGrammar.{same_text}
use Rattle.class_definition.specs.declared.class.Class.{Class}
use Rattle.class_definition.specs.declared.pool_name.PoolName.TheVariants.{Invokestatic}
use Rattle.jvm_definition.specs.declared.instruction.Instruction.TheVariants.{Call}
use Rattle.class_definition.specs.MemberNames.{signature, reference_to, host_name, method_number}
use Rattle.class_definition.specs.Linking.{pool_instruction}
use Rattle.emit_assembly.specs.Assembling.{Extends}
use Rattle.emit_classes.specs.Named.{IsClassAt, IsMethodAt}

-- `invokestatic` with the slot of a method of the classes calls it, in a class whose pool goes on behind the one in which the slot was
-- taken
abbrev pub MethodsAreMeant : Type 0
MethodsAreMeant =
    (classes : List Class) (number : ℕ) (c : Class) (pool : List Entry) (slot class n : ℕ)
    (owner name descriptor : List ℕ)
    → Extends pool c.pool
    → IsClassAt pool class owner
    → IsMethodAt pool slot class name descriptor
    → same_text owner host_name ≡ false
    → method_number classes (reference_to owner (signature name descriptor)) ≡ Some n
    → pool_instruction classes number c Invokestatic slot ≡ Call n
