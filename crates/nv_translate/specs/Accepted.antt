-- The classes of a translation are accepted.
use Rattle.std.specs.Prelude.{ℕ, Option}
use Rattle.nv_values.specs.Names.{Text}
use Rattle.elf_definition.specs.Start.{Source}
use Rattle.class_definition.specs.Linking.{Accepted}
use Rattle.translate_program.specs.declared.built.Built.{Built}
use Rattle.nv_translate.specs.Linked.{IsLinkedBy}

-- They are the program that they were planned to be, they link, and its methods are typed.
pub record IsAccepted (meter : Option ℕ) (source : Source) (name : Text) (method_bytes : ℕ)
    (built : Built) : Type 0 where
  pub linked : IsLinkedBy meter source name method_bytes built
  pub accepted : Accepted linked.classes

-- Its classes are accepted whatever links of it, and there are such classes.
pub record AreAccepted (meter : Option ℕ) (source : Source) (name : Text) (method_bytes : ℕ)
    (built : Built) : Type 0 where
  pub all : (l : IsLinkedBy meter source name method_bytes built) → Accepted l.classes
  pub some : IsAccepted meter source name method_bytes built
