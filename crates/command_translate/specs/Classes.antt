-- The classes that files hold.
use Rattle.std.specs.Prelude.{List}
use Rattle.std.specs.List.{AllZip}
use Rattle.class_definition.specs.ClassFile.{Spells}
use Rattle.class_definition.specs.declared.class.Class.{Class}
use Rattle.class_definition.specs.Linking.{Accepted}
use Rattle.translate_program.specs.declared.named_file.NamedFile.{NamedFile}

-- files spell these classes, one each
abbrev pub SpellClasses : List NamedFile → List Class → Type 0
SpellClasses files classes =
    AllZip (λ (f : NamedFile) (c : Class). Spells f.bytes.items c) files classes

-- files spell classes that link, and of which each method is typed
pub record HoldAccepted (files : List NamedFile) : Type 0 where
  pub classes : List Class
  pub spelled : SpellClasses files classes
  pub accepted : Accepted classes
