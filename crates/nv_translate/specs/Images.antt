-- What holds of each image, and of its translations.
use Rattle.std.specs.Prelude.{ℕ, ◌^◌, ◌<◌, ◌≤◌, List, Some}
use Rattle.run_definition.specs.Words.{IsWord}
use Rattle.nv_values.specs.Names.{Text}
use Rattle.elf_definition.specs.Start.{Source, image_of}
use Rattle.jvm_definition.specs.Program.{Program}
use Rattle.class_definition.specs.declared.class.Class.{Class}
use Rattle.class_definition.specs.Linking.{program_of}
use Rattle.translate_program.specs.declared.built.Built.{Built}
use Rattle.translate_program.specs.declared.layout.Layout.{Layout}
use Rattle.nv_translate.specs.AcceptedCode.{HasAcceptedCode}
use Rattle.nv_translate.specs.Linked.{IsLinked, IsLinkedBy}
use Rattle.nv_translate.specs.MappedPages.{HasMappedPages}

-- Its code is whole and not too much, its memory is pages of words, and it begins at an address of 32 bits.
pub record IsImage (source : Source) : Type 0 where
  pub code : HasAcceptedCode source
  pub pages : HasMappedPages source
  pub entry : IsWord (image_of source).entry

-- What is said of an image, of a layout and of the program that classes are, is said of each linked
-- translation of an image, whose spans may have 4,096 bytes or more.
abbrev pub OfTranslations : (Source → Layout → Program → Type 0) → Type 0
OfTranslations Says =
    (source : Source) (name : Text) (method_bytes : ℕ) (built : Built)
    → IsImage source → 4096 ≤ method_bytes
    → (l : IsLinked source name method_bytes built)
    → Says source built.layout (program_of l.classes)

-- What is said of an image, of a number of turns and of classes, is said of each linked translation of
-- an image with a meter of so many turns, whose spans may have 4,096 bytes or more.
abbrev pub OfMeteredTranslations : (Source → ℕ → List Class → Type 0) → Type 0
OfMeteredTranslations Says =
    (source : Source) (name : Text) (method_bytes turns : ℕ) (built : Built)
    → IsImage source → 4096 ≤ method_bytes → turns < 2 ^ 31
    → (l : IsLinkedBy (Some turns) source name method_bytes built)
    → Says source turns l.classes
