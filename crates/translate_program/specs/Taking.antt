-- What is taken of an image before its code is made.
use Rattle.std.specs.Prelude.{◌≡◌, ℕ, Bool, List, length}
use Rattle.nv_values.specs.Names.{Text}
use Rattle.elf_definition.specs.Start.{image_of}
use Rattle.translate_program.specs.declared.taking.Taken.{Taken}
use Rattle.translate_program.specs.Classes.{Placed, AreCodeClasses}
use Rattle.translate_program.specs.Ranges.{AreRangesOf}
use Rattle.translate_program.specs.DataFiles.{IsDataOf}
use Rattle.translate_program.specs.MainFile.{IsHeadOf}
use Rattle.translate_program.specs.Files.{need}
use Rattle.translate_program.specs.Translation.{code_methods}

-- Its ranges, what the main class has of it, its classes of data behind those of code, and what it needs.
pub record IsTaken (metered : Bool) (name : Text) (method_bytes : ℕ) (taken : Taken) : Type 0 where
  pub ranges_are : AreRangesOf taken.ranges.image.value taken.ranges.items.items
  pub head_is : IsHeadOf taken.ranges.image.value taken.head
  pub data_is : (code : List Placed)
      → AreCodeClasses metered taken.ranges.image.value method_bytes code
      → IsDataOf taken.ranges.image.value name (length code) (code_methods code) taken.stored
  pub need_is : taken.need ≡ need (image_of taken.ranges.image.value).mapped
