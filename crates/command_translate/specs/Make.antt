-- What `make` is to do.
use Rattle.std.specs.Prelude.{◌≡◌, ℕ, ◌≤◌, ◌+◌, ◌*◌, List, [], ◌∷◌, codes, decimal, pos, Option, Some, None}
use Rattle.nv_values.specs.Names.{Text}
use Rattle.mips_definition.specs.Step.{turn}
use Rattle.elf_definition.specs.Start.{Source, image_of}
use Rattle.elf_definition.specs.FileFields.{words}
use Rattle.mips_asm.specs.File.{IsFileOf}
use Rattle.elf_definition.specs.Loading.{start_of}
use Rattle.command_translate.specs.MadeWords.{made_words}
use Rattle.jvm_definition.specs.Step.{loaded_program, loaded_turn}
use Rattle.class_definition.specs.declared.class.Class.{Class}
use Rattle.class_definition.specs.Linking.{program_of}
use Rattle.translate_program.specs.Files.{allow, need}
use Rattle.translate_program.specs.declared.named_file.NamedFile.{NamedFile}
use Rattle.nv_translate.specs.Made.{AreMade}
use Rattle.nv_translate.specs.Translated.{Making, Translated}
use Rattle.command_deeds.specs.declared.done.Done.{Done}
use Rattle.command_deeds.specs.declared.done.Done.TheVariants.{Exited, Good}
use Rattle.command_deeds.specs.Deeds.{prints}
use Rattle.command_deeds.specs.Ends.{Due, says}
use Rattle.command_deeds.specs.Line.{pieces_joined}
use Rattle.command_deeds.specs.Runs.{answer_of, run_alone}
use Rattle.command_guest.specs.Imaging.{source_of}
use Rattle.command_guest.specs.declared.imaging.TheConstants.{DEFAULT_PAGES}

-- the name of a made program
abbrev pub made_name : Text
made_name = codes "Main"

-- five for each block, three at the end, and the call before the first
abbrev pub made_steps : ℕ → ℕ
made_steps count = 5 * count + 4

-- how the program ends in the reference machine within so many steps, and how its classes end
abbrev pub interp_end : ℕ → ℕ → Source → Option Done
interp_end steps moment source =
    answer_of (run_alone steps turn (start_of (image_of source)) made_name moment).outcome

abbrev pub classes_end : ℕ → ℕ → Source → List Class → Option Done
classes_end steps moment source classes =
    let mapped = (image_of source).mapped in
    answer_of (run_alone (allow mapped steps) loaded_turn
    (loaded_program (program_of classes) (need mapped)) made_name moment).outcome

-- how many words the program has, and both statuses
abbrev pub made_lines : ℕ → ℕ → ℕ → List ℕ
made_lines count interp classes = pieces_joined (
    codes "words " ∷ decimal (6 * count + 3) ∷ codes "\ninterp " ∷ decimal interp
    ∷ codes "\nclasses " ∷ decimal classes ∷ codes "\n" ∷ []
    )

abbrev pub told : ℕ → ℕ → ℕ → Due
told count interp classes = record {
  deeds = prints (made_lines count interp classes) ∷ [];
  answer = Some (says Good);
}

-- What `make` is to do with a program of so many blocks: no check refuses it.
pub record IsDueOfMake (IsMade : Making) (count method_bytes moment : ℕ) (due : Due) : Type 0
  where
    -- the file of the program, which is written for itself
    pub file : List ℕ
    pub file_is : IsFileOf (words (made_words count)) [] file
    -- a translation of it
    pub files : List NamedFile
    pub translated : Translated (source_of DEFAULT_PAGES file) made_name files
    pub made : IsMade None (source_of DEFAULT_PAGES file) made_name method_bytes files
    -- a status of seven bits
    pub status : ℕ
    pub low : status ≤ 127
    -- with which the program exits within its steps in the reference machine
    pub interp : interp_end (made_steps count) moment (source_of DEFAULT_PAGES file)
        ≡ Some (Exited (pos status))
    -- and as classes
    pub classes : classes_end (made_steps count) moment (source_of DEFAULT_PAGES file)
        translated.classes ≡ Some (Exited (pos status))
    -- the number of words and both statuses are told
    pub done : due ≡ told count status status

-- the classes of a translation of the program end so
pub record IsEndOfTranslation (steps moment : ℕ) (source : Source) (method_bytes : ℕ) (end : Done)
    : Type 0 where
  pub files : List NamedFile
  pub translated : Translated source made_name files
  pub made : AreMade None source made_name method_bytes files
  pub is : classes_end steps moment source translated.classes ≡ Some end
