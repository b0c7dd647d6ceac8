-- The files of a translation are stored one after the other, and then a command goes on; the runs of a program and of the
-- classes that it becomes, beside each other.
use Rattle.std.specs.Prelude.{◌≡◌, ℕ, List, [], ◌∷◌, ◌++◌, length, map, codes, decimal, Some, Option}
use Rattle.translate_program.specs.Files.{named_file_name, need}
use Rattle.translate_program.specs.declared.named_file.NamedFile.{NamedFile}
use Rattle.command_deeds.specs.Deeds.{Deed, prepares, prints, stores}
use Rattle.command_deeds.specs.Ends.{Due, says}
use Rattle.command_deeds.specs.Line.{pieces_joined}
use Rattle.command_deeds.specs.declared.done.Done.TheVariants.{Good}
use Rattle.run_definition.specs.Run.{Run}
use Rattle.mips_definition.specs.State.{State}
use Rattle.mips_definition.specs.Step.{turn}
use Rattle.elf_definition.specs.Start.{Source, image_of}
use Rattle.unix_definition.specs.System.{System}
use Rattle.elf_definition.specs.Loading.{start_of}
use Rattle.jvm_definition.specs.Step.{Loaded, loaded_program, loaded_turn}
use Rattle.class_definition.specs.declared.class.Class.{Class}
use Rattle.class_definition.specs.Linking.{program_of}
use Rattle.command_deeds.specs.Runs.{GivenFile, Plan, run_for}

-- ---- files

abbrev pub file_stored : NamedFile → Deed
file_stored file = stores (named_file_name file) file.bytes.items

-- files are stored
abbrev pub files_stored : List NamedFile → List Deed
files_stored files = map file_stored files

-- files are stored, and memory is taken for what is due then
abbrev pub after_stores : List NamedFile → Due → Due
after_stores files due = record {
  deeds = files_stored files
      ++ prepares ∷ due.deeds;
  answer = due.answer;
}

-- files are stored, and this is due behind them
abbrev pub IsDueBehind : List NamedFile → (Due → Type 0) → Due → Type 0
IsDueBehind files IsDue due = (later : Due) × IsDue later × (due ≡ after_stores files later)

-- how many files there are, and the words of the region in which they run
abbrev pub translation_line : List NamedFile → ℕ → List ℕ
translation_line files words =
    pieces_joined (codes "classes " ∷ decimal (length files) ∷ codes " need " ∷ decimal words
    ∷ codes "\n" ∷ [])

-- the files are stored, and counted
abbrev pub files_counted : List NamedFile → ℕ → Due
files_counted files words = record {
  deeds = files_stored files
      ++ prints (translation_line files words) ∷ [];
  answer = Some (says Good);
}

-- ---- runs

-- the run of a program's classes from their start, for at most n instructions: in the region that
-- they need, over these files, and over this input, or these pieces of it
abbrev pub classes_for : Plan → Source → List GivenFile → List Class → Option (List ℕ)
    → List (List ℕ) → ℕ → Run Loaded System
classes_for plan source given classes input pieces n =
    run_for n loaded_turn (loaded_program (program_of classes) (need (image_of source).mapped))
    plan given input pieces

-- the run of the program itself over the same, for at most n steps, as `interp` makes it
abbrev pub program_for : Plan → Source → List GivenFile → Option (List ℕ) → List (List ℕ) → ℕ
    → Run State System
program_for plan source given input pieces n =
    run_for n turn (start_of (image_of source)) plan given input pieces
