-- The listing of a program: a line for each word of its code.
use Rattle.std.specs.Prelude.{ℕ, zero, suc, ◌+◌, ◌%◌, ◌^◌, ◌≡◌, ◌++◌, List, [], ◌∷◌, Option, Some, IfErr, IfOk, codes}
use Rattle.std.specs.Option.{option_map_or}
use Rattle.command_words.specs.declared.named.Named.{Named}
use Rattle.elf_definition.specs.declared.range.Range.{Range}
use Rattle.elf_definition.specs.Area.{area}
use Rattle.elf_definition.specs.Fault.{IsRunsOf}
use Rattle.elf_definition.specs.Start.{Source, image_of}
use Rattle.mips_definition.specs.Table.{inst}
use Rattle.mips_decode.specs.Text.{text_of}
use Rattle.nv_outside.specs.Files.{AgreeWith, Files}
use Rattle.command_deeds.specs.declared.done.Done.TheVariants.{Good}
use Rattle.command_deeds.specs.Checks.{Behind, Check, file_that_is_named}
use Rattle.command_deeds.specs.Deeds.{prints}
use Rattle.command_deeds.specs.Ends.{Due, answers, says}
use Rattle.command_deeds.specs.Line.{hex_word, pieces_joined}
use Rattle.command_deeds.specs.World.{World}
use Rattle.command_guest.specs.Imaging.{IsImaged}
use Rattle.command_guest.specs.declared.imaging.TheConstants.{DEFAULT_PAGES}

-- the columns of a line: an address, a word, and a text
abbrev pub columns : ℕ → ℕ → List ℕ → List ℕ
columns at word text =
    pieces_joined (hex_word at ∷ codes ": " ∷ hex_word word ∷ codes " " ∷ text ∷ codes "\n" ∷ [])

-- the line of a word at an address
abbrev pub word_line : ℕ → ℕ → List ℕ
word_line at word = columns at word (text_of (inst word) at)

-- the line of an address of the code
abbrev pub listing_line_at : (ℕ → Option ℕ) → ℕ → List ℕ
listing_line_at code at = option_map_or (word_line at) (code at) []

-- the lines of so many words that follow one another from an address on; an address is a number of
-- 32 bits
abbrev pub run_lines : (ℕ → Option ℕ) → ℕ → ℕ → List ℕ
run_lines code at zero = []
run_lines code at (suc words) = listing_line_at code at ++ run_lines code ((at + 4) % 2 ^ 32) words

-- the lines of runs that rise
abbrev pub runs_lines : (ℕ → Option ℕ) → List Range → List ℕ
runs_lines code [] = []
runs_lines code (run ∷ runs) = run_lines code run.first run.words ++ runs_lines code runs

-- a listing of such runs is printed
abbrev pub listed : (ℕ → Option ℕ) → List Range → Due
listed code runs = record { deeds = prints (runs_lines code runs) ∷ []; answer = Some (says Good) }

-- What `list` is to do with the program of a file that the words name.
pub record IsDueOfList (input : Named) (w : World) (due : Due) : Type 0 where
  -- the files: those of the shelf, where it tells them
  pub files : Files
  pub agree : AgreeWith w.shelf.told files
  -- the program's file is there
  pub file : Check (List ℕ)
  pub file_is : file ≡ file_that_is_named files input
  -- it is a program, and has an image
  pub source : Check Source
  pub source_is : Behind file (IsImaged DEFAULT_PAGES) source
  -- the maximal runs of its code, in rising order of addresses
  pub runs : List Range
  pub are_runs : IfOk source (λ image. IsRunsOf (area image.file) runs)
  -- the answer where one of these refused
  pub refused : IfErr source (λ answer. due ≡ answers answer)
  -- where all passed, a line for each word of the runs
  pub done : IfOk source (λ image. due ≡ listed (image_of image).code runs)
