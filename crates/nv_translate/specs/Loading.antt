-- How the program of a translation makes its memory and begins.
use Rattle.std.specs.Prelude.{◌≡◌, ◌≢◌, ℕ, ◌+◌, ◌*◌, ◌<◌, ◌≤◌, Bool, true, List, Option}
use Rattle.elf_definition.specs.Start.{Source, image_of, readable, writable}
use Rattle.elf_image_parts.specs.declared.page_run.PageRun.{PageRun}
use Rattle.elf_image_parts.specs.Pages.{page_words}
use Rattle.jvm_definition.specs.Program.{Program}
use Rattle.emit_layout.specs.Numbers.{run_number, choose_number, pages_number}
use Rattle.emit_program_laws.specs.LoadingCodeLaws.Loaded.{Filler, MakersAreNone, MakesMemory, run_shares, memory_turns}
use Rattle.emit_program_laws.specs.LoadingCodeLaws.Made.{IsProgram}
use Rattle.translate_classes.specs.Content.{text_runs}
use Rattle.translate_program.specs.Classes.{Placed}
use Rattle.translate_program.specs.DataFiles.{class_count, filled_pages, first_method, fill_of}
use Rattle.translate_program.specs.MainFile.{beginning_of}
use Rattle.translate_program.specs.Translation.{code_methods}

-- A method takes no part in loading: it is not the program's first one, nor the one that makes pages, nor one of a class of data.
pub record TakesNoPart (source : Source) (code : List Placed) (m : ℕ) : Type 0 where
  pub first : run_number ≢ m
  pub pages : pages_number ≢ m
  -- of a class of data neither the one that puts words nor the one that fills pages
  pub words : (k : ℕ) → k < class_count (filled_pages source)
      → first_method (code_methods code) k ≢ m
  pub fills : (k : ℕ) → k < class_count (filled_pages source) → fill_of (code_methods code) k ≢ m

-- A program begins as a source does, with a meter or without, and makes its memory, in a region of so many words, from texts that tell these runs of
-- pages. A method m takes no part in it. It takes some 42,057 instructions a page.
pub record LoadsSource (meter : Option ℕ) (source : Source) (code : List Placed) (program : Program)
    (words m : ℕ) (texts : List ℕ) (runs : List PageRun) : Type 0 where
  -- its methods that fill pages, each with the texts and the pages that it fills
  pub fillers : List Filler
  -- its first method makes the memory and begins as the source does
  pub begins : IsProgram program run_number m choose_number pages_number meter
      (beginning_of source) texts fillers
  -- what it makes is the source's memory: which pages can be read and written, and their words
  pub makes : MakesMemory program words m pages_number texts (run_shares text_runs runs) fillers
      (readable source) (writable source) (page_words source)
  -- none of the methods that do this is one that takes no part
  pub others : (test : ℕ → Bool) → ((k : ℕ) → test k ≡ true → TakesNoPart source code k)
      → MakersAreNone test pages_number fillers
  -- the instructions that this takes, by the pages that are mapped
  pub in_time : memory_turns (run_shares text_runs runs) fillers
      ≤ 6 + 42057 * (image_of source).mapped
