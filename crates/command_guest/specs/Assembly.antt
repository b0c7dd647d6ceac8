-- What `asm` is to do.
use Rattle.std.specs.Prelude.{◌≡◌, ℕ, nat_lt, if◌then◌else◌, List, [], ◌∷◌, Some, IfErr, IfOk, Ok, Err, codes, length}
use Rattle.command_words.specs.declared.named.Named.{Named}
use Rattle.mips_asm.specs.File.{IsAssembled}
use Rattle.mips_asm.specs.Program.{asm_fault}
use Rattle.nv_outside.specs.Files.{AgreeWith, Files}
use Rattle.command_deeds.specs.declared.done.Done.{Done}
use Rattle.command_deeds.specs.declared.done.Done.TheVariants.{Good, AsmRefused}
use Rattle.command_deeds.specs.Checks.{Behind, Check, after_check, file_that_is_named, unless_fault}
use Rattle.command_deeds.specs.Deeds.{stores, prints}
use Rattle.command_deeds.specs.Ends.{Due, answers, says}
use Rattle.command_deeds.specs.Line.{number_line}
use Rattle.command_deeds.specs.World.{World}
use Rattle.command_guest.specs.declared.assembly.TheConstants.{LONGEST_TEXT, TEXT_TOO_LONG}

-- ---- assembling

-- a faulty line, and what is wrong with it
abbrev pub asm_refused : ℕ × ℕ → Done
asm_refused f = AsmRefused (record { line = f.0; kind = f.1 })

-- a text is not too long
abbrev pub short_text : List ℕ → Check (List ℕ)
short_text text = if nat_lt LONGEST_TEXT (length text) then Err (says (AsmRefused TEXT_TOO_LONG))
    else Ok text

-- no line is faulty, or this is the first that is
abbrev pub sound_text : List ℕ → Check (List ℕ)
sound_text text = unless_fault (asm_fault text) asm_refused text

abbrev pub text_checked : List ℕ → Check (List ℕ)
text_checked text = after_check (short_text text) sound_text

-- a sound text is assembled
abbrev pub IsAssembledTo : List ℕ → Check (List ℕ) → Type 0
IsAssembledTo text (Ok program) = IsAssembled text program
IsAssembledTo text (Err answer) = ⊥

-- the program of a text that is neither too long nor faulty
abbrev pub IsProgramOf : List ℕ → Check (List ℕ) → Type 0
IsProgramOf text check = Behind (text_checked text) IsAssembledTo check

-- ---- the command

-- a program is stored, and its length is told
abbrev pub assembled : List ℕ → List ℕ → Due
assembled output program = record {
  deeds = stores output program
      ∷ prints (number_line (codes "bytes ") (length program)) ∷ [];
  answer = Some (says Good);
}

-- What `asm` is to do with the text of a file that the words name, given the name of the program's
-- file.
pub record IsDueOfAsm (input : Named) (output : List ℕ) (w : World) (due : Due) : Type 0 where
  -- the files: those of the shelf, where it tells them
  pub files : Files
  pub agree : AgreeWith w.shelf.told files
  -- the text's file is there
  pub file : Check (List ℕ)
  pub file_is : file ≡ file_that_is_named files input
  -- it is neither too long nor faulty
  pub text : Check (List ℕ)
  pub text_is : text ≡ after_check file text_checked
  -- its program
  pub program : Check (List ℕ)
  pub program_is : Behind text IsAssembledTo program
  -- the answer where one of these refused
  pub refused : IfErr program (λ answer. due ≡ answers answer)
  -- where all passed, the program is stored and its length told
  pub done : IfOk program (λ bytes. due ≡ assembled output bytes)
