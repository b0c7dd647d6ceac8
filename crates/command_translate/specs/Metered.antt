-- What is due of a program whose classes have a meter.
use Rattle.std.specs.Prelude.{◌≡◌, ◌≢◌, ◌==◌, if◌then◌else◌, ℕ, Bool, false, List, Option, Some, None, option_map, Result, Ok, Err}
use Rattle.run_definition.specs.Run.{Run}
use Rattle.nv_values.specs.Names.{Text}
use Rattle.run_simulation_laws.specs.Meter.{IsMetered}
use Rattle.mips_definition.specs.State.{State}
use Rattle.elf_definition.specs.Start.{Source, image_of}
use Rattle.unix_definition.specs.System.{System}
use Rattle.unix_calls.specs.Stages.{stage_of}
use Rattle.meter.specs.Guards.{spent_kind}
use Rattle.emit_metered_laws.specs.Metering.{spent}
use Rattle.jvm_definition.specs.Step.{loaded_turn}
use Rattle.class_definition.specs.declared.class.Class.{Class}
use Rattle.translate_program.specs.Files.{meter_allow, need}
use Rattle.translate_program.specs.declared.named_file.NamedFile.{NamedFile}
use Rattle.nv_translate.specs.Metered.{RunsByItsMeter}
use Rattle.nv_translate.specs.Translated.{Making}
use Rattle.command_deeds.specs.Ends.{CommandAnswer, Due, says}
use Rattle.command_deeds.specs.Runs.{GivenFile, Plan, played}
use Rattle.command_deeds.specs.declared.done.Done.{Done}
use Rattle.command_deeds.specs.declared.done.Done.TheVariants as done
use Rattle.command_deeds.specs.declared.stop.Stop.{Stop}
use Rattle.command_translate.specs.Stores.{classes_for, program_for, after_stores, files_counted}

-- ---- answers

-- the fault of a spent meter, which a program itself never has
abbrev pub is_spent : Done → Bool
is_spent (done.Faulted f) = f.kind == spent_kind
is_spent other = false

-- The answer of classes with a meter, by that of any run: it tells that the program's steps are
-- spent.
abbrev pub by_meter : Done → Done
by_meter answer = if is_spent answer then done.Spent else answer

abbrev pub said_by_meter : CommandAnswer → CommandAnswer
said_by_meter answer = record { done = by_meter answer.done; name = answer.name }

abbrev pub ended_by_meter : Result CommandAnswer Stop → Result CommandAnswer Stop
ended_by_meter (Ok answer) = Ok (said_by_meter answer)
ended_by_meter (Err stop) = Err stop

-- the same work with this answer
abbrev pub told_by_meter : Due → Due
told_by_meter due = record {
  deeds = due.deeds;
  answer = option_map said_by_meter due.answer;
}

-- ---- what is due

-- how many instructions the turns on the meter allow the classes
abbrev pub allowed_by_meter : ℕ → Source → ℕ
allowed_by_meter turns source = meter_allow (image_of source).mapped turns

-- What is due of the run of the classes, beside the program's own of as many turns as are on the
-- meter: they run, and then the answer is how the program ended, or that its steps are spent, and
-- the files are kept that it has then.
abbrev pub metered_run : Plan → ℕ → Source → List GivenFile → List Class → Option (List ℕ)
    → List (List ℕ) → Due
metered_run plan turns source given classes input pieces =
    let program : Run State System = program_for plan source given input pieces turns in
    played (allowed_by_meter turns source)
    (λ n. stage_of loaded_turn (classes_for plan source given classes input pieces n))
    program.system.files plan.session.keep.names program.outcome

-- What is due of a program that has an image, with the files of --with, where so many turns are put
-- on a meter of its classes.
pub record IsDueOfMetered (IsMade : Making) (plan : Plan) (method_bytes turns : ℕ)
    (source : Source) (given : List GivenFile) (input : Option (List ℕ)) (due : Due) : Type 0
  where
    -- a translation: its files spell classes that are accepted, and that run as the program does
    -- until its turns are spent
    pub files : List NamedFile
    pub translated : RunsByItsMeter source plan.name turns files
    pub made : IsMade (Some turns) source plan.name method_bytes files
    -- pieces of input, of which one comes before each call where it does not tell what it has left
    pub pieces : List (List ℕ)
    -- its files are stored, and then its classes run
    pub is : due ≡ after_stores files
        (metered_run plan turns source given translated.classes input pieces)
    -- Their run has come to where the program's own stands after so many steps, as `interp` makes it:
    -- after the same calls, and with the same files, input and output. It has ended in the same way,
    -- or where the program goes on, in the fault of a spent meter.
    pub as_program : IsMetered spent (program_for plan source given input pieces turns)
        (classes_for plan source given translated.classes input pieces
        (allowed_by_meter turns source))
    -- they never end in a trap
    pub no_trap : (k : ℕ) → due.answer ≢ Some (says (done.Trapped k))

-- The same where its classes are stored alone: every program that has an image is translated.
pub record IsDueOfMeteredImage (IsMade : Making) (source : Source) (name : Text)
    (method_bytes turns : ℕ) (due : Due) : Type 0 where
  -- a translation: its files spell classes that are accepted, and that run as the program does
  -- until its turns are spent
  pub files : List NamedFile
  pub translated : RunsByItsMeter source name turns files
  pub made : IsMade (Some turns) source name method_bytes files
  -- its files are stored, and counted
  pub is : due ≡ files_counted files (need (image_of source).mapped)
