-- What the program is to do by its words, and what it leaves.
use Rattle.std.specs.Prelude.{◌≡◌, ℕ, Bool, true, false, List, Result, Ok, Err}
use Rattle.nv_values.specs.Names.{Text}
use Rattle.command_words.specs.Meaning.{command_of}
use Rattle.command_words.specs.declared.command.Command.{Command}
use Rattle.command_words.specs.declared.command.Command.TheVariants as command
use Rattle.command_words.specs.declared.session.Session.{Session}
use Rattle.command_forms.specs.declared.usage.Usage.{Usage}
use Rattle.command_deeds.specs.Ends.{CommandAnswer, Comes, Due, final}
use Rattle.command_deeds.specs.Line.{answer_line}
use Rattle.command_deeds.specs.World.{World}
use Rattle.command_deeds.specs.declared.done.Done.{Done}
use Rattle.command_deeds.specs.declared.stop.Stop.{Stop}
use Rattle.command_deeds.specs.Runs.{Plan}
use Rattle.command_guest.specs.Assembly.{IsDueOfAsm}
use Rattle.command_guest.specs.Interp.{IsDueOfInterp}
use Rattle.command_guest.specs.Listing.{IsDueOfList}
use Rattle.command_guest.specs.Classes.{IsDueOfRun, IsDueOfVerify}
use Rattle.command_frames.specs.Frames.{IsDueOfFrames}
use Rattle.command_frames.specs.Check.{IsDueOfCheck}
use Rattle.command_link.specs.Linking.{IsDueOfLink}
use Rattle.command_pipe.specs.Pipe.{IsDueOfPipe}
use Rattle.command_pipe.specs.declared.launch.PipeLaunch.{PipeLaunch}
use Rattle.command_translate.specs.Go.{IsDueOfGo}
use Rattle.command_translate.specs.Make.{IsDueOfMake}
use Rattle.command_translate.specs.Translate.{IsDueOfTranslate}
use Rattle.nv_translate.specs.Translated.{Making}
use Rattle.nested_cli.specs.Faults.{Faults}
use Rattle.nested_cli.specs.Line.{Says}
use Rattle.nested_cli.specs.Usage.{Misuses}

abbrev pub plan : Text → Session → ℕ → Plan
plan name session moment = record { name = name; session = session; moment = moment }

-- how the stages of a pipeline are started
abbrev pub pipe_launch : ℕ → ℕ → ℕ → ℕ → ℕ → PipeLaunch
pipe_launch words steps disk pipe moment =
    record { words = words; steps = steps; disk = disk; size = pipe; moment = moment }

-- What a command is to do in a world, where this is said besides of how translations are made: by its words, and by files and input that are those that are
-- told, where any are.
abbrev pub IsDueOf : Making → Command → ℕ → World → Due → Type 0
IsDueOf IsMade (command.Go input name pages method_bytes meter session) moment w due =
    IsDueOfGo IsMade input pages method_bytes meter (plan name session moment) w due
IsDueOf IsMade (command.Translate input name pages method_bytes meter) moment w due =
    IsDueOfTranslate IsMade input name pages method_bytes meter w due
IsDueOf IsMade (command.Interp input name pages session) moment w due =
    IsDueOfInterp input pages (plan name session moment) w due
IsDueOf IsMade (command.Asm input output) moment w due = IsDueOfAsm input output w due
IsDueOf IsMade (command.List input) moment w due = IsDueOfList input w due
IsDueOf IsMade (command.Run class words session) moment w due =
    IsDueOfRun class words (plan class.name session moment) w due
IsDueOf IsMade (command.Verify class) moment w due = IsDueOfVerify class w due
IsDueOf IsMade (command.Frames class) moment w due = IsDueOfFrames class w due
IsDueOf IsMade (command.Check class) moment w due = IsDueOfCheck class w due
IsDueOf IsMade (command.Make count method_bytes) moment w due = IsDueOfMake IsMade count method_bytes moment due
IsDueOf IsMade (command.Link output inputs entry) moment w due = IsDueOfLink output inputs entry w due
IsDueOf IsMade (command.Pipe classes words steps disk pipe) moment w due =
    IsDueOfPipe classes (pipe_launch words steps disk pipe moment) w due

-- all but `make` load files
abbrev pub loads_files : Command → Bool
loads_files (command.Make count method_bytes) = false
loads_files other = true

-- What a call of the program leaves, and its answer.
pub record Does (IsMade : Making) (words : List Text) (moment : ℕ) (w v : World) (said : Done)
    : Type 0 where
  -- the world before the answer's line, and how the work ended: with an answer, or stopped on the
  -- way
  pub worked : World
  pub end : Result CommandAnswer Stop
  -- words that are no command line are answered so over every outside, and nothing else is done
  pub usage : (misuse : Usage) → command_of words ≡ Err misuse → Misuses misuse w worked end
  -- else what the command is to do is done, or stopped on the way
  pub due : (c : Command) → command_of words ≡ Ok c
      → Comes (loads_files c) (IsDueOf IsMade c moment) w worked end
  -- a fault is answered exactly where a call failed, once, and no failed call is passed over
  pub faults : Faults w v said
  -- the answer's line is written to error output last
  pub line : Says (answer_line (final end).name (final end).done) worked v (final end).done said
