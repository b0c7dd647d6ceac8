-- What making a system ready for a guest comes to.
use Rattle.std.specs.Prelude.{◌≡◌, ◌++◌, ℕ, List, [], MatchResult, Some, None, Result, Ok, Err, length}
use Rattle.nv_outside.specs.Files.{Files}
use Rattle.nv_values.specs.Names.{Text}
use Rattle.unix_calls.specs.Held.{Held}
use Rattle.unix_calls.specs.Starting.{Begins}
use Rattle.command_deeds.specs.declared.done.Done.TheVariants as done
use Rattle.command_deeds.specs.declared.ending.Ending.{Ending}
use Rattle.command_deeds.specs.Checks.{Check}
use Rattle.command_deeds.specs.Ends.{CommandAnswer, GivesEnd, MakesEnd, Over, end_of, says}
use Rattle.command_deeds.specs.World.{Seen}
use Rattle.command_deeds.specs.Runs.{GivenFile, Plan, arguments_of, files_for, found_for, too_long}

-- these texts behind those do not fit
abbrev pub IsTooLong : List Text → List Text → CommandAnswer → Type 0
IsTooLong before texts answer = (n : ℕ) × (too_long before texts ≡ Some n)
    × (answer ≡ says (done.ArgsTooLong n))

-- a system that begins with the arguments and the files that were found
pub record IsReady (plan : Plan) (files : Files) (unix : Held) : Type 0 where
  pub given : List GivenFile
  pub finds : found_for plan files ≡ Ok given
  pub begins : Begins unix plan.session.disk plan.moment given (arguments_of plan)

-- it is ready, or an argument or a file does not fit, or is not there
abbrev pub IsReadied : Plan → Files → Check Held → Type 0
IsReadied plan files (Ok unix) = IsReady plan files unix
IsReadied plan files (Err answer) = found_for plan files ≡ Err answer

-- a system without files, of which no call was served
pub record HasNoFiles (held : Held) : Type 0 where
  pub blocks : ℕ
  pub moment : ℕ
  pub args : List Text
  pub begins : Begins held blocks moment [] args

-- texts are added to these arguments, or the first that does not fit is told
abbrev pub ArgsOr : ℕ → ℕ → List GivenFile → List Text → List Text → Held → Result (Unit {0}) Ending
    → Type 0
ArgsOr blocks moment files args texts new result =
    MatchResult result (λ done. (too_long args texts ≡ None)
    × Begins new blocks moment files (args ++ texts))
    (λ ending. MakesEnd (IsTooLong args texts) (end_of ending))

abbrev pub AddsArgs : List Text → Held → Held → Result (Unit {0}) Ending → Type 0
AddsArgs texts old new result =
    (blocks moment : ℕ) (files : List GivenFile) (args : List Text)
    → Begins old blocks moment files args
    → ArgsOr blocks moment files args texts new result

-- files of these names are added to those found
pub record AddsFound (shelf now : Seen Files) (word blocks moment : ℕ) (found : List GivenFile)
    (args names : List Text) (new : Held) : Type 0 where
  pub more : List GivenFile
  pub all : length more ≡ length names
  pub begins : Begins new blocks moment (found ++ more) args
  pub finds : Over (λ files. files_for files blocks word found names ≡ Ok (found ++ more)) shelf now

-- they are added, or the answer of the first that is not there, or does not fit, is told
abbrev pub FilesOr : Seen Files → Seen Files → ℕ → ℕ → ℕ → List GivenFile → List Text → List Text
    → Held → Result (Unit {0}) Ending → Type 0
FilesOr shelf now word blocks moment found args names new result =
    MatchResult result (λ done. AddsFound shelf now word blocks moment found args names new)
    (λ ending. GivesEnd (λ files answer. files_for files blocks word found names
    ≡ Err answer) shelf now (end_of ending))

abbrev pub AddsFiles : Seen Files → Seen Files → ℕ → List Text → Held → Held
    → Result (Unit {0}) Ending → Type 0
AddsFiles shelf now word names old new result =
    (blocks moment : ℕ) (found : List GivenFile) (args : List Text)
    → Begins old blocks moment found args
    → FilesOr shelf now word blocks moment found args names new result
