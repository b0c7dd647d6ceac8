-- How a command ends: its answer with all that is due, or a stop on the way; and what its stages
-- give.
use Rattle.std.specs.Prelude.{◌≡◌, ◌⊎◌, ℕ, Bool, true, false, List, [], Option, Some, MatchResult, Result, Ok, Err}
use Rattle.nv_outside.specs.Files.{AgreeWith, Files}
use Rattle.nv_outside.specs.declared.shelf.Shelf as shelf
use Rattle.nv_outside.specs.declared.sink.Sink as sink
use Rattle.nv_outside.specs.declared.source.Source as source
use Rattle.command_deeds.specs.declared.done.Done.{Done}
use Rattle.command_deeds.specs.declared.ending.Ending.{Ending}
use Rattle.command_deeds.specs.declared.outside.Outside.{Outside}
use Rattle.command_deeds.specs.declared.stop.Stop.{Stop}
use Rattle.command_deeds.specs.declared.stop.Stop.TheVariants.{NoMemory}
use Rattle.command_deeds.specs.Checks.{Check}
use Rattle.command_deeds.specs.Deeds.{Deed, DoesAll, StopsIn}
use Rattle.command_deeds.specs.World.{World, OnlyShelf, SameParts, SameShelf, Seen, Stays, StopsLoad, seen, world}
pub use Rattle.command_deeds.specs.Answers.{CommandAnswer, done_of_stop, end_of, ended, final, is_stop, lacks, says}

-- ---- what is due

-- the deeds of a command in their order, and its answer; where there is none, the work does not
-- come to an end
pub record Due : Type 0 where
  pub deeds : List Deed
  pub answer : Option CommandAnswer

-- an answer alone
abbrev pub answers : CommandAnswer → Due
answers answer = record { deeds = []; answer = Some answer }

-- A command's work: all its deeds with its answer, which is none of a stop; or a stop on the way.
abbrev pub Works : Due → World → World → Result CommandAnswer Stop → Type 0
Works due w v (Ok answer) = (due.answer ≡ Some answer) × (is_stop answer.done ≡ false)
    × DoesAll due.deeds w v
Works due w v (Err stop) = StopsIn due.deeds w v stop

-- A command was stopped before any deed: one that loads where the shelf failed or memory ran out, and
-- one that loads nothing where memory did.
abbrev pub StopsEarly : Bool → World → World → Result CommandAnswer Stop → Type 0
StopsEarly loads w v (Ok answer) = ⊥
StopsEarly true w v (Err stop) = StopsLoad w.shelf v.shelf stop × OnlyShelf w v
StopsEarly false w v (Err stop) = (stop ≡ NoMemory) × Stays w v

-- Something is due in the world that a command begins in, and its work is done, or was stopped.
abbrev pub WorksOn : (World → Due → Type 0) → World → World → Result CommandAnswer Stop → Type 0
WorksOn IsDueAt w v end = (due : Due) × IsDueAt w due × Works due w v end

-- What a command comes to, which loads or not, given what is due in the world that it begins in.
abbrev pub Comes : Bool → (World → Due → Type 0) → World → World → Result CommandAnswer Stop
    → Type 0
Comes loads IsDueAt w v end = StopsEarly loads w v end ⊎ WorksOn IsDueAt w v end

-- how a command ends that loads, and worked on an outside
abbrev pub Ends : {H S O E : Type 0} → shelf.Ghosts H → source.Ghosts S → sink.Ghosts O
    → sink.Ghosts E → (World → Due → Type 0) → Outside H S O E
    → Outside H S O E → Result Done Ending → Type 0
Ends H S O E IsDueAt old new result = SameParts old new
    × Comes true IsDueAt (seen H S O E old) (seen H S O E new) (ended result)

-- ---- what stages give

-- This is so of some files, which agree with those that the shelf tells, and nothing of it changed.
pub record Over (IsSo : Files → Type 0) (old new : Seen Files) : Type 0 where
  pub files : Files
  pub agree : AgreeWith old.told files
  pub same : SameShelf old new
  pub is : IsSo files

abbrev pub GivesEnd : (Files → CommandAnswer → Type 0) → Seen Files → Seen Files
    → Result CommandAnswer Stop → Type 0
GivesEnd IsRefused old new end =
    MatchResult end (λ answer. (is_stop answer.done ≡ false)
    × Over (λ files. IsRefused files answer) old new)
    (λ stop. StopsLoad old new stop)

-- A stage that loads comes to its check by some files: it gives the value, or ends the command with
-- the answer; or it was stopped.
abbrev pub Gives : {A : Type 0} → (Files → Check A → Type 0) → Seen Files → Seen Files
    → Result A Ending → Type 0
Gives IsChecked old new result =
    MatchResult result (λ value. Over (λ files. IsChecked files (Ok value)) old new)
    (λ ending. GivesEnd (λ files answer. IsChecked files (Err answer)) old new (end_of ending))

abbrev pub MakesEnd : (CommandAnswer → Type 0) → Result CommandAnswer Stop → Type 0
MakesEnd IsRefused end =
    MatchResult end (λ answer. (is_stop answer.done ≡ false)
    × IsRefused answer) (λ stop. stop ≡ NoMemory)

-- A stage that only takes memory comes to its check: it makes the value, or ends the command with
-- the answer; or memory ran out.
abbrev pub Makes : {A : Type 0} → (Check A → Type 0) → Result A Ending → Type 0
Makes IsChecked result =
    MatchResult result (λ value. IsChecked (Ok value))
    (λ ending. MakesEnd (λ answer. IsChecked (Err answer)) (end_of ending))

-- all deeds are done, or those up to one that was stopped
abbrev pub DoesOrStops : List Deed → World → World → Result (Unit {0}) Stop → Type 0
DoesOrStops deeds w v result =
    MatchResult result (λ done. DoesAll deeds w v) (λ stop. StopsIn deeds w v stop)

-- deeds on the shelf alone, whatever else is outside
abbrev pub ShelfDoes : List Deed → Seen Files → Seen Files → Result (Unit {0}) Stop → Type 0
ShelfDoes deeds old new result = (input out err : Seen (List ℕ))
    → DoesOrStops deeds (world old input out err) (world new input out err) result
