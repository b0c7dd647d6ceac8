-- What is seen of the outside, and how it changes.
use Rattle.std.specs.Prelude.{◌≡◌, ℕ, List, MatchResult, Result}
use Rattle.nv_outside.specs.Files.{Files, OthersStay, SameFiles, SetsFile}
use Rattle.nv_outside.specs.Gains.{AppendsProperPart}
use Rattle.nv_outside.specs.declared.shelf.Shelf as shelf
use Rattle.nv_outside.specs.declared.sink.Sink as sink
use Rattle.nv_outside.specs.declared.source.Source as source
use Rattle.unix_calls.specs.Stages.{Streams}
use Rattle.command_deeds.specs.declared.outside.Outside.{Outside}
use Rattle.command_deeds.specs.declared.stop.Stop.{Stop}
use Rattle.command_deeds.specs.declared.stop.Stop.TheVariants.{ReadFault, WriteFault, ShelfFault, NoMemory}
pub use Rattle.nv_outside.specs.Faults.{Rises}
pub use Rattle.nv_outside.specs.Seen.{FailsIn, Seen, Takes, input_seen, output_seen, shelf_seen}

-- the shelf's files, the input that was not read yet, and what output and error output took
pub record World : Type 0 where
  pub shelf : Seen Files
  pub input : Seen (List ℕ)
  pub out : Seen (List ℕ)
  pub err : Seen (List ℕ)

abbrev pub world : Seen Files → Seen (List ℕ) → Seen (List ℕ) → Seen (List ℕ) → World
world shelf input out err = record { shelf = shelf; input = input; out = out; err = err }

-- the source and the sinks of a world
abbrev pub streams_of : World → Streams
streams_of w = record { input = w.input; out = w.out; err = w.err }

abbrev pub seen : {H S O E : Type 0} → shelf.Ghosts H → source.Ghosts S → sink.Ghosts O
    → sink.Ghosts E → Outside H S O E → World
seen H S O E outside =
    world (shelf_seen H outside.shelf.now) (input_seen S outside.input.now)
    (output_seen O outside.out.now) (output_seen E outside.err.now)

-- the parts of the outside are the same objects
abbrev pub SameParts : {H S O E : Type 0} → Outside H S O E → Outside H S O E → Type 0
SameParts old new =
    (new.shelf.ghost_name ≡ old.shelf.ghost_name) × (new.input.ghost_name ≡ old.input.ghost_name)
    × (new.out.ghost_name ≡ old.out.ghost_name) × (new.err.ghost_name ≡ old.err.ghost_name)

-- ---- the shelf

-- nothing of the shelf changes
abbrev pub SameShelf : Seen Files → Seen Files → Type 0
SameShelf old new = SameFiles old.told new.told × (new.faults ≡ old.faults)

-- a file is set to these bytes
abbrev pub Sets : Seen Files → Seen Files → List ℕ → List ℕ → Type 0
Sets old new name bytes = SetsFile old.told new.told name bytes × (new.faults ≡ old.faults)

-- Loading, or taking memory, was stopped: no file changes.
abbrev pub StopsLoad : Seen Files → Seen Files → Stop → Type 0
StopsLoad old new ShelfFault = SameFiles old.told new.told × Rises old.faults new.faults
StopsLoad old new NoMemory = SameShelf old new
StopsLoad old new ReadFault = ⊥
StopsLoad old new WriteFault = ⊥

-- Storing a file was stopped: where the shelf failed, the file may hold anything.
abbrev pub StopsStore : Seen Files → Seen Files → List ℕ → Stop → Type 0
StopsStore old new name ShelfFault = OthersStay old.told new.told name × Rises old.faults new.faults
StopsStore old new name NoMemory = SameShelf old new
StopsStore old new name ReadFault = ⊥
StopsStore old new name WriteFault = ⊥

-- ---- output

-- what a call that writes a text leaves
abbrev pub Writes : {E : Type 0} → Seen (List ℕ) → Seen (List ℕ) → List ℕ → Result (Unit {0}) E
    → Type 0
Writes old new text result =
    MatchResult result (λ done. Takes old new text) (λ failed. FailsIn old new text)

-- Writing was stopped: a front part of the text is written, but not all.
abbrev pub StopsPrint : Seen (List ℕ) → Seen (List ℕ) → List ℕ → Stop → Type 0
StopsPrint old new text WriteFault = FailsIn old new text
StopsPrint old new text NoMemory = AppendsProperPart old.told new.told text
    × (new.faults ≡ old.faults)
StopsPrint old new text ReadFault = ⊥
StopsPrint old new text ShelfFault = ⊥

-- a text is written, or its writing was stopped
abbrev pub Prints : Seen (List ℕ) → Seen (List ℕ) → List ℕ → Result (Unit {0}) Stop → Type 0
Prints old new text result =
    MatchResult result (λ done. Takes old new text) (λ stop. StopsPrint old new text stop)

-- ---- what stays

-- nothing but the shelf, nothing but output, and nothing but error output, may have changed
abbrev pub OnlyShelf : World → World → Type 0
OnlyShelf w v = (v.input ≡ w.input) × (v.out ≡ w.out) × (v.err ≡ w.err)

abbrev pub OnlyOut : World → World → Type 0
OnlyOut w v = SameShelf w.shelf v.shelf × (v.input ≡ w.input) × (v.err ≡ w.err)

abbrev pub OnlyErr : World → World → Type 0
OnlyErr w v = SameShelf w.shelf v.shelf × (v.input ≡ w.input) × (v.out ≡ w.out)

abbrev pub Stays : World → World → Type 0
Stays w v = SameShelf w.shelf v.shelf × OnlyShelf w v
