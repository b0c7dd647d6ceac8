-- What a command is to do, deed by deed, and what is left of it where it was stopped.
use Rattle.std.specs.Prelude.{◌≡◌, ◌⊎◌, ℕ, List, [], ◌∷◌, Some, None}
use Rattle.run_definition.specs.declared.io_fault.IoFault.{IoFault}
use Rattle.run_definition.specs.declared.io_fault.IoFault.TheVariants as io
use Rattle.unix_calls.specs.Stages.{ComesTo, LosesRead, Stage, StopsRun}
use Rattle.jvm_definition.specs.Step.{Loaded}
use Rattle.unix_pipe_laws.specs.Pipelines.{Pipeline}
use Rattle.unix_pipe_laws.specs.Stopping.{StopsInTurn}
use Rattle.command_deeds.specs.Stops.{stop_of}
use Rattle.command_deeds.specs.declared.stop.Stop.{Stop}
use Rattle.command_deeds.specs.declared.stop.Stop.TheVariants.{ReadFault, WriteFault, ShelfFault, NoMemory}
use Rattle.command_deeds.specs.World.{FailsIn, OnlyErr, OnlyOut, OnlyShelf, SameShelf, Sets, Stays, StopsPrint, StopsStore, Takes, World, streams_of}

pub data Deed : Type 0 where
  -- memory is taken, and nothing changes
  prepares : Deed
  -- a file is set to these bytes
  stores : List ℕ → List ℕ → Deed
  -- a text is written to output
  prints : List ℕ → Deed
  -- a guest runs for so many turns: after each number of them it stands so
  plays : ℕ → (ℕ → Stage) → Deed
  -- this pipeline runs: its first stage leaves so much of input, and its last one writes this
  pipes : Pipeline Loaded → List ℕ → List ℕ → Deed
  -- a text is written to error output
  tells : List ℕ → Deed

-- A pipeline was stopped in a turn, which works on no file.
abbrev pub StopsPipes : Pipeline Loaded → World → World → Stop → Type 0
StopsPipes p w v ReadFault = StopsInTurn p (Some io.ReadFault) w.input v.input w.out v.out
StopsPipes p w v WriteFault = StopsInTurn p (Some io.WriteFault) w.input v.input w.out v.out
StopsPipes p w v ShelfFault = ⊥
StopsPipes p w v NoMemory = StopsInTurn p None w.input v.input w.out v.out

-- what a deed does
abbrev pub DoesDeed : Deed → World → World → Type 0
DoesDeed prepares w v = Stays w v
DoesDeed (stores name bytes) w v = Sets w.shelf v.shelf name bytes × OnlyShelf w v
DoesDeed (prints text) w v = Takes w.out v.out text × OnlyOut w v
DoesDeed (plays turns stage) w v = SameShelf w.shelf v.shelf
    × ComesTo (stage turns) (streams_of w) (streams_of v)
DoesDeed (pipes p left output) w v = SameShelf w.shelf v.shelf × LosesRead w.input v.input left
    × Takes w.out v.out output
    × (v.err ≡ w.err)
DoesDeed (tells text) w v = Takes w.err v.err text × OnlyErr w v

-- What may stop a deed, and what is done of it then. A guest's run takes no memory.
abbrev pub StopsDeed : Deed → World → World → Stop → Type 0
StopsDeed prepares w v stop = (stop ≡ NoMemory) × Stays w v
StopsDeed (stores name bytes) w v stop = StopsStore w.shelf v.shelf name stop × OnlyShelf w v
StopsDeed (prints text) w v stop = StopsPrint w.out v.out text stop × OnlyOut w v
StopsDeed (plays turns stage) w v stop =
    SameShelf w.shelf v.shelf × ((fault : IoFault) × (stop ≡ stop_of fault)
    × StopsRun turns stage fault (streams_of w) (streams_of v))
StopsDeed (pipes p left output) w v stop = SameShelf w.shelf v.shelf × (v.err ≡ w.err)
    × StopsPipes p w v stop
StopsDeed (tells text) w v stop = (stop ≡ WriteFault) × FailsIn w.err v.err text × OnlyErr w v

-- all deeds are done, one after the other
abbrev pub DoesAll : List Deed → World → World → Type 0
DoesAll [] w v = Stays w v
DoesAll (deed ∷ deeds) w v = (u : World) × DoesDeed deed w u × DoesAll deeds u v

-- the deeds up to one are done, and that one was stopped
abbrev pub StopsIn : List Deed → World → World → Stop → Type 0
StopsIn [] w v stop = ⊥
StopsIn (deed ∷ deeds) w v stop = StopsDeed deed w v stop
    ⊎ ((u : World) × DoesDeed deed w u × StopsIn deeds u v stop)
