-- What holds of every list of turns of a net, by what each of them ensures.
use Rattle.std.specs.Prelude.{◌≡◌, ◌≤◌, ◌<◌, ℕ, List, [], ◌∷◌}
use Rattle.nv_outside.specs.Seen.{Seen}
use Rattle.unix_calls.specs.Drawing.{known}
use Rattle.jvm_definition.specs.Step.{Loaded}
use Rattle.unix_pipe_laws.specs.Pipelines.{Pipeline, PipeNet}
use Rattle.unix_pipe_laws.specs.Turns.{net_at_start}
use Rattle.unix_pipe_laws.specs.Alone.{IsFreshPipeline}
use Rattle.pipe_net.specs.declared.net.Net.{Net}
use Rattle.pipe_net.specs.declared.turn.Turn.{Turn}
use Rattle.pipe_net.specs.declared.turn.Turn.TheVariants.{Ran}
use Rattle.pipe_net.specs.Showing.{IsSound, Shows, stage_count}
use Rattle.pipe_net.specs.Turning.{MakesTurns, SameFaults}
use Rattle.pipe_net.specs.Histories.{AllAreOver, EndsInOrder}

-- a net between its source and its sink
pub record Moment : Type 0 where
  pub net : Net
  pub source : Seen (List ℕ)
  pub sink : Seen (List ℕ)

-- a turn: of which stage, of how many instructions at most, what it came to, and what it left
pub record MadeTurn : Type 0 where
  pub stage : ℕ
  pub most : ℕ
  pub turn : Turn
  pub after : Moment

-- It was made from there, by all that a turn of a net ensures.
pub record IsTurnFrom (x : Moment) (t : MadeTurn) : Type 0 where
  pub gives : (p : Pipeline Loaded) (model : PipeNet Loaded)
      → Shows x.net (known x.source.told) p model
      → MakesTurns p model t.stage t.most t.turn t.after.net x.source t.after.source x.sink
      t.after.sink
  pub counts : SameFaults x.source t.after.source x.sink t.after.sink
  pub sound : IsSound t.after.net

-- turns one behind the other
abbrev pub AreTurnsFrom : Moment → List MadeTurn → Type 0
AreTurnsFrom x [] = Unit {0}
AreTurnsFrom x (t ∷ turns) = IsTurnFrom x t × AreTurnsFrom t.after turns

abbrev pub moment_behind : Moment → List MadeTurn → Moment
moment_behind x [] = x
moment_behind x (t ∷ turns) = moment_behind t.after turns

-- a net as it was made, before its first turn
pub record IsStartOf (p : Pipeline Loaded) (x : Moment) : Type 0 where
  pub fresh : IsFreshPipeline p
  pub input : p.input ≡ known x.source.told
  pub shows : Shows x.net p.input p (net_at_start p)
  pub sound : IsSound x.net
  pub some : 1 ≤ p.count

-- Whatever turns are made, none of which fails: if all stages are over behind them, they have ended as one after the other.
abbrev pub TurnsEndInOrder : Pipeline Loaded → Moment → List MadeTurn → Type 0
TurnsEndInOrder p x turns = IsStartOf p x → AreTurnsFrom x turns
    → AllAreOver (moment_behind x turns).net
    → EndsInOrder p (moment_behind x turns).net x.source (moment_behind x turns).source x.sink
    (moment_behind x turns).sink

-- there is a stage each of whose turns from there executes an instruction, unless it fails
abbrev pub SomeStageRuns : Moment → Type 0
SomeStageRuns x = (i : ℕ) × (i < stage_count x.net)
    × ((t : MadeTurn) → t.stage ≡ i → IsTurnFrom x t → (k : ℕ) × (t.turn ≡ Ran k))
