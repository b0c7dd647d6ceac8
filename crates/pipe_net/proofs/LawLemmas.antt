-- Of lists of turns, and of a turn that runs.
use Rattle.std.proofs.Common.{◌<◌, List, [], ◌∷◌, length, ap, ◌∙◌, arith}
use Rattle.unix_calls.specs.Drawing.{known}
use Rattle.jvm_definition.specs.Step.{Loaded}
use Rattle.unix_pipe_laws.specs.Pipelines.{Pipeline, can_turn}
use Rattle.unix_pipe_laws.proofs.Progress.{some-turns}
use Rattle.unix_pipe_laws.proofs.Turning.{can}
use Rattle.pipe_net.specs.Showing.{IsSound}
use Rattle.pipe_net.specs.Histories.{HasCome, SomeGoesOn, model_of}
use Rattle.pipe_net.specs.Laws.{AreTurnsFrom, MadeTurn, Moment, SomeStageRuns, TurnsEndInOrder, moment_behind}
use Rattle.pipe_net.proofs.Coming.{comes-nowhere, comes-on, ends-in-order}
use Rattle.pipe_net.proofs.RoundLemmas.{any-shows, any_model, any_pipeline, ran-if-can}
use Rattle.pipe_net.proofs.Shown.{over-shown}

-- what a net has come to, from the first moment to another
abbrev Came : Pipeline Loaded → Moment → Moment → Type 0
Came p first x = HasCome p x.net first.source x.source first.sink x.sink

comes-all : (p : Pipeline Loaded) (first x : Moment) (turns : List MadeTurn) → Came p first x → AreTurnsFrom x turns → Came p first (moment_behind x turns)
comes-all p first x [] came are = came
comes-all p first x (t ∷ turns) came are =
    comes-all p first t.after turns
    (comes-on p first.source first.sink x.net x.source x.sink came t.stage t.most t.turn t.after.net t.after.source t.after.sink (are.0.gives p (model_of p came.turns) came.shows) are.0.counts) are.1

sound-all : (x : Moment) (turns : List MadeTurn) → IsSound x.net → AreTurnsFrom x turns → IsSound (moment_behind x turns).net
sound-all x [] sound are = sound
sound-all x (t ∷ turns) sound are = sound-all t.after turns are.0.sound are.1

pub end-in-order : (p : Pipeline Loaded) (x : Moment) (turns : List MadeTurn) → TurnsEndInOrder p x turns
end-in-order p x turns start are over =
    let last = moment_behind x turns in
    let came = comes-all p x x turns (comes-nowhere p x.source x.sink x.net start.fresh start.input start.shows) are in
    ends-in-order p x.source x.sink last.net last.source last.sink came start.fresh (sound-all x turns start.sound are) over start.some

pub stage-runs : (x : Moment) → IsSound x.net → SomeGoesOn x.net → SomeStageRuns x
stage-runs x sound going =
    let some : 0 < length x.net.stages.items = (let h = going.1 in omega arith) in
    let left = known x.source.told in
    let p = any_pipeline x.net left sound some in
    let model = any_model x.net left sound some in
    let shows = any-shows x.net left sound some in
    let turns = some-turns p model going.0 going.1 (over-shown x.net left p model shows sound going.0 going.1 ∙ going.2) in (
      turns.0,
      (can p model turns.0 turns.1).within,
      λ t at is. ran-if-can p model t.stage t.most t.after.net x.source t.after.source x.sink t.after.sink t.turn (is.gives p model shows) (ap (can_turn p model) at ∙ turns.1),
    )
