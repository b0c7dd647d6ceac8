-- What a net tells of the model that it shows.
use Rattle.std.proofs.Common.{◌≡◌, ◌<◌, ℕ, not, ◌||◌, nat_le, true, List, length, Option, Some, None, ap, sym, ◌∙◌, arith}
use Rattle.nv_events.specs.Parts.{is_going}
use Rattle.jvm_definition.specs.Step.{Loaded}
use Rattle.jvm_machine.specs.Counting.{count_of}
use Rattle.unix_pipe_laws.specs.Pipelines.{Pipeline, PipeNet, is_over_at}
use Rattle.pipe_net.specs.declared.net.Net.{Net}
use Rattle.pipe_net.specs.declared.stage.Stage.{Stage}
use Rattle.pipe_net.specs.Settling.{over_by}
use Rattle.pipe_net.specs.Moving.{over_in}
use Rattle.pipe_net.specs.Showing.{IsSound, Shows}
use Rattle.pipe_net.proofs.Lists.{found}

-- a stage is over where it is in the model
pub over-shown : (net : Net) (left : List ℕ) (p : Pipeline Loaded) (model : PipeNet Loaded) → Shows net left p model → IsSound net → (j : ℕ) → j < length net.stages.items → is_over_at p model j ≡ over_in net.bound net.stages.items j
over-shown net left p model shows sound j h =
    let s = found net.stages.items j h in
    let pipe = found net.pipes.items j (let k = sound.pipes in omega arith) in
    let sh = shows.stage j s.0 pipe.0 s.1 pipe.1 in
    (λ k. not (is_going (sh.outcome k)) || nat_le (shows.bound_is k) (sh.made k))
    ∙ sym (ap (λ (o : Option Stage). elim o [ None ↦ true | Some z ↦ over_by net.bound z.outcome (count_of z.jvm) ]) s.1)
