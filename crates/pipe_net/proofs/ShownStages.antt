-- How the stages of a net ended, by the model that it shows.
use Rattle.std.proofs.Common.{◌≡◌, ℕ, List, Some, ap, sym, arith}
use Rattle.std.specs.Prelude.{slice_get}
use Rattle.std.proofs.lemmas.Option.{slice_get_within}
use Rattle.unix_definition.specs.System.{System}
use Rattle.jvm_definition.specs.Step.{Loaded}
use Rattle.unix_pipe_laws.specs.Pipelines.{Pipeline, PipeNet}
use Rattle.pipe_net.specs.declared.net.Net.{Net}
use Rattle.pipe_net.specs.declared.stage.Stage.{Stage}
use Rattle.pipe_net.specs.Showing.{IsSound, Shows}
use Rattle.pipe_net.proofs.Lists.{found}

module _ (net : Net) (left : List ℕ) (p : Pipeline Loaded) (model : PipeNet Loaded) (shows : Shows net left p model) (sound : IsSound net) (i : ℕ) (x : Stage) (is : slice_get net.stages.items i ≡ Some x) where
  pub outcome-shown : x.outcome ≡ (model.stage i).outcome
  outcome-shown =
      let within = slice_get_within net.stages.items i x is in
      let pipe = found net.pipes.items i (let k = sound.pipes in omega (arith, within)) in
      sym (shows.stage i x pipe.0 is pipe.1).outcome

  pub errors-shown : x.errors.bytes.items ≡ (model.stage i).system.console.error_output
  errors-shown =
      let within = slice_get_within net.stages.items i x is in
      let pipe = found net.pipes.items i (let k = sound.pipes in omega (arith, within)) in
      sym (ap (λ (k : System). k.console.error_output) (shows.stage i x pipe.0 is pipe.1).system)
