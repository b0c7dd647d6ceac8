use Rattle.std.proofs.Common.{◌≡◌, ℕ, List}
use Rattle.nv_outside.specs.Seen.{Seen, input_seen, output_seen}
use Rattle.jvm_definition.specs.Step.{Loaded}
use Rattle.unix_pipe_laws.specs.Pipelines.{Pipeline}
use Rattle.unix_pipe_laws.specs.Alone.{IsFreshPipeline}
use Rattle.pipe_net.specs.Showing.{IsSound, stage_count}
use Rattle.pipe_net.specs.Turning.{turns_left}
use Rattle.pipe_net.specs.Histories.{HasCome}
use Rattle.pipe_net.proofs.net.Net.run.Given as goal

abbrev pub invariant-loop-self : goal.invariant-loop-self
invariant-loop-self g l = record {
  sound : IsSound l.self;
  stages : stage_count l.self ≡ stage_count l.initial.self;
  comes : (p : Pipeline Loaded) (first first_out : Seen (List ℕ)) → IsFreshPipeline p → HasCome p l.initial.self first (input_seen g.S.Source l.initial.source) first_out (output_seen g.O.Sink l.initial.out)
      → HasCome p l.self first (input_seen g.S.Source l.source) first_out (output_seen g.O.Sink l.out);
}

abbrev pub decreases-loop-self : goal.decreases-loop-self
decreases-loop-self g l = turns_left l.self
