use Rattle.std.proofs.Common.{◌≡◌, ◌≤◌, ℕ, List}
use Rattle.nv_outside.specs.Seen.{Seen, input_seen, output_seen}
use Rattle.jvm_definition.specs.Step.{Loaded}
use Rattle.unix_pipe_laws.specs.Pipelines.{Pipeline}
use Rattle.unix_pipe_laws.specs.Alone.{IsFreshPipeline}
use Rattle.pipe_net.specs.Showing.{IsSound, stage_count}
use Rattle.pipe_net.specs.Turning.{turns_left}
use Rattle.pipe_net.specs.Histories.{HasCome}
use Rattle.pipe_net.proofs.RoundLemmas.{NoneRan}
use Rattle.pipe_net.proofs.net.Net.go_round.Given as goal

abbrev pub invariant-loop-i : goal.invariant-loop-i
invariant-loop-i g l =
    let old = l.initial.self in
    let source = input_seen g.S.Source l.source in
    let out = output_seen g.O.Sink l.out in
    record {
      sound : IsSound l.self;
      stages : stage_count l.self ≡ stage_count old;
      few : turns_left l.self ≤ turns_left old;
      none : turns_left l.self ≡ turns_left old → NoneRan old (input_seen g.S.Source l.initial.source) l.self source l.i;
      comes : (p : Pipeline Loaded) (first first_out : Seen (List ℕ)) → IsFreshPipeline p → HasCome p old first (input_seen g.S.Source l.initial.source) first_out (output_seen g.O.Sink l.initial.out) → HasCome p l.self first source first_out out;
    }
