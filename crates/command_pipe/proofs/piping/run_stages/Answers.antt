use Rattle.std.proofs.Common.{◌≡◌, ◌≤◌, ◌∙◌, ℕ, length, Result, refl, sym, subst, arith}
use Rattle.std.proofs.lemmas.Result.{err_from_is_err_and}
use Rattle.nv_outside.specs.Seen.{input_seen, output_seen}
use Rattle.pipe_net.specs.Histories.{EndsInOrder, EndsSo}
use Rattle.pipe_net.specs.Showing.{IsPipelineOf, stage_count}
use Rattle.pipe_net.specs.declared.net_fault.NetFault.{NetFault}
use Rattle.pipe_net.proofs.Coming.{comes-nowhere}
use Rattle.command_deeds.specs.World.{seen, world}
use Rattle.command_pipe.proofs.DueLemmas.{all-ended, errors-failed, no-memory, turn-failed}
use Rattle.command_pipe.proofs.StageLemmas.{are-fresh, as-many, is-fresh, is-pipeline}
use Rattle.command_pipe.specs.Pipe.{IsDueOfSets, pipeline_for}
use Rattle.command_pipe.specs.Sets.{sets_of}
use Rattle.command_pipe.proofs.piping.run_stages.Goals as goal

pub new-requires-clause-fresh : goal.new-requires-clause-fresh
new-requires-clause-fresh g c = are-fresh c.args.launch.now c.requires.made.0 c.args.stages.items c.requires.made.1

pub returns-in_err-net-clause-comes : goal.returns-in_err-net-clause-comes
returns-in_err-net-clause-comes g c classes are =
    let p = err_from_is_err_and c.from_residual.result c.from_residual.ensures.1 in
    rw (p.1, p.2) (no-memory (IsDueOfSets classes c.args.launch.now (sets_of c.args.stages.items))
    (seen g.H.Shelf g.S.Source g.O.Sink g.E.Sink c.args.outside.now))

pub returns-in-Err-clause-comes : goal.returns-in-Err-clause-comes
returns-in-Err-clause-comes g c classes are =
    let launch = c.args.launch.now in
    let stages = c.args.stages.items in
    let sets = sets_of stages in
    let w = seen g.H.Shelf g.S.Source g.O.Sink g.E.Sink c.args.outside.now in
    let input = input_seen g.S.Source c.run.new.source in
    let out = output_seen g.O.Sink c.run.new.out in
    let p = pipeline_for launch classes sets w.input.told in
    let many = as-many launch classes stages are in
    let some : 1 ≤ length classes = omega (arith, many, c.requires.several) in
    let is : IsPipelineOf stages c.get.result launch.steps p =
    subst (λ (size : ℕ). IsPipelineOf stages size launch.steps p) (sym c.get.ensures.value) (is-pipeline launch classes stages are w.input.told) in
    let started = comes-nowhere p w.input w.out c.in_ok-net.net (is-fresh launch classes stages are w.input.told) refl (c.in_ok-net.ensures.shows p is) in
    let ends = c.run.ensures.ends p w.input w.out (is-fresh launch classes stages are w.input.told) started in
    let stops = subst (λ (r : Result (Unit {0}) NetFault). EndsSo p c.run.new.self w.input input w.out out r) c.in-Err.is ends in
    rw c.ending_of.ensures (turn-failed launch classes sets some w (world w.shelf input out w.err) c.in-Err.fault refl refl stops)

pub returns-in_err-write_errors-clause-comes : goal.returns-in_err-write_errors-clause-comes
returns-in_err-write_errors-clause-comes g c classes are =
    let failed = err_from_is_err_and c.from_residual-in_err-write_errors.result c.from_residual-in_err-write_errors.ensures.1 in
    let launch = c.args.launch.now in
    let stages = c.args.stages.items in
    let sets = sets_of stages in
    let w = seen g.H.Shelf g.S.Source g.O.Sink g.E.Sink c.args.outside.now in
    let input = input_seen g.S.Source c.run.new.source in
    let out = output_seen g.O.Sink c.run.new.out in
    let err = output_seen g.E.Sink c.write_errors.new.err in
    let p = pipeline_for launch classes sets w.input.told in
    let many = as-many launch classes stages are in
    let some : 1 ≤ length classes = omega (arith, many, c.requires.several) in
    let is : IsPipelineOf stages c.get.result launch.steps p =
    subst (λ (size : ℕ). IsPipelineOf stages size launch.steps p) (sym c.get.ensures.value) (is-pipeline launch classes stages are w.input.told) in
    let started = comes-nowhere p w.input w.out c.in_ok-net.net (is-fresh launch classes stages are w.input.told) refl (c.in_ok-net.ensures.shows p is) in
    let ends = c.run.ensures.ends p w.input w.out (is-fresh launch classes stages are w.input.told) started in
    let all : EndsInOrder p c.run.new.self w.input input w.out out =
    subst (λ (r : Result (Unit {0}) NetFault). EndsSo p c.run.new.self w.input input w.out out r) c.in_default.is ends in
    let count : stage_count c.run.new.self ≡ length classes = c.run.ensures.stages ∙ (c.in_ok-net.ensures.stages ∙ many) in
    rw (failed.1, failed.2) (errors-failed launch classes sets some w c.run.new.self input out count all err c.in_err-write_errors.ensures.writes)

pub returns-clause-comes : goal.returns-clause-comes
returns-clause-comes g c classes are =
    let launch = c.args.launch.now in
    let stages = c.args.stages.items in
    let sets = sets_of stages in
    let w = seen g.H.Shelf g.S.Source g.O.Sink g.E.Sink c.args.outside.now in
    let input = input_seen g.S.Source c.run.new.source in
    let out = output_seen g.O.Sink c.run.new.out in
    let err = output_seen g.E.Sink c.write_errors.new.err in
    let p = pipeline_for launch classes sets w.input.told in
    let many = as-many launch classes stages are in
    let some : 1 ≤ length classes = omega (arith, many, c.requires.several) in
    let is : IsPipelineOf stages c.get.result launch.steps p =
    subst (λ (size : ℕ). IsPipelineOf stages size launch.steps p) (sym c.get.ensures.value) (is-pipeline launch classes stages are w.input.told) in
    let started = comes-nowhere p w.input w.out c.in_ok-net.net (is-fresh launch classes stages are w.input.told) refl (c.in_ok-net.ensures.shows p is) in
    let ends = c.run.ensures.ends p w.input w.out (is-fresh launch classes stages are w.input.told) started in
    let all : EndsInOrder p c.run.new.self w.input input w.out out =
    subst (λ (r : Result (Unit {0}) NetFault). EndsSo p c.run.new.self w.input input w.out out r) c.in_default.is ends in
    let count : stage_count c.run.new.self ≡ length classes = c.run.ensures.stages ∙ (c.in_ok-net.ensures.stages ∙ many) in
    all-ended launch classes sets some w c.run.new.self input out count all err c.outcomes.result c.in_ok-write_errors.ensures.writes c.outcomes.ensures
