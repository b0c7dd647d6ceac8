use Rattle.std.proofs.Common.{◌≡◌, [], length, drop, drop_of_length-le, arith}
use Rattle.std.proofs.lemmas.List.{length-map}
use Rattle.std.proofs.lemmas.Result.{err_from_is_err_and}
use Rattle.pipe_net.specs.Turning.{errors_of}
use Rattle.pipe_net.specs.declared.stage.Stage.{Stage}
use Rattle.command_deeds.specs.World.{output_seen}
use Rattle.command_deeds.proofs.PieceLemmas.{Joins-more, Joins-part}
use Rattle.command_pipe.proofs.DueLemmas.{all-joined, nothing-joined}
use Rattle.command_pipe.proofs.ListLemmas.{drop-at}
use Rattle.command_pipe.proofs.piping.write_errors.Goals as goal

pub loop-i-init : goal.loop-i-init
loop-i-init g c = nothing-joined (output_seen g.E.Sink c.args.err.now) (errors_of c.args.net.now)

pub loop-i-preserved : goal.loop-i-preserved
loop-i-preserved g c =
    let all = errors_of c.args.net.now in
    let many : length all ≡ length c.args.net.now.stages.items = length-map c.args.net.now.stages.items (λ (x : Stage). x.errors.bytes.items) in
    let split = drop-at all c.loop-i.i c.errors.result.now (omega (arith, many, c.requires.all, c.loop-i-test.true)) c.errors.ensures.at in
    Joins-more _ _ _ _ _ _ (rw split at c.loop-i.invariant) c.in_ok-write_text.ensures.writes

pub returns-in_err-write_text : goal.returns-in_err-write_text
returns-in_err-write_text g c =
    let p = err_from_is_err_and c.from_residual.result c.from_residual.ensures.1 in
    let all = errors_of c.args.net.now in
    let many : length all ≡ length c.args.net.now.stages.items = length-map c.args.net.now.stages.items (λ (x : Stage). x.errors.bytes.items) in
    let split = drop-at all c.loop-i.i c.errors.result.now (omega (arith, many, c.requires.all, c.loop-i-test.true)) c.errors.ensures.at in
    rw (p.1) (record { writes = Joins-part _ _ _ _ _ _ (rw split at c.loop-i.invariant) c.in_err-write_text.ensures.writes })

pub returns : goal.returns
returns g c =
    let all = errors_of c.args.net.now in
    let many : length all ≡ length c.args.net.now.stages.items = length-map c.args.net.now.stages.items (λ (x : Stage). x.errors.bytes.items) in
    let none : drop c.loop-i.i all ≡ [] = drop_of_length-le all (omega (arith, many, c.requires.all)) in
    record {
      writes = all-joined (output_seen g.E.Sink c.args.err.now) (output_seen g.E.Sink c.loop-i.err) all (drop c.loop-i.i all) none c.loop-i.invariant;
    }
