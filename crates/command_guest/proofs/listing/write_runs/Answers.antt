use Rattle.std.proofs.lemmas.Result.{err_from_is_err_and}
use Rattle.elf_definition.specs.Start.{image_of}
use Rattle.command_deeds.specs.World.{output_seen}
use Rattle.command_guest.proofs.ListingLemmas.{leads_more, leads_stopped, runs_next}
use Rattle.command_guest.proofs.listing.write_runs.Goals as goal

pub loop-run-preserved : goal.loop-run-preserved
loop-run-preserved g c =
    let next = runs_next (image_of c.args.image.now).code c.args.runs.now c.loop-run.run-index
    (record { first = 0; words = 0 }) c.loop-run-test.true in
    leads_more (output_seen g.O.Sink c.args.out.now) (output_seen g.O.Sink c.loop-run.out)
    (output_seen g.O.Sink c.write_run.new.out) _ _ _ _ next c.loop-run.invariant c.in_ok-write_run.ensures.prints

pub returns-in_err-write_run : goal.returns-in_err-write_run
returns-in_err-write_run g c =
    let p = err_from_is_err_and c.from_residual.result c.from_residual.ensures.1 in
    let next = runs_next (image_of c.args.image.now).code c.args.runs.now c.loop-run.run-index
    (record { first = 0; words = 0 }) c.loop-run-test.true in
    rw (p.1, p.2) (record {
      prints = leads_stopped (output_seen g.O.Sink c.args.out.now) (output_seen g.O.Sink c.loop-run.out)
          (output_seen g.O.Sink c.write_run.new.out) _ _ _ _ c.in_err-write_run.field-0.0 next c.loop-run.invariant c.in_err-write_run.ensures.prints;
    })
