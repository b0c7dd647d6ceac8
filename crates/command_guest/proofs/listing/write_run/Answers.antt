use Rattle.std.proofs.lemmas.Result.{err_from_is_err_and}
use Rattle.elf_definition.specs.Start.{image_of}
use Rattle.command_deeds.specs.World.{output_seen}
use Rattle.command_guest.proofs.ListingLemmas.{leads_more, leads_stopped, run_next}
use Rattle.command_guest.proofs.listing.write_run.Goals as goal

pub returns-in_err-write_at : goal.returns-in_err-write_at
returns-in_err-write_at g c =
    let p = err_from_is_err_and c.from_residual.result c.from_residual.ensures.1 in
    let next = run_next (image_of c.args.image.now).code c.loop.at c.args.run.words c.loop.counter c.loop-test.true in
    rw (p.1, p.2) (record {
      prints = leads_stopped (output_seen g.O.Sink c.args.out.now) (output_seen g.O.Sink c.loop.out)
          (output_seen g.O.Sink c.write_at.new.out) _ _ _ _ c.in_err-write_at.field-0.0 next c.loop.invariant c.in_err-write_at.ensures.prints;
    })

pub loop-preserved : goal.loop-preserved
loop-preserved g c =
    let next = run_next (image_of c.args.image.now).code c.loop.at c.args.run.words c.loop.counter c.loop-test.true in
    leads_more (output_seen g.O.Sink c.args.out.now) (output_seen g.O.Sink c.loop.out)
    (output_seen g.O.Sink c.write_at.new.out) _ _ _ _ next c.loop.invariant c.in_ok-write_at.ensures.prints
