use Rattle.std.proofs.Common.{◌+◌, sym, subst}
use Rattle.elf_definition.specs.Start as start
use Rattle.elf_image_parts.proofs.RunLemmas.{AreRunsBelow, no_runs, run_added, page_passed}
use Rattle.elf_image_parts.proofs.runs.page_runs.Goals as goal

pub loop-page-init : goal.loop-page-init
loop-page-init c =
    let readable = start.readable c.args.image.now in
    let writable = start.writable c.args.image.now in
    subst (λ runs. AreRunsBelow readable writable runs 0) (sym c.new-runs.ensures.items) (no_runs readable writable)

pub loop-page-preserved-in-Continue-1 : goal.loop-page-preserved-in-Continue-1
loop-page-preserved-in-Continue-1 c =
    let readable = start.readable c.args.image.now in
    let writable = start.writable c.args.image.now in
    let run = c.run_at-run.result in
    let told = c.run_at-run.ensures in
    let added = run_added readable writable c.loop-page.runs.items c.loop-page.page run c.loop-page.invariant told.sound told.first told.alike in
    subst (λ runs. AreRunsBelow readable writable runs (c.loop-page.page + run.count)) (sym c.in_ok-push.ensures.items) added

pub loop-page-preserved : goal.loop-page-preserved
loop-page-preserved c =
    page_passed (start.readable c.args.image.now) (start.writable c.args.image.now) c.loop-page.runs.items c.loop-page.page
    c.loop-page.invariant c.loop-page-test.true (sym c.if-readable.ensures)
