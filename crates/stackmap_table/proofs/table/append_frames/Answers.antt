use Rattle.std.proofs.Common.{ap, ◌∙◌}
use Rattle.stackmap_table.specs.Shortest.{trimmed_locals}
use Rattle.stackmap_table.proofs.WrittenLaws.{next-tabled, next-writing, all-written, first-writing}
use Rattle.stackmap_table.proofs.table.append_frames.Goals as goal

pub loop-next-init : goal.loop-next-init
loop-next-init c = first-writing c.args.pool.now c.args.parameters.now c.args.listed.now c.args.bytes.now.items c.requires.tabled

pub append_next-requires-clause-tabled : goal.append_next-requires-clause-tabled
append_next-requires-clause-tabled c =
    let a = c.args in
    let l = c.loop-next in
    (next-tabled a.pool.now a.parameters.now a.listed.now a.bytes.now.items l.last l.before.now l.rest.now c.in-Some.others.now c.in-Some.next.now l.bytes.items c.in-Some.ensures.cases.0 l.invariant).0

pub loop-next-preserved : goal.loop-next-preserved
loop-next-preserved c =
    let a = c.args in
    let l = c.loop-next in
    next-writing a.pool.now a.parameters.now a.listed.now a.bytes.now.items l.last l.before.now l.rest.now c.in-Some.others.now c.in-Some.next.now l.bytes.items c.in-Some.ensures.cases.0 l.invariant
    c.trimmed-locals.result.now c.append_next.new.bytes.items (c.trimmed-locals.ensures ∙ ap trimmed_locals c.as_slice.ensures) c.in_ok-append_next.ensures

pub returns : goal.returns
returns c =
    let a = c.args in
    let l = c.loop-next in
    all-written a.pool.now a.parameters.now a.listed.now a.bytes.now.items l.last l.before.now l.rest.now l.bytes.items c.in_default.ensures.cases l.invariant
