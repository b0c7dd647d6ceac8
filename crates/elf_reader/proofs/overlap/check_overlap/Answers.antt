use Rattle.std.proofs.Common.{◌∙◌, sym, arith}
use Rattle.elf_reader.proofs.OverlapLemmas.{overlap_counted-at, overlap_from-found, overlap_from-next}
use Rattle.elf_reader.proofs.overlap.check_overlap.Goals as goal

pub first_overlapping-requires-clause-counted : goal.first_overlapping-requires-clause-counted
first_overlapping-requires-clause-counted c = λ alive.
    overlap_counted-at c.args.headers.now c.split_at.result.1.now c.loop-i.i _
    c.in_ok-firsts.firsts.items c.in_ok-ends.ends.items c.as_slice.result.now c.as_slice-in-loop-i.result.now
    (omega arith) c.split_at.ensures.back c.as_slice.ensures.value c.as_slice-in-loop-i.ensures.value
    c.in_ok-firsts.ensures.same c.in_ok-ends.ensures.same alive

pub returns-in-Some : goal.returns-in-Some
returns-in-Some c =
    sym (c.loop-i.invariant
    ∙ overlap_from-found c.args.headers.now c.split_at.result.1.now c.loop-i.i c.in-Some.k _ (omega arith)
    c.split_at.ensures.back c.in-Some.ensures.first)

pub loop-i-preserved : goal.loop-i-preserved
loop-i-preserved c =
    c.loop-i.invariant
    ∙ overlap_from-next c.args.headers.now c.split_at.result.1.now c.loop-i.i _ (omega arith)
    c.split_at.ensures.back c.in_default.ensures.first
