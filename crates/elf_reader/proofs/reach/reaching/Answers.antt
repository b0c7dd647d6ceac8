use Rattle.elf_reader.proofs.SpanLemmas.{reach_more, reach_done, rises_done, filled_done, same_done}
use Rattle.elf_reader.proofs.reach.reaching.Goals as goal

pub loop-s-preserved : goal.loop-s-preserved
loop-s-preserved c =
    reach_more c.loop-s.reaches.items c.push.new.self.items _ c.args.spans.now c.loop-s.furthest c.loop-s.s-index
    c.max-furthest.result (record { first = 0; end = 0 }) c.loop-s-test.true c.loop-s.invariant
    c.max-furthest.ensures c.in_ok-push.ensures.items

pub returns-clause-rise : goal.returns-clause-rise
returns-clause-rise c =
    rises_done _ c.args.spans.now
    (reach_done _ _ c.args.spans.now c.loop-s.furthest c.loop-s.s-index c.loop-s-test.false c.loop-s.invariant) c.requires

pub returns-clause-same : goal.returns-clause-same
returns-clause-same c = λ first behind some.
    same_done _ c.args.spans.now first behind
    (reach_done _ _ c.args.spans.now c.loop-s.furthest c.loop-s.s-index c.loop-s-test.false c.loop-s.invariant) c.requires some

pub returns-clause-filled : goal.returns-clause-filled
returns-clause-filled c = λ filled.
    filled_done _ c.args.spans.now
    (reach_done _ _ c.args.spans.now c.loop-s.furthest c.loop-s.s-index c.loop-s-test.false c.loop-s.invariant) filled
