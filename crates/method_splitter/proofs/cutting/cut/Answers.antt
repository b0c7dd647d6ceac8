use Rattle.std.proofs.Common.{arith}
use Rattle.method_splitter.proofs.SpanLemmas.{Comes-end, least}
use Rattle.method_splitter.proofs.cutting.cut.Goals as goal

pub returns-clause-cuts : goal.returns-clause-cuts
returns-clause-cuts c = (Comes-end _ _ _ _ c.loop-first.invariant (omega (c.loop-first-test.false, arith))).0

pub returns-clause-fills : goal.returns-clause-fills
returns-clause-fills c = (Comes-end _ _ _ _ c.loop-first.invariant (omega (c.loop-first-test.false, arith))).1

pub returns-clause-least : goal.returns-clause-least
returns-clause-least c =
    let ends = Comes-end _ _ _ _ c.loop-first.invariant (omega (c.loop-first-test.false, arith)) in
    λ others d. least _ _ _ _ ends.0 ends.1 d
