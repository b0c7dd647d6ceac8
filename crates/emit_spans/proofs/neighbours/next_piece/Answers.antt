use Rattle.std.proofs.Common.{Some, ap, sym, ◌∙◌}
use Rattle.block_builder.proofs.BlockLemmas.{find_next}
use Rattle.emit_spans.specs.Pieces.{flagged}
use Rattle.emit_spans.specs.Pieces.{begins}
use Rattle.emit_spans.proofs.NeighbourLemmas.{next_found, next_missing}
use Rattle.emit_spans.proofs.neighbours.next_piece.Goals as goal

pub loop-next-preserved : goal.loop-next-preserved
loop-next-preserved c =
    find_next (begins (flagged c.args.leads.now) c.args.span) c.loop-next.next c.args.span.end c.loop-next-test.true
    (sym c.if-begins.ensures) ∙ c.loop-next.invariant

pub returns-then-begins : goal.returns-then-begins
returns-then-begins c =
    ap (λ a. Some a) c.address.ensures
    ∙ next_found (begins (flagged c.args.leads.now) c.args.span) c.args.span c.args.k c.loop-next.next c.loop-next-test.true
    (sym c.if-begins.ensures) c.loop-next.invariant

pub returns : goal.returns
returns c = next_missing (begins (flagged c.args.leads.now) c.args.span) c.args.span c.args.k c.loop-next.next c.loop-next-test.false
    c.loop-next.invariant
