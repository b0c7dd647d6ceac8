use Rattle.std.proofs.Common.{Some, ap, sym, ◌∙◌}
use Rattle.block_builder.proofs.BlockLemmas.{find_next}
use Rattle.emit_spans.specs.Pieces.{flagged}
use Rattle.emit_spans.specs.Neighbours.{is_inner}
use Rattle.emit_spans.proofs.NeighbourLemmas.{next_found, next_missing}
use Rattle.emit_spans.proofs.neighbours.next_inner.Goals as goal

pub loop-word-preserved : goal.loop-word-preserved
loop-word-preserved c =
    find_next (is_inner (flagged c.args.leads.now) c.args.span) c.loop-word.word c.args.span.end c.loop-word-test.true
    (sym c.if-is_inner.ensures) ∙ c.loop-word.invariant

pub returns-then-is_inner : goal.returns-then-is_inner
returns-then-is_inner c =
    ap (λ a. Some a) c.address.ensures
    ∙ next_found (is_inner (flagged c.args.leads.now) c.args.span) c.args.span c.args.k c.loop-word.word c.loop-word-test.true
    (sym c.if-is_inner.ensures) c.loop-word.invariant

pub returns : goal.returns
returns c = next_missing (is_inner (flagged c.args.leads.now) c.args.span) c.args.span c.args.k c.loop-word.word c.loop-word-test.false
    c.loop-word.invariant
