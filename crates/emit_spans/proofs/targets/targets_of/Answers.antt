use Rattle.std.proofs.Common.{◌+◌}
use Rattle.emit_spans.specs.Pieces.{flagged, words_before}
use Rattle.emit_spans.specs.Laying.{entry_at}
use Rattle.emit_spans.proofs.BodyLemmas.{words-more, pushed}
use Rattle.emit_spans.proofs.targets.targets_of.Goals as goal

pub loop-k-preserved : goal.loop-k-preserved
loop-k-preserved c =
    let span = c.args.span in
    let k = c.loop-k.k in
    pushed (entry_at c.args.units.now (flagged c.args.leads.now) span) (words_before span k) (words_before span (k + 1)) k _ _ _
    (words-more span k c.loop-k.auto.k) c.target_of.ensures c.loop-k.invariant c.in_ok-push.ensures.items
