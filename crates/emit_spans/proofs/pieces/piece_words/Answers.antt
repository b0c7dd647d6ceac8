use Rattle.std.proofs.Common.{◌≡◌, ◌+◌, ◌-◌, ◌∙◌, ap, min, arith}
use Rattle.block_builder.specs.Leaders.{words_of}
use Rattle.block_builder.specs.Blocks.{unit_at}
use Rattle.emit_spans.specs.Pieces.{flagged}
use Rattle.emit_spans.proofs.PieceLemmas.{cut_words, end_behind}
use Rattle.emit_spans.proofs.pieces.piece_words.Goals as goal

pub returns-clause-value : goal.returns-clause-value
returns-clause-value c =
    let units = c.args.units.now in
    let leads = flagged c.args.leads.now in
    let last = c.last_word-last.result in
    let k = c.args.k in
    let end = c.args.span.end in
    let words : c.words_of.result ≡ words_of (unit_at units last) = c.words_of.ensures
    ∙ ap words_of c.at.ensures in
    let least : c.min.result ≡ min (last - k + words_of (unit_at units last)) (end - k) = omega (arith, c.min.ensures, words) in
    least
    ∙ cut_words units leads k last end c.last_word-last.ensures.from c.last_word-last.ensures.within c.last_word-last.ensures.value
    (end_behind units leads k (omega arith))
