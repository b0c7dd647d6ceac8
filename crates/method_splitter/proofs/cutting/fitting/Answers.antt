use Rattle.std.proofs.Common.{◌+◌, ◌<◌, sym, arith}
use Rattle.method_splitter.proofs.SpanLemmas.{one_more, none_weighs, not_first, some_fits}
use Rattle.method_splitter.proofs.cutting.fitting.Goals as goal

pub loop-words-init : goal.loop-words-init
loop-words-init c = (omega arith, none_weighs, some_fits c.args.weights.now c.args.limit c.requires.some c.requires.each_fits)

pub returns-then-more-from-clause-some : goal.returns-then-more-from-clause-some
returns-then-more-from-clause-some c =
    let over : c.args.limit < c.loop-words.bytes + 4 + c.from.result = rw (sym c.from-in-loop-words.ensures) c.if-more-from.true in
    not_first _ _ _ _ _ c.requires.each_fits c.loop-words-test.true c.loop-words.invariant.1 c.from.ensures over

pub returns-then-more-from-clause-full : goal.returns-then-more-from-clause-full
returns-then-more-from-clause-full c =
    let next = one_more c.args.weights.now c.loop-words.words 0 c.loop-words-test.true in
    λ more. omega (next, c.loop-words.invariant.1, c.from.ensures, c.from-in-loop-words.ensures, c.if-more-from.true, arith)

pub loop-words-preserved : goal.loop-words-preserved
loop-words-preserved c =
    let next = one_more c.args.weights.now c.loop-words.words 0 c.loop-words-test.true in
    (omega (c.loop-words-test.true, arith), omega (next, c.loop-words.invariant.1, c.from.ensures, arith), omega (c.if-more-from.false, c.from-in-loop-words.ensures, arith))
