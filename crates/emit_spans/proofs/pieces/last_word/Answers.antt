use Rattle.std.proofs.Common.{◌≡◌, ◌||◌, ◌==◌, ◌+◌, false, true, sym, ◌∙◌, arith, rules}
use Rattle.emit_spans.specs.Pieces.{flagged}
use Rattle.block_builder.specs.Blocks.{ends}
use Rattle.block_builder.proofs.BlockLemmas.{find_next}
use Rattle.emit_spans.proofs.PieceLemmas.{goes_on, ends_there, end_same}
use Rattle.emit_spans.proofs.pieces.last_word.Goals as goal

pub loop-span-preserved : goal.loop-span-preserved
loop-span-preserved c =
    let units = c.args.units.now in
    let leads = flagged c.args.leads.now in
    let last = c.loop-span.last in
    let on : (last + 1 == c.args.span.end || ends units leads last) ≡ false = sym c.is_last.ensures ∙ search rules in
    let more = goes_on units leads last c.args.span.end c.loop-span.invariant.within on in
    record {
      from = omega (arith, c.loop-span.invariant.from);
      within = more.0;
      same = find_next (ends units leads) last _ (omega arith) more.1 ∙ c.loop-span.invariant.same;
    }

pub returns-clause-value : goal.returns-clause-value
returns-clause-value c =
    let units = c.args.units.now in
    let leads = flagged c.args.leads.now in
    let last = c.loop-span.last in
    let there : (last + 1 == c.args.span.end || ends units leads last) ≡ true = sym c.is_last.ensures ∙ search rules in
    let same = end_same units leads c.args.k last c.loop-span.invariant.from (omega arith) c.loop-span.invariant.same in
    omega (arith, ends_there units leads last c.args.span.end c.loop-span.invariant.within c.requires.ends_within there, same)
