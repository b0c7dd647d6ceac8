use Rattle.std.proofs.Common.{◌∙◌}
use Rattle.unix_files.proofs.ChainLemmas.{near-walk, near-used, mark-walk, mark-used}
use Rattle.unix_files.proofs.chain.Chain.block.Goals as goal

pub walk-requires : goal.walk-requires
walk-requires c = near-used c.args.pool.now c.args.self.now c.args.index c.requires.whole c.if-self-index.true c.requires.within

pub returns-then-mark-self : goal.returns-then-mark-self
returns-then-mark-self c = c.walk.ensures ∙ near-walk c.args.pool.now c.args.self.now c.args.index c.requires.whole c.if-self-index.true

pub walk-requires-else-self-index : goal.walk-requires-else-self-index
walk-requires-else-self-index c = mark-used c.args.pool.now c.args.self.now c.mark_before-mark.result c.args.index c.requires.whole c.mark_before-mark.ensures.within c.mark_before-mark.ensures.before c.requires.within

pub returns-else-self-index : goal.returns-else-self-index
returns-else-self-index c =
    c.walk-else-self-index.ensures
    ∙ mark-walk c.args.pool.now c.args.self.now c.mark_before-mark.result c.args.index c.requires.whole c.mark_before-mark.ensures.within c.mark_before-mark.ensures.before c.requires.within
