use Rattle.std.proofs.Common.{◌∙◌, sym, ap, unwrap_or}
use Rattle.block_pool.specs.Blocks.{next_of}
use Rattle.unix_files.proofs.ChainLemmas.{block_after-start, block_after-next}
use Rattle.unix_files.proofs.chain.walk.Goals as goal

pub loop-init : goal.loop-init
loop-init c = sym (block_after-start c.args.pool.now c.args.from)

pub loop-preserved : goal.loop-preserved
loop-preserved c =
    c.unwrap_or-block.ensures
    ∙ (ap (λ o. unwrap_or o 0) c.next.ensures ∙ (ap (λ b. unwrap_or (next_of c.args.pool.now b) 0) c.loop.invariant ∙ sym (block_after-next c.args.pool.now c.args.from c.loop.counter)))
