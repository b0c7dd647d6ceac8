use Rattle.std.proofs.Common.{◌≡◌, ◌≢◌, ℕ, ◌+◌, ◌-◌, ◌<◌, refl, ap, sym, ◌∙◌, arith}
use Rattle.block_pool.specs.Blocks.{block_at, free_count}
use Rattle.unix_definition.specs.Files.{blocks_for}
use Rattle.unix_files.specs.Stored.{block_after, block_in, blocks_in}
use Rattle.unix_files.proofs.CutLemmas.{take-bytes, released-used, released-once, cut-changes, cut-bytes}
use Rattle.unix_files.proofs.chain.shorten.Goals as goal
use Rattle.unix_files.proofs.chain.shorten.Goals.{then-kept-eq0, else-kept-eq0, After-block-first, After-release}

pub returns-then-surplus-eq0-clause-bytes : goal.returns-then-surplus-eq0-clause-bytes
returns-then-surplus-eq0-clause-bytes c = take-bytes c.args.pool.now c.args.chain.now _ refl c.requires.fewer

fewer : (c : After-block-first) → blocks_for c.args.size < blocks_in c.args.chain.now
fewer c = let a = c.blocks_for-kept.ensures in let b = c.blocks_for.ensures in omega arith

pub release-requires-clause-used : goal.release-requires-clause-used
release-requires-clause-used c = rw (c.blocks_for.ensures, c.block-first.ensures, c.blocks_for-kept.ensures) (released-used c.args.pool.now c.args.chain.now c.args.size c.requires.whole (fewer (goal.at.release-requires-clause-used c).After-block-first))

pub release-requires-clause-once : goal.release-requires-clause-once
release-requires-clause-once c = rw (c.blocks_for.ensures, c.block-first.ensures, c.blocks_for-kept.ensures) (released-once c.args.pool.now c.args.chain.now c.args.size c.requires.whole (fewer (goal.at.release-requires-clause-once c).After-block-first))

end : (c : After-release) → 0 < blocks_for c.args.size → c.if-kept-eq0.last ≡ block_in c.args.pool.now c.args.chain.now (blocks_for c.args.size - 1)
end c some = elim c.if-kept-eq0.branch [
  | then-kept-eq0 w ↦ let a = c.blocks_for-kept.ensures in absurd (omega arith)
  | else-kept-eq0 w ↦ w.last-is ∙ (w.block-last.ensures ∙ ap (λ k. block_in c.args.pool.now c.args.chain.now (k - 1)) c.blocks_for-kept.ensures)
]

others : (c : After-release) (b : ℕ) → ((k : ℕ) → k < blocks_in c.args.chain.now - blocks_for c.args.size → block_after c.args.pool.now (block_in c.args.pool.now c.args.chain.now (blocks_for c.args.size)) k ≢ b) → block_at c.release.new.pool b ≡ block_at c.args.pool.now b
others c b h = c.release.ensures.others b (λ k less same.
    let first : c.block-first.result ≡ block_in c.args.pool.now c.args.chain.now (blocks_for c.args.size) = c.block-first.ensures ∙ ap (block_in c.args.pool.now c.args.chain.now) c.blocks_for-kept.ensures in
    let a = c.blocks_for-kept.ensures in
    let b = c.blocks_for.ensures in
    h k (omega arith) (ap (λ f. block_after c.args.pool.now f k) (sym first) ∙ same))

pub returns-clause-changes : goal.returns-clause-changes
returns-clause-changes c =
    let free : free_count c.release.new.pool ≡ free_count c.args.pool.now + (blocks_in c.args.chain.now - blocks_for c.args.size) = let a = c.blocks_for-kept.ensures in let b = c.blocks_for.ensures in let f = c.release.ensures.free in omega arith in
    cut-changes c.args.pool.now c.release.new.pool c.args.chain.now c.args.size c.if-kept-eq0.last c.requires.whole (fewer (goal.at.returns-clause-changes c).After-block-first) (end (goal.at.returns-clause-changes c).After-release) (others (goal.at.returns-clause-changes c).After-release) c.release.ensures.sound free

pub returns-clause-bytes : goal.returns-clause-bytes
returns-clause-bytes c =
    cut-bytes c.args.pool.now c.release.new.pool c.args.chain.now c.args.size c.if-kept-eq0.last c.requires.whole (fewer (goal.at.returns-clause-bytes c).After-block-first) (end (goal.at.returns-clause-bytes c).After-release) (others (goal.at.returns-clause-bytes c).After-release) c.requires.fewer
