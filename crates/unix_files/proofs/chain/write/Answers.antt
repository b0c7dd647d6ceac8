use Rattle.std.proofs.Common.{◌≡◌, ◌/◌, ◌%◌, ◌<◌, ap, sym, ◌∙◌, arith, subst}
use Rattle.block_pool.specs.Blocks.{Pool, IsSound, bytes_of, with_bytes, free_count}
use Rattle.unix_definition.specs.Files.{blocks_for}
use Rattle.unix_files.specs.Stored.{file_bytes, overwritten}
use Rattle.unix_files.proofs.WriteLemmas.{written_pool, changes-written, bytes-written}
use Rattle.unix_files.proofs.chain.write.Goals as goal
use Rattle.unix_files.proofs.chain.write.Goals.{After-copy_in}

-- the place's block is there
inside : (c : After-copy_in) → c.args.at / 4096 < blocks_for c.args.chain.now.size
inside c = let b = c.blocks_for.ensures in let less = c.if-index-blocks_for.true in omega arith

after : (c : After-copy_in) → Pool
after c = written_pool c.args.pool.now c.args.chain.now c.args.at c.args.bytes.now c.requires.sound c.requires.whole (inside c) c.requires.one

pool-is : (c : After-copy_in) → c.copy_in.new.self ≡ after c
unfolding after
pool-is c = c.copy_in.ensures.changed ∙ ap (λ x. with_bytes c.args.pool.now x.near (overwritten (bytes_of c.args.pool.now x.near) (c.args.at % 4096) c.args.bytes.now)) c.look_up.ensures

pub returns-then-index-blocks_for-clause-changes : goal.returns-then-index-blocks_for-clause-changes
unfolding after
returns-then-index-blocks_for-clause-changes c =
    let w = (goal.at.returns-then-index-blocks_for-clause-changes c).After-copy_in in
    let is = pool-is w in
    let sound : IsSound (after w) = subst (λ x. IsSound x) is c.copy_in.ensures.sound in
    let count : free_count (after w) ≡ free_count c.args.pool.now = ap free_count (sym is) ∙ c.copy_in.ensures.count in
    rw (c.greater-chain.ensures, c.look_up.ensures, is) (changes-written c.args.pool.now c.args.chain.now c.args.at c.args.bytes.now c.requires.sound c.requires.whole (inside w) c.requires.one sound count)

pub returns-then-index-blocks_for-clause-bytes : goal.returns-then-index-blocks_for-clause-bytes
unfolding after
returns-then-index-blocks_for-clause-bytes c =
    let w = (goal.at.returns-then-index-blocks_for-clause-bytes c).After-copy_in in
    let is = pool-is w in
    rw (c.greater-chain.ensures, c.look_up.ensures, is) (bytes-written c.args.pool.now c.args.chain.now c.args.at c.args.bytes.now c.requires.sound c.requires.whole (inside w) c.requires.one c.requires.within)

pub add_block-requires-clause-full : goal.add_block-requires-clause-full
add_block-requires-clause-full c = let b = c.blocks_for.ensures in let past = c.if-index-blocks_for.false in let w = c.requires.within in omega arith

pub add_block-requires-clause-room : goal.add_block-requires-clause-room
add_block-requires-clause-room c = let b = c.blocks_for.ensures in let past = c.if-index-blocks_for.false in let w = c.requires.within in let r = c.requires.room in let s = c.requires.some in omega arith

pub returns-else-index-blocks_for-clause-bytes : goal.returns-else-index-blocks_for-clause-bytes
returns-else-index-blocks_for-clause-bytes c =
    let e : c.args.chain.now.size ≡ c.args.at = let b = c.blocks_for.ensures in let past = c.if-index-blocks_for.false in let w = c.requires.within in omega arith in
    c.add_block.ensures.bytes ∙ ap (λ n. overwritten (file_bytes c.args.pool.now c.args.chain.now) n c.args.bytes.now) e
