use Rattle.std.proofs.Common.{◌≡◌, ◌+◌, ◌-◌, sym, arith, subst}
use Rattle.block_pool.specs.Blocks.{IsUsed, free_count}
use Rattle.unix_files.specs.Stored.{blocks_in}
use Rattle.unix_files.proofs.AppendLemmas.{Taken, taken, Appended, appended, begun-changes, begun-bytes, longer-changes, longer-bytes}
use Rattle.unix_files.proofs.chain.add_block.Goals as goal
use Rattle.unix_files.proofs.chain.add_block.Goals.{After-copy_in, After-set_next}

is-taken : (c : After-copy_in) → Taken c.args.pool.now c.copy_in.new.self c.in-Ok.block c.args.bytes.now
is-taken c = rw c.copy_in.ensures.changed (taken c.args.pool.now c.take.new.self c.in-Ok.block c.args.bytes.now c.in-Ok.ensures.zeroed c.in-Ok.ensures.was_free)

free : (c : After-copy_in) → free_count c.copy_in.new.self + 1 ≡ free_count c.args.pool.now
free c = let a = c.copy_in.ensures.count in let b = c.in-Ok.ensures.count in omega arith

is-appended : (c : After-set_next) → Taken c.args.pool.now c.copy_in.new.self c.in-Ok.block c.args.bytes.now → Appended c.args.pool.now c.set_next.new.self c.args.chain.now.last c.in-Ok.block c.args.bytes.now
is-appended c t =
    let used : IsUsed c.args.pool.now c.args.chain.now.last = subst (λ b. IsUsed c.args.pool.now b) (sym (c.requires.whole.last (omega arith))) (c.requires.whole.used (blocks_in c.args.chain.now - 1) (omega arith)) in
    rw c.set_next.ensures.changed (appended c.args.pool.now c.copy_in.new.self c.args.chain.now.last c.in-Ok.block c.args.bytes.now t used)

pub returns-then-chain-eq0-clause-changes : goal.returns-then-chain-eq0-clause-changes
returns-then-chain-eq0-clause-changes c =
    rw c.begun.ensures (begun-changes c.args.pool.now c.copy_in.new.self c.args.chain.now c.in-Ok.block c.args.bytes.now (is-taken (goal.at.returns-then-chain-eq0-clause-changes c).After-copy_in) c.if-chain-eq0.true c.requires.some c.requires.one c.copy_in.ensures.sound (free (goal.at.returns-then-chain-eq0-clause-changes c).After-copy_in))

pub returns-then-chain-eq0-clause-bytes : goal.returns-then-chain-eq0-clause-bytes
returns-then-chain-eq0-clause-bytes c =
    rw c.begun.ensures (begun-bytes c.args.pool.now c.copy_in.new.self c.args.chain.now c.in-Ok.block c.args.bytes.now (is-taken (goal.at.returns-then-chain-eq0-clause-bytes c).After-copy_in) c.if-chain-eq0.true c.requires.some c.requires.one)

pub returns-clause-changes : goal.returns-clause-changes
returns-clause-changes c =
    let count : free_count c.set_next.new.self + 1 ≡ free_count c.args.pool.now = let a = c.set_next.ensures.count in let b = free (goal.at.returns-clause-changes c).After-copy_in in omega arith in
    rw c.mark.ensures (longer-changes c.args.pool.now c.set_next.new.self c.args.chain.now c.in-Ok.block c.args.bytes.now c.requires.whole (is-appended (goal.at.returns-clause-changes c).After-set_next (is-taken (goal.at.returns-clause-changes c).After-copy_in)) (omega arith) c.requires.full c.requires.some c.requires.one c.set_next.ensures.sound count)

pub returns-clause-bytes : goal.returns-clause-bytes
returns-clause-bytes c =
    rw c.mark.ensures (longer-bytes c.args.pool.now c.set_next.new.self c.args.chain.now c.in-Ok.block c.args.bytes.now c.requires.whole (is-appended (goal.at.returns-clause-bytes c).After-set_next (is-taken (goal.at.returns-clause-bytes c).After-copy_in)) (omega arith) c.requires.full c.requires.some c.requires.one)
