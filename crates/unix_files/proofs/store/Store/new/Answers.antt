use Rattle.std.proofs.Common.{◌≡◌, ap, ◌∙◌, map, replicate, List, ℕ, [], refl}
use Rattle.block_pool.specs.Blocks.{free_count}
use Rattle.unix_files.specs.Stored.{empty_chain, chain_at, file_bytes}
use Rattle.unix_files.proofs.LaidLemmas.{IsLaid-empty, empty-replicate, files-replicate, free-untouched}
use Rattle.unix_files.proofs.store.Store.new.Goals as goal

all_empty : (c : goal.In_ok-chains) → c.in_ok-chains.chains.items ≡ replicate 256 empty_chain
all_empty c = c.in_ok-chains.ensures.items_if_clones_equal (λ y same. same) ∙ ap (replicate 256) c.empty.ensures

pub invariant_of-result : goal.invariant_of-result
invariant_of-result c = IsLaid-empty c.in_ok-pool.pool c.in_ok-chains.chains.items c.in_ok-pool.ensures.sound (λ n. ap (λ l. chain_at l n) (all_empty c) ∙ empty-replicate 256 n)

pub returns : goal.returns
returns c =
    let files : map (file_bytes c.in_ok-pool.pool) c.in_ok-chains.chains.items ≡ replicate {A = List ℕ} 256 [] = ap (map (file_bytes c.in_ok-pool.pool)) (all_empty c) ∙ files-replicate c.in_ok-pool.pool 256 in
    let free : free_count c.in_ok-pool.pool ≡ c.args.blocks = ap free_count c.in_ok-pool.ensures.untouched ∙ free-untouched c.args.blocks in
    rw (files, free) refl
