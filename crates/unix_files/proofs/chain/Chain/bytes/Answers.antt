use Rattle.std.proofs.Common.{◌≡◌, ◌*◌, ◌++◌, take, ap, sym, ◌∙◌, arith, unwrap_or}
use Rattle.block_pool.specs.Blocks.{bytes_of, next_of}
use Rattle.unix_files.specs.Stored.{block_in, file_bytes}
use Rattle.unix_files.proofs.ChainLemmas.{block_after-start, block_after-next}
use Rattle.unix_files.proofs.ReadLemmas.{bytes-more, take-next, take-whole}
use Rattle.unix_files.proofs.chain.Chain.bytes.Goals as goal

pub loop-index-init : goal.loop-index-init
loop-index-init c = record { block = sym (block_after-start c.args.pool.now c.args.self.now.first); bytes = c.in_ok-bytes.ensures.items }

pub loop-index-preserved : goal.loop-index-preserved
loop-index-preserved c =
    let p = c.args.pool.now in
    let chain = c.args.self.now in
    let k = c.loop-index.index in
    let m = c.bytes_in.result in
    let here : c.split_at.result.0.now ≡ take m (bytes_of p (block_in p chain k)) = c.split_at.ensures.front ∙ ap (take m) (c.bytes.ensures.value ∙ ap (bytes_of p) c.loop-index.invariant.block) in
    record {
      block = c.unwrap_or-block.ensures ∙ (ap (λ o. unwrap_or o 0) c.next.ensures ∙ (ap (λ b. unwrap_or (next_of p b) 0) c.loop-index.invariant.block ∙ sym (block_after-next p chain.first k)));
      bytes =
          c.in_ok-extend_from_slice.ensures.items
          ∙ (ap (λ l. l ++ c.split_at.result.0.now) c.loop-index.invariant.bytes
          ∙ (ap (λ l. take (4096 * k) (file_bytes p chain) ++ l) here
          ∙ (sym (bytes-more p chain k m (c.requires.sound.sized (block_in p chain k)) c.bytes_in.ensures.within c.bytes_in.ensures.end) ∙ take-next p chain k m c.bytes_in.ensures.within c.bytes_in.ensures.full)));
    }

pub returns : goal.returns
returns c =
    let count = c.blocks_for-index-end.ensures in
    let past = c.loop-index-test.false in
    c.loop-index.invariant.bytes ∙ take-whole c.args.pool.now c.args.self.now (4096 * c.loop-index.index) (omega arith)
