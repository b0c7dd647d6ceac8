use Rattle.std.proofs.Common.{◌≡◌, ◌≢◌, ◌<◌, refl, ap, sym, ◌∙◌, arith, unwrap_or, option_and_then, None, get_or}
use Rattle.std.proofs.lemmas.List.{get_or-set_other}
use Rattle.block_pool.specs.Blocks.{block_at, next_of}
use Rattle.unix_files.proofs.ChainLemmas.{block_after-start, block_after-next}
use Rattle.unix_files.proofs.chain.release.Goals as goal

pub loop-init : goal.loop-init
loop-init c = record {
  here = sym (block_after-start c.args.pool.now c.args.first);
  sound = c.requires.sound;
  others = λ b h. refl;
  free = omega arith;
}

pub loop-preserved : goal.loop-preserved
loop-preserved c =
    let p = c.args.pool.now in
    let i = c.loop.counter in
    let within : i < c.args.count = omega arith in
    let here : block_at c.loop.pool c.loop.block ≡ block_at p c.loop.block = c.loop.invariant.others c.loop.block (λ k less same.
    let e : k ≡ i = c.requires.once k i (omega arith) within (same ∙ c.loop.invariant.here) in
    absurd (omega arith)) in
    record {
      here = c.unwrap_or-next.ensures ∙ (ap (λ o. unwrap_or o 0) c.next.ensures ∙ (ap (λ o. unwrap_or (option_and_then (λ k. k.next) o) 0) here
          ∙ (ap (λ b. unwrap_or (next_of p b) 0) c.loop.invariant.here ∙ sym (block_after-next p c.args.first i))));
      sound = c.give.ensures.sound;
      others = λ b h.
          let apart : b ≢ c.loop.block = λ e. h i (omega arith) (sym c.loop.invariant.here ∙ sym e) in
          ap (λ l. get_or l b None) c.give.ensures.freed ∙ (get_or-set_other c.loop.pool.blocks c.loop.block b None None apart ∙ c.loop.invariant.others b (λ k less. h k (omega arith)));
      free = let f = c.loop.invariant.free in let g = c.give.ensures.count in omega arith;
    }
