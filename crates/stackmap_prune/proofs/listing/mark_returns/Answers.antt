use Rattle.std.proofs.Common.{◌≡◌, length, true, ap, ◌∙◌, arith}
use Rattle.std.proofs.lemmas.List.{length-set}
use Rattle.stackmap_prune.proofs.LinkedLaws.{return-marked}
use Rattle.stackmap_prune.proofs.listing.mark_returns.Goals as goal

pub loop-i-preserved : goal.loop-i-preserved
loop-i-preserved c =
    let before = c.loop-i.marks.items in
    let after = c.mark.new.marks.items in
    let size : length after ≡ length before = ap length c.mark.ensures ∙ length-set before _ true in
    record {
      size = size ∙ c.loop-i.invariant.size;
      marks = λ name at inside.
          return-marked name c.args.from c.loop-i.i at c.args.marks.now.items before after inside size c.mark.ensures (c.loop-i.invariant.marks name at (omega (arith, inside, size)));
    }
