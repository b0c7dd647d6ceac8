use Rattle.std.proofs.Common.{◌∙◌, refl, get_or}
use Rattle.elf_image.proofs.StoreLemmas.{put_none, put_more}
use Rattle.elf_image.proofs.store.put_bytes.Goals as goal

pub loop-k-init : goal.loop-k-init
loop-k-init c = record { len = refl; bytes = λ j. put_none c.args.first j _ _ }

pub loop-k-preserved : goal.loop-k-preserved
loop-k-preserved c = record {
  len = c.put_byte.ensures.len ∙ c.loop-k.invariant.len;
  bytes = λ j. put_more _ _ _ (get_or c.args.bytes.now c.loop-k.k 0) c.args.bytes.now c.args.first c.loop-k.k j refl (c.put_byte.ensures.bytes j) (c.loop-k.invariant.bytes j);
}
