use Rattle.std.proofs.Common.{refl, arith}
use Rattle.elf_image.proofs.StoreLemmas.{put_one}
use Rattle.elf_image.proofs.store.put_byte.Goals as goal

pub returns-clause-bytes : goal.returns-clause-bytes
returns-clause-bytes c = λ j. put_one c.args.words.now _ c.with_lane.result c.args.byte c.args.at j refl (omega arith) c.with_lane.ensures.lanes
