use Rattle.stackmap_maker.proofs.SizeLaws.{size-is}
use Rattle.stackmap_maker.proofs.size_laws.sizes_are_lengths.Goals as goal

pub returns : goal.returns
returns c = λ f bytes w spells. size-is f bytes w spells
