use Rattle.block_builder.proofs.SetLemmas.{set_has_bits}
use Rattle.block_builder.proofs.laws.register_sets_have_their_bits.Goals as goal

pub returns : goal.returns
returns c = set_has_bits
