use Rattle.word_emitter.proofs.SetLemmas.{has_without}
use Rattle.word_emitter.proofs.registers.without.Goals as goal

pub returns : goal.returns
returns c = λ r within. has_without c.args.set c.args.other r c.ranges.other.fits within
