use Rattle.emit_limits.proofs.CutSizes.{cut-within}
use Rattle.emit_limits.proofs.size_laws.divided_words_keep_to_the_limit.Goals as goal

pub returns : goal.returns
returns c metered units leads start first count limit spans cuts = cut-within metered units leads start first limit spans 0 count cuts
