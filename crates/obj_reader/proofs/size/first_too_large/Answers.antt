use Rattle.std.proofs.Common.{◌∙◌}
use Rattle.obj_reader.proofs.SizeLemmas.{if_none, same_first}
use Rattle.obj_reader.proofs.size.first_too_large.Goals as goal

pub returns-clause-first : goal.returns-clause-first
returns-clause-first c = c.first_long.ensures.first ∙ same_first c.args.objects.now

pub returns-clause-none : goal.returns-clause-none
returns-clause-none c = if_none c.args.objects.now c.first_long.result c.first_long.ensures.first
