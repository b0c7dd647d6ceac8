use Rattle.std.proofs.Common.{sym}
use Rattle.int_region.proofs.KeptLemmas.{used_of}
use Rattle.int_region.proofs.region.Region.mark.Goals as goal

pub returns : goal.returns
returns c = rw (← c.self.view_is) (sym (used_of c.self.inside.words.items c.self.inside.used c.self.invariant))
