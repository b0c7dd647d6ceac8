use Rattle.std.proofs.Common.{sym}
use Rattle.obj_linker.proofs.KnownLemmas.{before_place, before_none}
use Rattle.obj_linker.proofs.name_place.before_zero.Goals as goal

pub returns-in-Some : goal.returns-in-Some
returns-in-Some c = before_place c.args.bytes.now c.in-Some.end (sym c.in-Some.ensures.place)

pub returns-in-None : goal.returns-in-None
returns-in-None c = before_none c.args.bytes.now (sym c.in-None.ensures.place)
