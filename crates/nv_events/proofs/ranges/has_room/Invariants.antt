use Rattle.std.proofs.Common.{◌*◌}
use Rattle.nv_events.proofs.PageLemmas.{Holds}
use Rattle.nv_events.proofs.ranges.has_room.Given as goal

abbrev pub invariant-loop-page : goal.invariant-loop-page
invariant-loop-page g l = Holds (g.V.View.memory (g.V.View.content l.view)).writable l.place (l.page * 4096)
