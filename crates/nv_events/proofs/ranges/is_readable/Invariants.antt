use Rattle.std.proofs.Common.{◌*◌, is_some}
use Rattle.nv_events.proofs.PageLemmas.{Holds}
use Rattle.nv_events.proofs.ranges.is_readable.Given as goal

abbrev pub invariant-loop-page : goal.invariant-loop-page
invariant-loop-page g l = Holds (λ x. is_some ((g.V.View.memory (g.V.View.content l.view)).byte x)) l.at (l.page * 4096)
