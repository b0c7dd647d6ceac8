use Rattle.std.proofs.Common.{◌≡◌, length}
use Rattle.nv_outside.proofs.WriteLemmas.{Wrote}
use Rattle.nv_outside.proofs.sink.write_all.Given as goal

abbrev pub invariant-loop-rest : goal.invariant-loop-rest
invariant-loop-rest g l = Wrote (g.K.Sink.taken l.initial.sink) (g.K.Sink.taken l.sink) l.bytes l.rest × (g.K.Sink.faults l.sink ≡ g.K.Sink.faults l.initial.sink)

abbrev pub decreases-loop-rest : goal.decreases-loop-rest
decreases-loop-rest g l = length l.rest
