use Rattle.emit_paths_laws.proofs.Stopping.{stop-effect}
use Rattle.emit_paths_laws.proofs.laws.stops_are_effects.Goals as goal

pub returns : goal.returns
returns c program words k n i code instruction w v e is step =
    stop-effect program words code k n i w v e instruction is step
