use Rattle.std.proofs.Common.{length}
use Rattle.command_deeds.specs.World.{shelf_seen}
use Rattle.command_pipe.specs.Sets.{sets_of}
use Rattle.command_pipe.proofs.SetLemmas.{HasAccepted}
use Rattle.command_pipe.proofs.StageLemmas.{HasStages}
use Rattle.command_pipe.proofs.loading.load_stages.Given as goal

abbrev pub invariant-loop-class : goal.invariant-loop-class
invariant-loop-class g l = record {
  sets : HasAccepted (shelf_seen g.H.Shelf l.initial.shelf) (shelf_seen g.H.Shelf l.shelf) l.classes l.rest (sets_of l.stages.items);
  stages : HasStages l.launch l.classes l.rest l.stages.items;
}

abbrev pub decreases-loop-class : goal.decreases-loop-class
decreases-loop-class g l = length l.rest
