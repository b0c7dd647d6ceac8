use Rattle.std.proofs.Common.{take}
use Rattle.std.specs.Prelude.{All}
use Rattle.jvm_type_inference.specs.Marks.{Leads, IsLeader}
use Rattle.jvm_type_inference.proofs.blocks.Marks.lead.Given as goal

abbrev pub invariant-loop-target : goal.invariant-loop-target
invariant-loop-target l =
    Leads l.initial.self.leaders.items l.initial.self.before.items l.self.leaders.items l.self.before.items
    × All (IsLeader l.self.leaders.items) (take l.target-index l.targets)
