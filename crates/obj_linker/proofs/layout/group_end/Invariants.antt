use Rattle.std.proofs.Common.{◌≡◌, ◌≤◌, length}
use Rattle.obj_linker.specs.Layout.{group_end}
use Rattle.obj_linker.proofs.layout.group_end.Given as goal

-- the end behind the rest is the end behind all
abbrev pub invariant-loop-s : goal.invariant-loop-s
invariant-loop-s l = record {
  end : group_end l.group l.at l.rest ≡ group_end l.group l.start l.sections;
  within : l.at ≤ l.limit;
}

abbrev pub decreases-loop-s : goal.decreases-loop-s
decreases-loop-s l = length l.rest
