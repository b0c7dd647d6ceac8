use Rattle.std.proofs.Common.{◌≡◌, take}
use Rattle.std.specs.Prelude.{map}
use Rattle.stackmap_table.specs.Shortest.{written_type}
use Rattle.stackmap_table.proofs.shortest.types_of.Given as goal

abbrev pub invariant-loop-kind : goal.invariant-loop-kind
invariant-loop-kind l = l.types.items ≡ map (written_type l.slots) (take l.kind-index l.kinds)
