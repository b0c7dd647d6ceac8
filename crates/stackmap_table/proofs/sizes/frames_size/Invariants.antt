use Rattle.std.proofs.Common.{List, length}
use Rattle.class_definition.specs.declared.entry.Entry.{Entry}
use Rattle.stackmap_table.specs.Last.{start_of}
use Rattle.stackmap_table.specs.Shortest.{AreReferences, AreTabled}
use Rattle.stackmap_table.specs.declared.reference_slots.ReferenceSlots.{ReferenceSlots}
use Rattle.stackmap_table.proofs.SizedLaws.{IsSizing}
use Rattle.stackmap_table.proofs.sizes.frames_size.Given as goal

abbrev pub invariant-loop-next : goal.invariant-loop-next
invariant-loop-next l = record {
  tabled : AreTabled (start_of l.last) l.rest;
  sizing : (pool : List Entry) (slots : ReferenceSlots) → AreReferences pool slots → IsSizing pool l.parameters l.listed l.last l.before l.rest l.size;
}

abbrev pub decreases-loop-next : goal.decreases-loop-next
decreases-loop-next l = length l.rest
