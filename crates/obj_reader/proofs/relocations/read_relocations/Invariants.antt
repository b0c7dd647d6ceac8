use Rattle.std.proofs.Common.{◌≡◌, ◌++◌, drop}
use Rattle.std.specs.Prelude.{flat_map}
use Rattle.obj_reader.specs.Fault.{first_place}
use Rattle.obj_reader.specs.Relocations.{placed_entries, relocation_target_fault}
use Rattle.obj_reader.proofs.relocations.read_relocations.Given as goal

-- what is left gives what is not there yet, and the first fault
abbrev pub invariant-loop-s : goal.invariant-loop-s
invariant-loop-s l = record {
  read :
      l.relocations.items ++ flat_map (placed_entries l.start l.b l.sections) (drop l.s-index l.sections)
      ≡ flat_map (placed_entries l.start l.b l.sections) l.sections;
  passed :
      first_place (relocation_target_fault l.start l.b l.limit l.sections) (drop l.s-index l.sections)
      ≡ first_place (relocation_target_fault l.start l.b l.limit l.sections) l.sections;
}
