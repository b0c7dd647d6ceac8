use Rattle.std.proofs.Common.{◌≡◌, ◌++◌, length}
use Rattle.obj_reader.specs.Files.{files_of}
use Rattle.obj_linker.specs.Image.{group_bytes}
use Rattle.obj_linker.specs.Layout.{group_end}
use Rattle.obj_linker.proofs.image.append_group.Given as goal

-- what was appended, and what the rest will be, is what all are
abbrev pub invariant-loop-s : goal.invariant-loop-s
invariant-loop-s l = record {
  end : group_end l.group l.at l.rest ≡ group_end l.group l.start l.sections;
  bytes :
      l.image.items ++ group_bytes (files_of l.objects) l.group l.at l.rest
      ≡ l.fn.image.items ++ group_bytes (files_of l.objects) l.group l.start l.sections;
}

abbrev pub decreases-loop-s : goal.decreases-loop-s
decreases-loop-s l = length l.rest
