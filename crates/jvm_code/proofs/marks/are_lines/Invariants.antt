use Rattle.std.proofs.Common.{◌≡◌, length}
use Rattle.std.specs.List.{list_all}
use Rattle.class_definition.specs.Code.{is_line}
use Rattle.jvm_code.proofs.marks.are_lines.Given as goal

abbrev pub invariant-loop-target : goal.invariant-loop-target
invariant-loop-target l = list_all (is_line l.lines) l.rest ≡ list_all (is_line l.lines) l.targets

abbrev pub decreases-loop-target : goal.decreases-loop-target
decreases-loop-target l = length l.rest
