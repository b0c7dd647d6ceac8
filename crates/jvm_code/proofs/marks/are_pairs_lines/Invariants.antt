use Rattle.std.proofs.Common.{◌≡◌, length}
use Rattle.std.specs.Prelude.{map}
use Rattle.std.specs.List.{list_all}
use Rattle.class_definition.specs.Code.{is_line}
use Rattle.jvm_code.proofs.marks.are_pairs_lines.Given as goal

abbrev pub invariant-loop-pair : goal.invariant-loop-pair
invariant-loop-pair l = list_all (is_line l.lines) (map (λ p. p.target) l.rest) ≡ list_all (is_line l.lines) (map (λ p. p.target) l.pairs)

abbrev pub decreases-loop-pair : goal.decreases-loop-pair
decreases-loop-pair l = length l.rest
