use Rattle.std.proofs.Common.{◌≡◌, ◌-◌, length}
use Rattle.class_definition.specs.Code.{lines_from}
use Rattle.jvm_code.proofs.LineLemmas.{with_lines}
use Rattle.jvm_code.proofs.code_reading.lines_of.Given as goal

abbrev pub invariant-loop : goal.invariant-loop
invariant-loop l =
    with_lines l.lines.items (lines_from (length l.code) (length l.code - l.counter) l.rest) ≡ lines_from (length l.code) (length l.code) l.code
