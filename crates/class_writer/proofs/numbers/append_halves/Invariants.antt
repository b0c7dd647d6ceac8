use Rattle.std.proofs.Common.{◌≡◌, ◌++◌, take}
use Rattle.class_writer.specs.Written.{halves}
use Rattle.class_writer.proofs.numbers.append_halves.Given as goal

abbrev pub invariant-loop-number : goal.invariant-loop-number
invariant-loop-number l = l.bytes.items ≡ l.fn.bytes.items ++ halves (take l.number-index l.numbers)
