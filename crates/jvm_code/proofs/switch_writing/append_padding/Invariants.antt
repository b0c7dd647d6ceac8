use Rattle.std.proofs.Common.{◌≡◌, ◌++◌, replicate}
use Rattle.jvm_code.proofs.switch_writing.append_padding.Given as goal

abbrev pub invariant-loop : goal.invariant-loop
invariant-loop l = l.code.items ≡ l.fn.code.items ++ replicate l.counter 0
