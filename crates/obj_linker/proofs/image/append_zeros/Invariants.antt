use Rattle.std.proofs.Common.{◌≡◌, ◌++◌, replicate}
use Rattle.obj_linker.proofs.image.append_zeros.Given as goal

-- so many zeros were appended
abbrev pub invariant-loop : goal.invariant-loop
invariant-loop l = l.image.items ≡ l.fn.image.items ++ replicate l.counter 0
