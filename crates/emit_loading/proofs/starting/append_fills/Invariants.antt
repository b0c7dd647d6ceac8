use Rattle.std.proofs.Common.{◌≡◌, ◌++◌}
use Rattle.std.specs.Prelude.{drop, map}
use Rattle.emit_loading.specs.Parts.{call}
use Rattle.emit_loading.proofs.starting.append_fills.Given as goal

-- the code so far, and that of the methods that are left
abbrev pub invariant-loop-method : goal.invariant-loop-method
invariant-loop-method l = l.code.items ++ map call (drop l.method-index l.fills) ≡ l.fn.code.items ++ map call l.fills
