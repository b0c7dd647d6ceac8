use Rattle.std.proofs.Common.{◌≡◌, ◌++◌}
use Rattle.std.specs.Prelude.{drop}
use Rattle.emit_loading.specs.Filling.{filled_code}
use Rattle.emit_loading.proofs.filling.append_filled.Given as goal

-- the code so far, and that of the pages that are left
abbrev pub invariant-loop-slot : goal.invariant-loop-slot
invariant-loop-slot l =
    l.code.items ++ filled_code (drop l.slot-index l.slots) l.class l.words ≡ l.fn.code.items ++ filled_code l.slots l.class l.words
