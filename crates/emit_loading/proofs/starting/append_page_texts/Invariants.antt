use Rattle.std.proofs.Common.{◌≡◌, ◌++◌}
use Rattle.std.specs.Prelude.{drop}
use Rattle.emit_loading.specs.Starting.{page_texts_code}
use Rattle.emit_loading.proofs.starting.append_page_texts.Given as goal

-- the code so far, and that of the texts that are left
abbrev pub invariant-loop-slot : goal.invariant-loop-slot
invariant-loop-slot l =
    l.code.items ++ page_texts_code l.class l.pages (drop l.slot-index l.page_texts)
    ≡ l.fn.code.items ++ page_texts_code l.class l.pages l.page_texts
