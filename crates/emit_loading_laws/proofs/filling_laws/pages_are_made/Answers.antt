use Rattle.emit_loading_laws.proofs.FillingLaws.Runs.{makes-pages}
use Rattle.emit_loading_laws.proofs.filling_laws.pages_are_made.Goals as goal

pub returns : goal.returns
returns c program words own m class slot readable writable readable_pages writable_pages runs w caller others differ lies told =
    makes-pages c.code_is_a_path.ensures.elsewhere c.parts_lie_behind_each_other.ensures program words own m class slot readable writable
    readable_pages writable_pages runs w caller others differ lies told.characters_are told.are_runs told.few
