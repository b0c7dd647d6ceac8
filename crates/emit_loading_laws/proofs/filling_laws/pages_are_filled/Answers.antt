use Rattle.emit_loading_laws.proofs.FillingLaws.Filling.{fills-pages}
use Rattle.emit_loading_laws.proofs.filling_laws.pages_are_filled.Goals as goal

pub returns : goal.returns
returns c program words own m class h table places given slots w caller others differ lies apart =
    fills-pages c.code_is_a_path.ensures.elsewhere c.parts_lie_behind_each_other.ensures program words own m class h table places given slots w caller
    others differ apart lies
