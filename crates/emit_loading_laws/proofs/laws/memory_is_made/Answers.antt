use Rattle.emit_loading_laws.proofs.LoadingCodeLaws.Making.{makes-memory}
use Rattle.emit_loading_laws.proofs.laws.memory_is_made.Goals as goal

pub returns : goal.returns
returns c =
    makes-memory c.code_is_a_path.ensures.elsewhere c.parts_lie_behind_each_other.ensures
