use Rattle.emit_loading_laws.proofs.LoadingCodeLaws.Following.{metered-follows, spent-follows}
use Rattle.emit_loading_laws.proofs.laws.metered_loading_follows.Goals as goal

pub returns-clause-enough : goal.returns-clause-enough
returns-clause-enough c program words own m choose is_span most left limit s spent begun l time =
    metered-follows program words own m choose is_span limit s spent most left begun l time

pub returns-clause-none : goal.returns-clause-none
returns-clause-none c program words own m choose is_span most limit at s spent is e time =
    spent-follows program words own m choose is_span limit s spent most at is e time
