use Rattle.std.proofs.Common.{None, refl}
use Rattle.emit_loading_laws.proofs.LoadingCodeLaws.Loading.{program-loads}
use Rattle.emit_loading_laws.proofs.laws.programs_load.Goals as goal

pub returns : goal.returns
returns c program words own m choose pages is_span b texts shares fillers readable writable page_words code is makes none =
    program-loads c.code_is_a_path.ensures.elsewhere c.parts_lie_behind_each_other.ensures program words own m choose pages is_span None b texts shares fillers readable writable page_words code is makes none refl
