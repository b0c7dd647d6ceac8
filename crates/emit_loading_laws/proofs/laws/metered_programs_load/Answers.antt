use Rattle.std.proofs.Common.{Some, None, refl}
use Rattle.emit_loading_laws.proofs.LoadingCodeLaws.Loading.{metered-loads, spent-ends}
use Rattle.emit_loading_laws.proofs.laws.metered_programs_load.Goals as goal

pub returns-clause-enough : goal.returns-clause-enough
returns-clause-enough c program words own m choose pages is_span b texts shares fillers readable writable page_words code turns is some small makes none =
    metered-loads c.code_is_a_path.ensures.elsewhere c.parts_lie_behind_each_other.ensures program words own m choose pages is_span (Some turns) b texts shares fillers readable writable page_words code is makes none turns refl small
    c.counted_code_is_paid.ensures.enough some

-- no code of the guest is looked at
pub returns-clause-none : goal.returns-clause-none
returns-clause-none c program words own m choose pages is_span b texts shares fillers readable writable page_words is makes none =
    spent-ends c.code_is_a_path.ensures.elsewhere c.parts_lie_behind_each_other.ensures program words own m choose pages is_span (Some 0) b texts shares fillers readable writable page_words (λ a. None) is makes none
    c.counted_code_is_paid.ensures.too_few refl
