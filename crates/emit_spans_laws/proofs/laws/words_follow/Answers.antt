use Rattle.emit_spans_laws.proofs.SpanCodeLaws.Words.{UnitLaws, word-follows, word-follows-behind}
use Rattle.emit_spans_laws.proofs.laws.words_follow.Goals as goal

pub returns-clause-plain : goal.returns-clause-plain
returns-clause-plain c site order words leads span k w x has ready s inner plain =
    let laws : UnitLaws = record {
      paths = c.code_is_paths.ensures;
      follow = c.units_are_followed.ensures;
      lawful = c.units_are_lawful.ensures.all;
      known = c.needed_is_known.ensures.unit;
    } in
    word-follows laws site order words leads span has k w x s inner ready plain

pub returns-clause-behind_fronts : goal.returns-clause-behind_fronts
returns-clause-behind_fronts c site order words leads span k w x has ready s inner =
    let laws : UnitLaws = record {
      paths = c.code_is_paths.ensures;
      follow = c.units_are_followed.ensures;
      lawful = c.units_are_lawful.ensures.all;
      known = c.needed_is_known.ensures.unit;
    } in
    word-follows-behind laws site order words leads span has k w x s inner ready
