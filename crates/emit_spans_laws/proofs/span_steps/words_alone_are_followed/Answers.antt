use Rattle.emit_spans_laws.proofs.SpanCodeLaws.Words.{UnitLaws}
use Rattle.emit_spans_laws.proofs.SpanSteps.Alone.{alone-plain, behind-front}
use Rattle.emit_spans_laws.proofs.span_steps.words_alone_are_followed.Goals as goal

pub returns-clause-plain : goal.returns-clause-plain
returns-clause-plain c site order words leads span k w x has s inner plain =
    let laws : UnitLaws = record {
      paths = c.code_is_paths.ensures;
      follow = c.units_are_followed.ensures;
      lawful = c.units_are_lawful.ensures.all;
      known = c.needed_is_known.ensures.unit;
    } in
    alone-plain laws site order words leads span has k w x s inner plain

pub returns-clause-behind_fronts : goal.returns-clause-behind_fronts
returns-clause-behind_fronts c site order words leads span k w x has s inner =
    let laws : UnitLaws = record {
      paths = c.code_is_paths.ensures;
      follow = c.units_are_followed.ensures;
      lawful = c.units_are_lawful.ensures.all;
      known = c.needed_is_known.ensures.unit;
    } in
    behind-front laws site order words leads span has k w x s inner
