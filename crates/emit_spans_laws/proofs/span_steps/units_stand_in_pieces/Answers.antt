use Rattle.std.proofs.Common.{length, arith}
use Rattle.delay_slots.specs.Units.{units_of}
use Rattle.emit_spans_laws.proofs.SpanCodeLaws.Warm.{is-piece}
use Rattle.emit_spans_laws.proofs.SpanCodeLaws.Words.{units-length}
use Rattle.emit_spans_laws.proofs.SpanSteps.Inner.{none-begins}
use Rattle.emit_spans_laws.proofs.SpanSteps.Parts.{StepLaws, number-few, unit-has}
use Rattle.emit_spans_laws.proofs.span_steps.units_stand_in_pieces.Goals as goal

laws : (c : goal.After-pieces_are_followed) → StepLaws
laws c = record {
  pieces = record {
    units = record {
      paths = c.code_is_paths.ensures;
      follow = c.units_are_followed.ensures;
      lawful = c.units_are_lawful.ensures.all;
      known = c.needed_is_known.ensures.unit;
    };
    change = c.instructions_keep_to_their_registers.ensures.writes;
    follow = c.pieces_are_followed.ensures;
    are_pieces = c.pieces_are_of_blocks.ensures;
  };
  sets = record {
    is_membership = c.is_in_is_membership.ensures;
    gained_is = c.gained_is_membership.ensures.either;
    gained_joined = c.gained_is_membership.ensures.joined;
    writes_numbers = c.units_are_lawful.ensures.written;
  };
  need = record {
    unit_known = c.needed_is_known.ensures.unit;
    first_known = c.needed_is_known.ensures.first;
    others_known = c.needed_is_known.ensures.others;
  };
}

pub returns : goal.returns
returns c site order words leads span k front unit rest w x has s = record {
  has = unit-has (laws c) site order words leads span has k front unit rest w x s;
  inner = λ some.
      none-begins (units_of words) leads span k s.above
      (let total = units-length words in let within = has.within in let below = s.below in omega (arith, total, within, below))
      (is-piece (laws c).pieces site words leads span has k s.above s.below s.begin) (length front) some
      (number-few (laws c) site order words leads span has k front unit rest w x s);
}
