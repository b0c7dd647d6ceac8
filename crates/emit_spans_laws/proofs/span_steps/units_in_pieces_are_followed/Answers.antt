use Rattle.emit_spans_laws.proofs.SpanSteps.Parts.{StepLaws}
use Rattle.emit_spans_laws.proofs.SpanSteps.Plain.{plain-follows, unit-plain}
use Rattle.emit_spans_laws.proofs.span_steps.units_in_pieces_are_followed.Goals as goal

laws : (c : goal.After-pieces_are_followed) → StepLaws
laws c = record {
  pieces = record {
    units = record {
      paths = c.code_is_paths.ensures;
      follow = c.units_are_followed.ensures;
      lawful = c.units_are_lawful.ensures.all;
      known = c.needed_is_known.ensures.unit;
    };
    change = c.instructions_keep_to_their_registers.ensures.writes;
    follow = c.pieces_are_followed.ensures;
    are_pieces = c.pieces_are_of_blocks.ensures;
  };
  sets = record {
    is_membership = c.is_in_is_membership.ensures;
    gained_is = c.gained_is_membership.ensures.either;
    gained_joined = c.gained_is_membership.ensures.joined;
    writes_numbers = c.units_are_lawful.ensures.written;
  };
  need = record {
    unit_known = c.needed_is_known.ensures.unit;
    first_known = c.needed_is_known.ensures.first;
    others_known = c.needed_is_known.ensures.others;
  };
}

pub returns : goal.returns
returns c site order words leads span k front unit next rest w x has s = record {
  plain = unit-plain (laws c) site order words leads span has k front next rest w x unit s;
  comes = λ total follows. plain-follows (laws c) site order words leads span has k front next rest w x unit total s follows;
}
