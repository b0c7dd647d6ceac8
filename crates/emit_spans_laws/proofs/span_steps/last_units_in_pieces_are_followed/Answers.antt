use Rattle.emit_spans_laws.proofs.SpanSteps.Last.{last-goes}
use Rattle.emit_spans_laws.proofs.SpanSteps.Parts.{StepLaws}
use Rattle.emit_spans_laws.proofs.span_steps.last_units_in_pieces_are_followed.Goals as goal

pub returns : goal.returns
returns c site order words leads span k front unit w x total has s follows =
    let laws : StepLaws = record {
      pieces = record {
        units = record {
          paths = c.code_is_paths.ensures;
          follow = c.units_are_followed.ensures;
          lawful = c.units_are_lawful.ensures.all;
          known = c.needed_is_known.ensures.unit;
        };
        change = c.instructions_keep_to_their_registers.ensures.writes;
        follow = c.pieces_are_followed.ensures;
        are_pieces = c.pieces_are_of_blocks.ensures;
      };
      sets = record {
        is_membership = c.is_in_is_membership.ensures;
        gained_is = c.gained_is_membership.ensures.either;
        gained_joined = c.gained_is_membership.ensures.joined;
        writes_numbers = c.units_are_lawful.ensures.written;
      };
      need = record {
        unit_known = c.needed_is_known.ensures.unit;
        first_known = c.needed_is_known.ensures.first;
        others_known = c.needed_is_known.ensures.others;
      };
    } in
    last-goes laws site order words leads span has k front unit w x s total follows
