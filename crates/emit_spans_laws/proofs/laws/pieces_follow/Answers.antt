use Rattle.emit_spans_laws.proofs.SpanCodeLaws.Warm.{warm-follows}
use Rattle.emit_spans_laws.proofs.laws.pieces_follow.Goals as goal

pub returns : goal.returns
returns c site order words leads span k w x has ready s begin =
    warm-follows
    (record {
      units = record {
        paths = c.code_is_paths.ensures;
        follow = c.units_are_followed.ensures;
        lawful = c.units_are_lawful.ensures.all;
        known = c.needed_is_known.ensures.unit;
      };
      change = c.instructions_keep_to_their_registers.ensures.writes;
      follow = c.pieces_are_followed.ensures;
      are_pieces = c.pieces_are_of_blocks.ensures;
    })
    site words leads span has k s.above s.below begin order w x s ready
