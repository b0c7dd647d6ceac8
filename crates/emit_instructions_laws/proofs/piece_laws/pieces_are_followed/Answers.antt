use Rattle.emit_instructions_laws.proofs.PieceLaws.Pieces.{pieces-follow}
use Rattle.emit_instructions_laws.proofs.piece_laws.pieces_are_followed.Goals as goal

pub returns : goal.returns
returns c all =
    pieces-follow c.code_is_paths.ensures
    (record {
      is_membership = c.is_in_is_membership.ensures;
      gained_is = c.gained_is_membership.ensures.either;
      gained_joined = c.gained_is_membership.ensures.joined;
      writes_numbers = c.units_are_lawful.ensures.written;
    })
    c.instructions_keep_to_their_registers.ensures.writes
    (record {
      unit_known = c.needed_is_known.ensures.unit;
      first_known = c.needed_is_known.ensures.first;
      others_known = c.needed_is_known.ensures.others;
    })
    (c.units_are_followed.ensures all)
