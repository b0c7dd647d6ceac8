use Rattle.emit_simulation_laws.proofs.PieceSets.{SetLaws, NeedLaws}
use Rattle.emit_types_laws.proofs.TypedCode.Pieces.{warm-lead, cold-lead}
use Rattle.emit_types_laws.proofs.laws.pieces_are_typed.Goals as goal

pub returns-clause-pieces : goal.returns-clause-pieces
returns-clause-pieces c units last rules at room helpers plain lawful =
    let needing : NeedLaws = record {
      unit_known = c.needed_is_known.ensures.unit;
      first_known = c.needed_is_known.ensures.first;
      others_known = c.needed_is_known.ensures.others;
    } in
    let laws : SetLaws = record {
      is_membership = c.is_in_is_membership.ensures;
      gained_is = c.gained_is_membership.ensures.either;
      gained_joined = c.gained_is_membership.ensures.joined;
      writes_numbers = c.units_are_lawful.ensures.written;
    } in
    warm-lead rules room needing laws helpers units last at plain lawful

pub returns-clause-words : goal.returns-clause-words
returns-clause-words c unit rules at room helpers lawful =
    let needing : NeedLaws = record {
      unit_known = c.needed_is_known.ensures.unit;
      first_known = c.needed_is_known.ensures.first;
      others_known = c.needed_is_known.ensures.others;
    } in
    cold-lead rules room needing helpers unit at lawful
