use Rattle.emit_simulation_laws.proofs.PieceSets.{SetLaws, NeedLaws}
use Rattle.emit_types_laws.proofs.TypedCode.Parts.{warm-part-leads, cold-part-leads}
use Rattle.emit_types_laws.proofs.laws.parts_of_spans_are_typed.Goals as goal

pub returns-clause-warm : goal.returns-clause-warm
returns-clause-warm c units last rules at span behind place room helpers plain lawful opens =
    let needing : NeedLaws = record {
      unit_known = c.needed_is_known.ensures.unit;
      first_known = c.needed_is_known.ensures.first;
      others_known = c.needed_is_known.ensures.others;
    } in
    let laws : SetLaws = record {
      is_membership = c.is_in_is_membership.ensures;
      gained_is = c.gained_is_membership.ensures.either;
      gained_joined = c.gained_is_membership.ensures.joined;
      writes_numbers = c.units_are_lawful.ensures.written;
    } in
    warm-part-leads rules room needing helpers laws units last at span behind place plain lawful opens

pub returns-clause-cold : goal.returns-clause-cold
returns-clause-cold c unit rules at span behind room helpers lawful opens =
    let needing : NeedLaws = record {
      unit_known = c.needed_is_known.ensures.unit;
      first_known = c.needed_is_known.ensures.first;
      others_known = c.needed_is_known.ensures.others;
    } in
    cold-part-leads rules room needing helpers unit at span behind lawful opens
