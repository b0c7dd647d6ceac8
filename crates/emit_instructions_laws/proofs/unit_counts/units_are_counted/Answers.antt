use Rattle.emit_instructions_laws.proofs.UnitCounts.Units.{unit-counts}
use Rattle.emit_instructions_laws.proofs.unit_counts.units_are_counted.Goals as goal

pub returns : goal.returns
returns c unit site order bank known at w x is_span lawful ready order_is lies knows h spares =
    unit-counts
    (record {
      helpers = record {
        loads = c.loads_read_one_word.ensures;
        stores = c.stores_read_at_most_one_word.ensures;
      };
      follow = c.units_are_followed.ensures;
      past = c.slots_are_passed_over.ensures;
    })
    site order bank known at w x is_span ready order_is h spares unit lawful lies knows
