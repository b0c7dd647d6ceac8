use Rattle.std.proofs.Common.{◌+◌, ◌*◌, refl}
use Rattle.delay_slots.specs.Turns.{unit_turns, turn_count, last_turn}
use Rattle.emit_steps.specs.Widths.{size}
use Rattle.emit_instructions.specs.Units.{unit_code}
use Rattle.word_emitter.specs.Pieces.{warm_code}
use Rattle.emit_simulation_laws.specs.Sites.{stands, whole_weight}
use Rattle.emit_instructions_laws.specs.Pieces.{PieceArrives, piece_turns}
use Rattle.emit_instructions_laws.specs.Units.{UnitArrives}
use Rattle.emit_metered_laws.proofs.FieldLaws.Leaving.{follows-leaving}
use Rattle.emit_metered_laws.proofs.field_laws.units_leave_other_fields.Goals as goal

pub returns-clause-units : goal.returns-clause-units
returns-clause-units c unit site order bank known at f w x lawful other ready order_is lies knows held =
    let code = unit_code bank unit x.pc in
    let turns = unit_turns unit x in
    follows-leaving site (at + size code) (132 * turn_count turns) f (whole_weight order code)
    (c.code_writes_the_layout.ensures.units order bank x.pc unit lawful f other) w.fields (UnitArrives bank known unit x.pc w) at
    (turn_count turns) (stands site at w) (last_turn turns) refl
    (c.units_are_followed.ensures unit lawful site order bank known at w x ready order_is lies knows held)

pub returns-clause-pieces : goal.returns-clause-pieces
returns-clause-pieces c piece site order at f w x some lawful straight other ready order_is pending below lies held =
    let code = warm_code piece x.pc in
    let turns = piece_turns piece x in
    follows-leaving site (at + size code) (256 * turns.0) f (whole_weight order code)
    (c.code_writes_the_layout.ensures.pieces order x.pc piece lawful f other) w.fields (PieceArrives piece x.pc w) at
    turns.0 (stands site at w) turns.1 refl
    (c.pieces_are_followed.ensures piece some lawful straight site order at w x ready order_is pending below lies held)
