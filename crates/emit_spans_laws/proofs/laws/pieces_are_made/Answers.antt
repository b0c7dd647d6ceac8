use Rattle.std.proofs.Common.{refl, arith}
use Rattle.delay_slots.specs.Units.{units_of}
use Rattle.emit_spans_laws.proofs.SpanCodeLaws.Guest.{own-made}
use Rattle.emit_spans_laws.proofs.SpanCodeLaws.Words.{units-length}
use Rattle.emit_spans_laws.proofs.laws.pieces_are_made.Goals as goal

pub returns : goal.returns
returns c words leads span k x s are no_float below within =
    let total = units-length words in
    let own = own-made words leads span k below
    (c.pieces_are_of_blocks.ensures (units_of words) leads span k (record { words = words; are = refl }) below (omega (arith, total, within)))
    c.instructions_keep_to_their_registers.ensures.writes
    c.unit_is_its_steps.ensures.turns
    c.unit_leads_on.ensures x (c.units_are_lawful.ensures.all words are no_float) s in
    record { turns = own.made; goes_on = own.leads }
