use Rattle.emit_program_laws.proofs.ChoicePasses.Returning.{comes-back}
use Rattle.emit_program_laws.proofs.choice_passes.spans_come_back.Goals as goal

pub returns : goal.returns
returns c program words classes choose t y s =
    comes-back c.returns_give_back.ensures c.fields_hold_all.ensures program words classes choose t y s
