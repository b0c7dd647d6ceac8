use Rattle.meter_laws.proofs.UnitGuards.{guard-paid, guard-spent, still-held, unit-spent}
use Rattle.meter_laws.proofs.laws.guards_take_turns_off.Goals as goal

pub returns-clause-enough : goal.returns-clause-enough
returns-clause-enough c unit site order known at w x left lies knows held has least =
    guard-paid c.code_is_paths.ensures.paths unit site order known at w x left lies knows held has least

pub returns-clause-kept : goal.returns-clause-kept
returns-clause-kept c = still-held

pub returns-clause-too_few : goal.returns-clause-too_few
returns-clause-too_few c unit site order known at w x left lies knows held has less =
    guard-spent c.code_is_paths.ensures.paths unit site order known at w x left lies knows held has less

pub returns-clause-stops : goal.returns-clause-stops
returns-clause-stops c unit program words known w x left at knows held has less =
    unit-spent program words known w x held left has unit at knows less
