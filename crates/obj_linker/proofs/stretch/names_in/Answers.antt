use Rattle.obj_linker.proofs.TextLemmas.{front_cut, front_ended}
use Rattle.obj_linker.proofs.stretch.names_in.Goals as goal

pub returns-in-Some-clause-front : goal.returns-in-Some-clause-front
returns-in-Some-clause-front c = front_cut _ c.args.bytes.now _ c.front_of.ensures

pub returns-in-Some-clause-ended : goal.returns-in-Some-clause-ended
returns-in-Some-clause-ended c =
    front_ended c.args.last c.args.bytes.now c.rest_of.result.now c.before_zero.result.now _ c.rest_of.ensures c.before_zero.ensures
    c.front_of.ensures
