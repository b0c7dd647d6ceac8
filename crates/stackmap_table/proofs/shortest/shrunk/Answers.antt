use Rattle.std.proofs.Common.{arith}
use Rattle.std.proofs.lemmas.List.{nil_from_length}
use Rattle.stackmap_table.proofs.GivesLaws.{wide-slots-of}
use Rattle.stackmap_table.proofs.ChosenLaws.{chosen-chop, form-full, not-chopped}
use Rattle.stackmap_table.proofs.shortest.shrunk.Goals as goal

pub returns-then-not-are_few-clause-shortest : goal.returns-then-not-are_few-clause-shortest
returns-then-not-are_few-clause-shortest c =
    let a = c.args in
    let r = c.requires in
    form-full a.before.now a.locals.now a.stack.now r.few_locals r.few_operands r.locals r.operands
    (not-chopped a.before.now a.locals.now a.dropped.now a.stack.now r.not_grown r.dropped (c.are_few.ensures.many c.if-not-are_few.true))

pub returns-clause-shortest : goal.returns-clause-shortest
returns-clause-shortest c pool slots delta refs small =
    let a = c.args in
    let few = c.are_few.ensures.few c.if-not-are_few.false in
    let empty = nil_from_length a.stack.now (c.are_few.ensures.empty c.if-not-are_few.false) in
    chosen-chop pool slots refs (wide-slots-of pool slots refs) a.before.now a.locals.now a.stack.now delta (omega (arith, small)) a.dropped.now c.requires.not_grown c.requires.dropped few empty
