use Rattle.stackmap_table.proofs.ChosenLaws.{apart, form-full}
use Rattle.stackmap_table.proofs.shortest.shortest_form.Goals as goal

pub returns-in-None-clause-shortest : goal.returns-in-None-clause-shortest
returns-in-None-clause-shortest c =
    let a = c.args in
    let r = c.requires in
    form-full a.before.now a.locals.now a.stack.now r.few_locals r.few_operands r.locals r.operands
    (apart a.before.now a.locals.now a.stack.now c.in_default.ensures c.in-None.ensures)
