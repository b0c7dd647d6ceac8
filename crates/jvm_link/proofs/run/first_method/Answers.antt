use Rattle.std.proofs.Common.{◌<◌, ◌∙◌, sym, ap, is_some, arith}
use Rattle.jvm_link.proofs.RunLemmas.{run_there, run_found, run_small}
use Rattle.jvm_link.proofs.run.first_method.Goals as goal

pub overflow_cast-result : goal.overflow_cast-result
overflow_cast-result c =
    let small : c.in-Some-run_place.place < 65536 = run_small c.args.classes.now c.in-Some.field-0-1.now c.in-Some.class.now c.in-Some-run_place.place c.in-Some.ensures.cases.0 (sym c.in-Some-run_place.ensures) c.requires in
    omega arith

pub returns-in-None-run_place-clause-there : goal.returns-in-None-run_place-clause-there
returns-in-None-run_place-clause-there c = ap is_some c.in-None-run_place.ensures ∙ run_there c.args.classes.now c.in-Some.field-0-1.now c.in-Some.class.now c.in-Some.ensures.cases.0

pub returns-in-Some-run_place-clause-there : goal.returns-in-Some-run_place-clause-there
returns-in-Some-run_place-clause-there c = ap is_some c.in-Some-run_place.ensures ∙ run_there c.args.classes.now c.in-Some.field-0-1.now c.in-Some.class.now c.in-Some.ensures.cases.0

pub returns-in-Some-run_place-clause-found : goal.returns-in-Some-run_place-clause-found
returns-in-Some-run_place-clause-found c =
    run_found c.args.classes.now c.in-Some.field-0-1.now c.in-Some.class.now c.in-Some-run_place.place c.in-Some.ensures.cases.0 (sym c.in-Some-run_place.ensures)
