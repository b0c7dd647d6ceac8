use Rattle.std.proofs.Common.{◌<◌, ◌≤◌, ◌-◌, length, subst, sym, ap, arith}
use Rattle.type_verifier.proofs.VerifyLaws.{IsLooking, first-look, next-look, place-from}
use Rattle.type_verifier.proofs.verification.refusal.Goals as goal

pub loop-c-init : goal.loop-c-init
loop-c-init c = first-look c.args.classes.now c.args.number c.requires

pub returns-then-method-count : goal.returns-then-method-count
returns-then-method-count c =
    let l = c.loop-c in
    let less : l.method < length c.in-Some.c.now.methods = omega (arith, c.if-method-count.true, ap length c.as_slice-count.ensures) in
    place-from c.args.classes.now l.rest.now c.in-Some.others.now c.in-Some.c.now c.args.number l.method c.args.at c.fault.result c.in-Some.ensures.cases.0 less l.invariant c.fault.ensures

pub loop-c-preserved : goal.loop-c-preserved
loop-c-preserved c =
    let l = c.loop-c in
    let count = ap length c.as_slice-count.ensures in
    let more : length c.in-Some.c.now.methods ≤ l.method = omega (arith, c.if-method-count.false, count) in
    subst (λ n. IsLooking c.args.classes.now c.in-Some.others.now c.args.number (l.method - n)) (sym count)
    (next-look c.args.classes.now l.rest.now c.in-Some.others.now c.in-Some.c.now c.args.number l.method c.in-Some.ensures.cases.0 more l.invariant)
