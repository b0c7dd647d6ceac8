use Rattle.std.proofs.Common.{sym, ◌∙◌, arith}
use Rattle.stackmap_prune.proofs.SearchLaws.{halves, found-middle, goes-above, goes-below}
use Rattle.stackmap_prune.proofs.pruning.listed_at.Goals as goal

pub returns-then-middle-at : goal.returns-then-middle-at
returns-then-middle-at c =
    let rest = c.loop-rest.rest.now in
    let below = c.split_at.result.0.now in
    let m = c.in-Some.middle.now in
    let is = halves _ rest below c.split_at.result.1.now c.in-Some.others.now m c.split_at.ensures.front c.split_at.ensures.back c.in-Some.ensures.cases.0 in
    let v = c.loop-rest.invariant in
    sym (found-middle rest below m c.in-Some.others.now c.args.at is v.0 (omega (arith, c.if-middle-at.true))) ∙ v.1

pub loop-rest-preserved-then-middle-at-2 : goal.loop-rest-preserved-then-middle-at-2
loop-rest-preserved-then-middle-at-2 c =
    let rest = c.loop-rest.rest.now in
    let below = c.split_at.result.0.now in
    let m = c.in-Some.middle.now in
    let is = halves _ rest below c.split_at.result.1.now c.in-Some.others.now m c.split_at.ensures.front c.split_at.ensures.back c.in-Some.ensures.cases.0 in
    let v = c.loop-rest.invariant in
    let g = goes-above rest below m c.in-Some.others.now c.args.at is v.0 (omega (arith, c.if-middle-at-2.true)) in
    (g.0, g.1 ∙ v.1)

pub loop-rest-preserved : goal.loop-rest-preserved
loop-rest-preserved c =
    let rest = c.loop-rest.rest.now in
    let below = c.split_at.result.0.now in
    let m = c.in-Some.middle.now in
    let is = halves _ rest below c.split_at.result.1.now c.in-Some.others.now m c.split_at.ensures.front c.split_at.ensures.back c.in-Some.ensures.cases.0 in
    let v = c.loop-rest.invariant in
    let g = goes-below rest below m c.in-Some.others.now c.args.at is v.0 (omega (arith, c.if-middle-at.false, c.if-middle-at-2.false)) in
    (g.0, g.1 ∙ v.1)
