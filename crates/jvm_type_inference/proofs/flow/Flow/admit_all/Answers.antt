use Rattle.std.proofs.Common.{◌≡◌, ◌<◌, ◌≤◌, length, subst, sym, ◌∙◌, arith}
use Rattle.jvm_type_inference.specs.Actions.{program_over}
use Rattle.jvm_type_inference.specs.Blocks.{AreSpread}
use Rattle.jvm_type_inference.specs.Frames.{frame_at}
use Rattle.jvm_type_inference.proofs.SettleLaws.{typed-all, table-ends}
use Rattle.jvm_type_inference.proofs.flow.Flow.admit_all.Goals as goal

pub returns-in-FaultAt-clause-verdict : goal.returns-in-FaultAt-clause-verdict
returns-in-FaultAt-clause-verdict c = rw c.in-FaultAt.is at c.in_ok-admitted.ensures.admits

pub loop-at-smaller : goal.loop-at-smaller
loop-at-smaller c =
    let a = rw c.in-UpTo.is at c.in_ok-admitted.ensures.admits in
    let order : c.loop-at.at < c.in-UpTo.next = a.order in
    let within : c.in-UpTo.next ≤ length c.args.code.now.starts.items = rw c.in-UpTo.is at c.in_ok-admitted.ensures.within in
    omega (arith, order, within)

pub loop-at-preserved : goal.loop-at-preserved
loop-at-preserved c =
    let a = rw c.in-UpTo.is at c.in_ok-admitted.ensures.admits in
    (a.rests, (a.size ∙ c.loop-at.invariant.1.0, (a.done, rw c.in-UpTo.is at c.in_ok-admitted.ensures.within)))

pub returns-clause-verdict : goal.returns-clause-verdict
returns-clause-verdict c spread are =
    let code = c.args.code.now in
    let m = code.method.now in
    let p = program_over code.methods.now in
    let l = c.loop-at in
    let most : l.at ≤ length code.starts.items = l.invariant.1.1.1 in
    let ends : length code.starts.items ≡ l.at = omega (arith, most, c.loop-at-test.false, c.len.ensures, code.starts.ok.0) in
    typed-all p m c.args.before.now c.requires.parts l.at l.self.frames.items l.invariant.0
    (λ x h. table-ends m code.starts.items c.requires.table x (omega (arith, h, ends)))
    spread (subst (λ n. AreSpread p m c.args.before.now n (frame_at l.self.frames.items) spread) ends are)
