use Rattle.std.proofs.Common.{false, subst}
use Rattle.jvm_type_inference.specs.Flow.{KeepsBelow}
use Rattle.jvm_type_inference.specs.Actions.{program_over}
use Rattle.jvm_type_inference.proofs.SettleLaws.{settling, taken-within, refused-settling, settled-more, settled-below}
use Rattle.jvm_type_inference.proofs.flow.Flow.settle.Goals as goal

pub loop-at-init : goal.loop-at-init
loop-at-init c =
    let a = c.args in
    settling (program_over a.code.now.methods.now) a.code.now.method.now a.before.now a.limit a.self.now.frames.items a.self.now.work.items c.requires.keeps

pub visit-requires-clause-admitted : goal.visit-requires-clause-admitted
visit-requires-clause-admitted c =
    taken-within c.args.limit c.pop.new.self.items c.loop-at.self.work.items c.in-Some.at c.in-Some.ensures.items c.loop-at.invariant.keeps.waits

pub returns-then-not-branch-clause-below : goal.returns-then-not-branch-clause-below
returns-then-not-branch-clause-below c =
    let a = c.args in
    let p = program_over a.code.now.methods.now in
    let m = a.code.now.method.now in
    let l = c.loop-at in
    let after = c.visit.new.self.frames.items in
    refused-settling p m a.before.now a.limit a.self.now.frames.items l.self.frames.items l.self.work.items false after l.invariant
    (subst (λ good. KeepsBelow p m a.limit l.self.frames.items good after) c.if-not-branch.true c.in_ok-visit.ensures.below)

pub loop-at-preserved : goal.loop-at-preserved
loop-at-preserved c =
    let a = c.args in
    let p = program_over a.code.now.methods.now in
    let m = a.code.now.method.now in
    let l = c.loop-at in
    let after = c.visit.new.self in
    settled-more p m a.before.now a.limit c.in-Some.at a.self.now.frames.items l.self.frames.items c.pop.new.self.items l.self.work.items after.frames.items after.work.items c.in-Some.ensures.items l.invariant (c.in_ok-visit.ensures.visits c.if-not-branch.false)
    (subst (λ good. KeepsBelow p m a.limit l.self.frames.items good after.frames.items) c.if-not-branch.false c.in_ok-visit.ensures.below)

pub returns-clause-below : goal.returns-clause-below
returns-clause-below c =
    let a = c.args in
    let l = c.loop-at in
    settled-below (program_over a.code.now.methods.now) a.code.now.method.now a.before.now a.limit a.self.now.frames.items l.self.frames.items l.self.work.items l.invariant
