use Rattle.std.proofs.Common.{get_or, refl, subst, sym}
use Rattle.jvm_type_inference.specs.Flow.{Flows, StaysBelow, AllStayBelow}
use Rattle.jvm_type_inference.specs.Frames.{type_frame, IsSized}
use Rattle.jvm_type_inference.proofs.FlowLaws.{no-flows, more-flows, more-below, still-from, still-nothing}
use Rattle.jvm_type_inference.proofs.flow.Flow.flow_to_each.Goals as goal

pub loop-target-init : goal.loop-target-init
loop-target-init c =
    let a = c.args in
    let frames = a.self.now.frames.items in (
      no-flows a.code.now.method.now a.limit (type_frame a.frame.now) frames a.self.now.work.items,
      still-nothing a.code.now.method.now (type_frame a.frame.now) a.targets.now frames,
    )

pub flow-requires-clause-frame : goal.flow-requires-clause-frame
flow-requires-clause-frame c =
    let m = c.args.code.now.method.now in
    subst (IsSized m.locals m.stack) (sym c.in_ok-copy.ensures) c.requires.frame

pub loop-target-preserved : goal.loop-target-preserved
loop-target-preserved c =
    let a = c.args in
    let m = a.code.now.method.now in
    let f = type_frame a.frame.now in
    let i = c.loop-target.target-index in
    let to = get_or a.targets.now i 0 in
    let frames = a.self.now.frames.items in
    let then' = c.loop-target.self in
    let after = c.flow.new.self in
    let inv = c.loop-target.invariant in
    let flows = subst (λ x. Flows m a.limit (type_frame x) to then'.frames.items then'.work.items after.frames.items after.work.items) c.in_ok-copy.ensures (c.in_ok-flow.ensures.flows c.if-not-branch.false) in
    let below = subst (λ x. StaysBelow m (type_frame x) to then'.frames.items c.in_ok-flow.field-0 after.frames.items) c.in_ok-copy.ensures c.in_ok-flow.ensures.below in (
      more-flows m a.limit f a.targets.now i to frames a.self.now.work.items then'.frames.items then'.work.items after.frames.items after.work.items c.loop-target-test.true refl inv.0 flows,
      still-from m f a.targets.now frames after.frames.items c.in_ok-flow.field-0
          (more-below m f a.targets.now i to frames then'.frames.items after.frames.items c.in_ok-flow.field-0 c.loop-target-test.true refl inv.1 below),
    )

pub returns-then-not-branch-clause-below : goal.returns-then-not-branch-clause-below
returns-then-not-branch-clause-below c =
    let a = c.args in
    let m = a.code.now.method.now in
    let f = type_frame a.frame.now in
    let i = c.loop-target.target-index in
    let to = get_or a.targets.now i 0 in
    let frames = a.self.now.frames.items in
    let then' = c.loop-target.self.frames.items in
    let after = c.flow.new.self.frames.items in
    let below = subst (λ x. StaysBelow m (type_frame x) to then' c.in_ok-flow.field-0 after) c.in_ok-copy.ensures c.in_ok-flow.ensures.below in
    subst (λ good. AllStayBelow m f a.targets.now frames good after) c.if-not-branch.true
    (more-below m f a.targets.now i to frames then' after c.in_ok-flow.field-0 c.loop-target-test.true refl c.loop-target.invariant.1 below)
