use Rattle.std.proofs.Common.{◌≡◌, Bool, true, subst, sym}
use Rattle.std.proofs.lemmas.List.{nil_from_length}
use Rattle.std.proofs.lemmas.Result.{IfOk-weaker}
use Rattle.jvm_type_inference.specs.Flow.{Flows, FlowsToAll, StaysBelow, AllStayBelow}
use Rattle.jvm_type_inference.specs.Frames.{type_frame}
use Rattle.jvm_type_inference.proofs.FlowLaws.{no-flows, no-below, last-flows, others-fail, last-below}
use Rattle.jvm_type_inference.proofs.flow.Flow.flow_to_all.Goals as goal

pub returns-in_default-clause-flows : goal.returns-in_default-clause-flows
returns-in_default-clause-flows c _ =
    let a = c.args in
    let m = a.code.now.method.now in
    let frames = a.self.now.frames.items in
    let work = a.self.now.work.items in
    subst (λ ts. FlowsToAll m a.limit (type_frame a.frame) ts frames work frames work) (sym (nil_from_length a.targets.now c.in_default.ensures.cases)) (no-flows m a.limit (type_frame a.frame) frames work)

pub returns-in_default-clause-below : goal.returns-in_default-clause-below
returns-in_default-clause-below c =
    no-below c.args.code.now.method.now (type_frame c.args.frame) c.args.targets.now c.args.self.now.frames.items

pub returns-then-not-branch-clause-below : goal.returns-then-not-branch-clause-below
returns-then-not-branch-clause-below c =
    let a = c.args in
    others-fail a.code.now.method.now (type_frame a.frame) a.targets.now c.in-Some.others.now c.in-Some.last.now a.self.now.frames.items c.flow_to_each.new.self.frames.items c.in_ok-flow_to_each.field-0
    c.in-Some.ensures.cases.0 c.if-not-branch.true c.in_ok-flow_to_each.ensures.below

pub returns-clause-flows : goal.returns-clause-flows
returns-clause-flows c =
    let a = c.args in
    let m = a.code.now.method.now in
    let f = type_frame a.frame in
    let frames = a.self.now.frames.items in
    let work = a.self.now.work.items in
    let then' = c.flow_to_each.new.self in
    let after = c.flow.new.self in
    let to = c.in-Some.last.now in
    let P : Bool → Type 0 = λ good. good ≡ true → Flows m a.limit f to then'.frames.items then'.work.items after.frames.items after.work.items in
    let Q : Bool → Type 0 = λ good. good ≡ true → FlowsToAll m a.limit f a.targets.now frames work after.frames.items after.work.items in
    IfOk-weaker c.flow.result P Q
    (λ good flows is.
    last-flows m a.limit f a.targets.now c.in-Some.others.now to frames work then'.frames.items then'.work.items after.frames.items after.work.items c.in-Some.ensures.cases.0
    (c.in_ok-flow_to_each.ensures.flows c.if-not-branch.false) (flows is))
    c.flow.ensures.flows

pub returns-clause-below : goal.returns-clause-below
returns-clause-below c =
    let a = c.args in
    let m = a.code.now.method.now in
    let f = type_frame a.frame in
    let frames = a.self.now.frames.items in
    let then' = c.flow_to_each.new.self.frames.items in
    let after = c.flow.new.self.frames.items in
    let to = c.in-Some.last.now in
    IfOk-weaker c.flow.result (λ good. StaysBelow m f to then' good after) (λ good. AllStayBelow m f a.targets.now frames good after)
    (λ good one.
    last-below m f a.targets.now c.in-Some.others.now to frames then' after c.in_ok-flow_to_each.field-0 good c.in-Some.ensures.cases.0 c.in_ok-flow_to_each.ensures.below one)
    c.flow.ensures.below
