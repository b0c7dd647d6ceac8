use Rattle.std.proofs.Common.{◌≡◌, Bool, true, subst, sym, ap, ◌∙◌}
use Rattle.std.proofs.lemmas.Option.{same_Some, none-some}
use Rattle.std.proofs.lemmas.Result.{IfOk-weaker}
use Rattle.jvm_definition.specs.declared.linked_line.LinkedLine.{LinkedLine}
use Rattle.jvm_definition.specs.Program.{line_in, successors}
use Rattle.std.specs.Prelude.{Some}
use Rattle.jvm_type_inference.specs.Flow.{FlowsToAll, AllStayBelow}
use Rattle.jvm_type_inference.specs.Frames.{type_frame}
use Rattle.jvm_type_inference.proofs.flow.Flow.leave.Goals as goal

pub returns-in_default-clause-flows : goal.returns-in_default-clause-flows
returns-in_default-clause-flows c line l _ = absurd (none-some line (c.in_default.ensures.found ∙ l))

pub returns-in_default-clause-below : goal.returns-in_default-clause-below
returns-in_default-clause-below c line l = absurd (none-some line (c.in_default.ensures.found ∙ l))

pub returns-clause-flows : goal.returns-clause-flows
returns-clause-flows c =
    let a = c.args in
    let m = a.code.now.method.now in
    let f = type_frame a.frame in
    let frames = a.self.now.frames.items in
    let work = a.self.now.work.items in
    let after = c.flow_to_all.new.self in
    let line = c.in-Some.line.now in
    let targets : c.as_slice.result.now ≡ successors line = c.as_slice.ensures ∙ c.in_ok-successors.ensures in
    let P : Bool → Type 0 = λ good. good ≡ true → FlowsToAll m a.limit f c.as_slice.result.now frames work after.frames.items after.work.items in
    let Q : Bool → Type 0 = λ good. (line' : LinkedLine) → line_in m.lines a.at ≡ Some line' → good ≡ true → FlowsToAll m a.limit f (successors line') frames work after.frames.items after.work.items in
    IfOk-weaker c.flow_to_all.result P Q
    (λ good flows line' l is.
    let same : line ≡ line' = same_Some line line' (c.in-Some.ensures.found ∙ l) in
    subst (λ ts. FlowsToAll m a.limit f ts frames work after.frames.items after.work.items) (targets ∙ ap successors same) (flows is))
    c.flow_to_all.ensures.flows

pub returns-clause-below : goal.returns-clause-below
returns-clause-below c =
    let a = c.args in
    let m = a.code.now.method.now in
    let f = type_frame a.frame in
    let frames = a.self.now.frames.items in
    let after = c.flow_to_all.new.self.frames.items in
    let line = c.in-Some.line.now in
    let targets : c.as_slice.result.now ≡ successors line = c.as_slice.ensures ∙ c.in_ok-successors.ensures in
    let P : Bool → Type 0 = λ good. AllStayBelow m f c.as_slice.result.now frames good after in
    let Q : Bool → Type 0 = λ good. (line' : LinkedLine) → line_in m.lines a.at ≡ Some line' → AllStayBelow m f (successors line') frames good after in
    IfOk-weaker c.flow_to_all.result P Q
    (λ good all line' l.
    let same : line ≡ line' = same_Some line line' (c.in-Some.ensures.found ∙ l) in
    subst (λ ts. AllStayBelow m f ts frames good after) (targets ∙ ap successors same) all)
    c.flow_to_all.ensures.below
