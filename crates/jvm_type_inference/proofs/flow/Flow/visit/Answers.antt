use Rattle.std.proofs.Common.{Bool, true}
use Rattle.std.proofs.lemmas.Result.{IfOk-weaker}
use Rattle.jvm_definition.specs.declared.linked_line.LinkedLine.{LinkedLine}
use Rattle.jvm_definition.specs.Program.{line_in, successors}
use Rattle.std.specs.Prelude.{◌≡◌, Some}
use Rattle.jvm_type_inference.specs.Actions.{program_over}
use Rattle.jvm_type_inference.specs.Flow.{FlowsToAll, AllStayBelow, Visits, KeepsBelow}
use Rattle.jvm_type_inference.specs.Frames.{type_frame}
use Rattle.jvm_type_inference.proofs.CallLaws.{some-there}
use Rattle.jvm_type_inference.proofs.SettleLaws.{visited, visited-nothing, visited-below, refused-visit}
use Rattle.jvm_type_inference.proofs.flow.Flow.visit.Goals as goal

pub returns-in_default-clause-visits : goal.returns-in_default-clause-visits
returns-in_default-clause-visits c _ =
    let a = c.args in
    let none = rw c.in_default.is at c.in_ok-walked.ensures.walked in
    visited-nothing (program_over a.code.now.methods.now) a.code.now.method.now a.before.now a.limit a.at a.self.now.frames.items a.self.now.work.items none

pub returns-in-Fails-clause-below : goal.returns-in-Fails-clause-below
returns-in-Fails-clause-below c =
    let a = c.args in
    let frames = a.self.now.frames.items in
    let from = rw c.in-Some.is at c.in_ok-walked.ensures.walked in
    let walk = rw c.in-Fails.is at from.4 in
    refused-visit (program_over a.code.now.methods.now) a.code.now.method.now a.before.now a.limit a.at c.in-Fails._at from.0 frames frames c.requires.closed c.requires.admitted from.3 walk

pub returns-in-Ends-clause-visits : goal.returns-in-Ends-clause-visits
returns-in-Ends-clause-visits c =
    let a = c.args in
    let p = program_over a.code.now.methods.now in
    let m = a.code.now.method.now in
    let frames = a.self.now.frames.items in
    let work = a.self.now.work.items in
    let after = c.leave.new.self in
    let from = rw c.in-Some.is at c.in_ok-walked.ensures.walked in
    let walk = rw c.in-Ends.is at from.4 in
    let last = c.in-Ends.last in
    let e = type_frame c.in-Ends.behind in
    let line = some-there (line_in m.lines last) walk.there in
    let P : Bool → Type 0 = λ good. (l : LinkedLine) → line_in m.lines last ≡ Some l → good ≡ true → FlowsToAll m a.limit e (successors l) frames work after.frames.items after.work.items in
    let Q : Bool → Type 0 = λ good. good ≡ true → Visits p m a.before.now a.limit a.at frames work after.frames.items after.work.items in
    IfOk-weaker c.leave.result P Q
    (λ good flows is. visited p m a.before.now a.limit a.at last line.0 from.0 e frames work after.frames.items after.work.items from.3 walk line.1 (flows line.0 line.1 is))
    c.leave.ensures.flows

pub returns-in-Ends-clause-below : goal.returns-in-Ends-clause-below
returns-in-Ends-clause-below c =
    let a = c.args in
    let p = program_over a.code.now.methods.now in
    let m = a.code.now.method.now in
    let frames = a.self.now.frames.items in
    let after = c.leave.new.self.frames.items in
    let from = rw c.in-Some.is at c.in_ok-walked.ensures.walked in
    let walk = rw c.in-Ends.is at from.4 in
    let last = c.in-Ends.last in
    let e = type_frame c.in-Ends.behind in
    let line = some-there (line_in m.lines last) walk.there in
    let P : Bool → Type 0 = λ good. (l : LinkedLine) → line_in m.lines last ≡ Some l → AllStayBelow m e (successors l) frames good after in
    let Q : Bool → Type 0 = λ good. KeepsBelow p m a.limit frames good after in
    IfOk-weaker c.leave.result P Q
    (λ good all. visited-below p m a.before.now a.limit a.at last line.0 from.0 e frames good after c.requires.closed c.requires.admitted from.3 walk line.1 (all line.0 line.1))
    c.leave.ensures.below
