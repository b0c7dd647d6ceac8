use Rattle.std.proofs.Common.{◌≡◌, ◌+◌, suc, Bool, true, false, [], subst, sym, ap, ◌∙◌, add-one, arith}
use Rattle.jvm_definition.specs.Program.{line_in, successors}
use Rattle.jvm_type_inference.specs.Actions.{program_over}
use Rattle.jvm_type_inference.specs.Blocks.{Closed}
use Rattle.jvm_type_inference.specs.Flow.{FlowsToAll, AllStayBelow, Keeps, KeepsBelow, Settles, AdmitsTo}
use Rattle.jvm_type_inference.specs.Frames.{type_frame}
use Rattle.jvm_type_inference.proofs.CallLaws.{some-there}
use Rattle.jvm_type_inference.proofs.SettleLaws.{IsSettling, closed-behind, left, left-below, none-left, refused-settling, rests-more}
use Rattle.jvm_type_inference.proofs.flow.Flow.admit_walked.Goals as goal

pub returns-then-not-branch-clause-admits : goal.returns-then-not-branch-clause-admits
returns-then-not-branch-clause-admits c =
    let a = c.args in
    let p = program_over a.code.now.methods.now in
    let m = a.code.now.method.now in
    let frames = a.self.now.frames.items in
    let work = a.self.now.work.items in
    let after = c.leave.new.self.frames.items in
    let later = c.leave.new.self.work.items in
    let from = c.requires.walk in
    let e = type_frame a.behind in
    let first = some-there (line_in m.lines a.at) from.2 in
    none-left p m a.before.now c.requires.parts a.at a.last first.0 from.0 e frames after later c.requires.rests first.1 from.1 from.3 from.4
    (left-below p m a.before.now c.requires.parts a.at a.last first.0 from.0 e frames after later c.requires.rests first.1 from.1 from.3 from.4 false
    (λ l is. subst (λ good. AllStayBelow m e (successors l) frames good after) c.if-not-branch.true (c.in_ok-leave.ensures.below l is)))

pub settle-requires-clause-closed : goal.settle-requires-clause-closed
settle-requires-clause-closed c =
    let a = c.args in
    let from = c.requires.walk in
    subst (Closed a.before.now) (sym (add-one a.last))
    (closed-behind (program_over a.code.now.methods.now) a.code.now.method.now a.before.now a.at a.last from.0 (type_frame a.behind) c.requires.parts from.4)

pub settle-requires-clause-keeps : goal.settle-requires-clause-keeps
settle-requires-clause-keeps c =
    let a = c.args in
    let p = program_over a.code.now.methods.now in
    let m = a.code.now.method.now in
    let frames = a.self.now.frames.items in
    let work = a.self.now.work.items in
    let after = c.leave.new.self.frames.items in
    let later = c.leave.new.self.work.items in
    let from = c.requires.walk in
    let e = type_frame a.behind in
    let first = some-there (line_in m.lines a.at) from.2 in
    let passed = c.if-not-branch.false in
    let s : IsSettling p m a.before.now (suc a.last) frames after later = left p m a.before.now c.requires.parts a.at a.last first.0 from.0 e frames after later c.requires.rests first.1 from.1 from.3 from.4 work c.requires.done
    (λ l is. subst (λ n. FlowsToAll m n e (successors l) frames work after later) (add-one a.last) (c.in_ok-leave.ensures.flows l is passed))
    (λ l is. subst (λ good. AllStayBelow m e (successors l) frames good after) passed (c.in_ok-leave.ensures.below l is)) in
    subst (λ n. Keeps p m a.before.now n after later) (sym (add-one a.last)) s.keeps

pub returns-then-not-branch-2-clause-admits : goal.returns-then-not-branch-2-clause-admits
returns-then-not-branch-2-clause-admits c =
    let a = c.args in
    let p = program_over a.code.now.methods.now in
    let m = a.code.now.method.now in
    let frames = a.self.now.frames.items in
    let work = a.self.now.work.items in
    let after = c.leave.new.self.frames.items in
    let later = c.leave.new.self.work.items in
    let from = c.requires.walk in
    let e = type_frame a.behind in
    let first = some-there (line_in m.lines a.at) from.2 in
    let passed = c.if-not-branch.false in
    let s : IsSettling p m a.before.now (suc a.last) frames after later = left p m a.before.now c.requires.parts a.at a.last first.0 from.0 e frames after later c.requires.rests first.1 from.1 from.3 from.4 work c.requires.done
    (λ l is. subst (λ n. FlowsToAll m n e (successors l) frames work after later) (add-one a.last) (c.in_ok-leave.ensures.flows l is passed))
    (λ l is. subst (λ good. AllStayBelow m e (successors l) frames good after) passed (c.in_ok-leave.ensures.below l is)) in
    let end = c.settle.new.self.frames.items in
    let below = subst (λ n. KeepsBelow p m n after false end) (add-one a.last) (subst (λ good. KeepsBelow p m (a.last + 1) after good end) c.if-not-branch-2.true c.in_ok-settle.ensures.below) in
    none-left p m a.before.now c.requires.parts a.at a.last first.0 from.0 e frames end later c.requires.rests first.1 from.1 from.3 from.4
    (refused-settling p m a.before.now (suc a.last) frames after later false end s below)

pub returns-clause-admits : goal.returns-clause-admits
returns-clause-admits c =
    let a = c.args in
    let p = program_over a.code.now.methods.now in
    let m = a.code.now.method.now in
    let frames = a.self.now.frames.items in
    let work = a.self.now.work.items in
    let after = c.leave.new.self.frames.items in
    let later = c.leave.new.self.work.items in
    let from = c.requires.walk in
    let e = type_frame a.behind in
    let first = some-there (line_in m.lines a.at) from.2 in
    let passed = c.if-not-branch.false in
    let s : IsSettling p m a.before.now (suc a.last) frames after later = left p m a.before.now c.requires.parts a.at a.last first.0 from.0 e frames after later c.requires.rests first.1 from.1 from.3 from.4 work c.requires.done
    (λ l is. subst (λ n. FlowsToAll m n e (successors l) frames work after later) (add-one a.last) (c.in_ok-leave.ensures.flows l is passed))
    (λ l is. subst (λ good. AllStayBelow m e (successors l) frames good after) passed (c.in_ok-leave.ensures.below l is)) in
    let end = c.settle.new.self.frames.items in
    let done = c.if-not-branch-2.false in
    let settled = subst (λ n. Settles p m a.before.now n after end) (add-one a.last) (c.in_ok-settle.ensures.settles done) in
    let below = subst (λ n. KeepsBelow p m n after true end) (add-one a.last) (subst (λ good. KeepsBelow p m (a.last + 1) after good end) done c.in_ok-settle.ensures.below) in
    subst (λ n. AdmitsTo p m a.before.now a.at n frames end c.settle.new.self.work.items) (sym (add-one a.last)) (record {
      order = let o = from.4.covers.order in omega (arith, o);
      rests = rests-more p m a.before.now a.at a.last from.0 frames after later end c.requires.rests from.4.covers s settled below;
      size = settled.rises.size ∙ s.rises.size;
      done = c.in_ok-settle.ensures.done done;
    })
