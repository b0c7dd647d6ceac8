use Rattle.std.proofs.Common.{subst, sym, arith}
use Rattle.jvm_type_inference.specs.Actions.{Enters, program_over}
use Rattle.jvm_type_inference.specs.declared.frame.Frame.{Frame}
use Rattle.jvm_type_inference.specs.Frames.{IsSized, type_frame}
use Rattle.jvm_type_inference.proofs.CallLaws.{length-slots}
use Rattle.jvm_type_inference.proofs.code.Code.behind.Goals as goal

pub returns-then-branch-clause-enters : goal.returns-then-branch-clause-enters
returns-then-branch-clause-enters c =
    let code = c.args.self.now in
    let new = c.step.new.self in
    subst (λ (f : Frame). Enters (program_over code.methods.now) code.method.now c.args.instruction.now (type_frame f) (type_frame new)) c.in_ok-behind.ensures
    (c.in_ok-step.ensures.enters c.if-branch.true)

pub returns-then-branch-clause-sized : goal.returns-then-branch-clause-sized
returns-then-branch-clause-sized c old =
    let method = c.args.self.now.method.now in
    let new = c.step.new.self in
    let e = c.in_ok-step.ensures in
    let within = subst (IsSized method.locals method.stack) (sym c.in_ok-behind.ensures) old in
    record {
      locals_fit = e.sized c.if-branch.true within.locals_fit;
      stack_fits = omega (arith, length-slots new.stack, (e.enters c.if-branch.true).within);
    }
