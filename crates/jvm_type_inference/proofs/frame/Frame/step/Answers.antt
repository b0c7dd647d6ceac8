use Rattle.jvm_type_inference.specs.Actions.{program_over}
use Rattle.jvm_type_inference.proofs.frame.Frame.step.Goals as goal

pub returns-clause-sized : goal.returns-clause-sized
returns-clause-sized c _ fits =
    c.in_ok-act.ensures.sized c.args.code.now.method.now.locals fits
    ((c.is_local_within.ensures (program_over c.args.code.now.methods.now)).0 c.if-not-is_local_within.false)
