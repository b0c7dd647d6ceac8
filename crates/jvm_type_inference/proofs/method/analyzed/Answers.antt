use Rattle.std.proofs.Common.{◌≤◌, length, sym, ap, ◌∙◌, arith}
use Rattle.jvm_type_inference.specs.Actions.{program_over}
use Rattle.jvm_type_inference.proofs.CallLaws.{some-there}
use Rattle.jvm_type_inference.proofs.SettleLaws.{first-rests}
use Rattle.jvm_type_inference.proofs.method.analyzed.Goals as goal

pub admit_all-requires-clause-rests : goal.admit_all-requires-clause-rests
admit_all-requires-clause-rests c =
    let m = c.args.code.now.method.now in
    let fits : length m.parameters ≤ m.locals = omega (arith, c.if-as_slice-from.false, ap length c.as_slice.ensures, c.from.ensures) in
    let line = some-there _ (sym c.has_line.ensures.found ∙ c.if-not-has_line.false) in
    first-rests (program_over c.args.code.now.methods.now) m c.args.before.now line.0 (length c.args.code.now.starts.items) c.in_ok-flow.flow.frames.items line.1 fits (c.has_line.ensures.within c.if-not-has_line.false) c.in_ok-flow.ensures.frames
