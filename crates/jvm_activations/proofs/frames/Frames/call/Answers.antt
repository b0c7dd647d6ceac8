use Rattle.std.proofs.Common.{◌∙◌, ap}
use Rattle.jvm_definition.specs.Effect.{calls, with_operands}
use Rattle.jvm_activations.specs.Frames.{given, frame_at}
use Rattle.jvm_activations.proofs.FrameLemmas.{entered_as_defined, calls_enter}
use Rattle.jvm_activations.proofs.frames.Frames.call.Goals as goal

pub returns-clause-definition : goal.returns-clause-definition
returns-clause-definition c =
    let before = c.args.self.now in
    ap (frame_at 0) c.call.ensures.entered
    ∙ entered_as_defined c.args.callee (given c.args.callee.parameters before.current) before.waiting.locals_limit before.waiting.operands_limit

pub returns-clause-enters : goal.returns-clause-enters
returns-clause-enters c = λ program words w method e count h.
    let operands = c.args.self.now.current.operands.items in
    ap (λ found. calls c.args.callee.method found (with_operands w operands)) e
    ∙ calls_enter c.args.callee.method c.args.callee.parameters operands w method count h
