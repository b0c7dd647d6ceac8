use Rattle.std.proofs.Common.{◌≡◌, ◌++◌, replicate}
use Rattle.emit_steps.specs.declared.step.Step.TheVariants.{Does}
use Rattle.jvm_definition.specs.declared.instruction.Instruction.TheVariants.{Nop}
use Rattle.emit_spans.proofs.opening.append_padding.Given as goal

abbrev pub invariant-loop : goal.invariant-loop
invariant-loop l = l.code.items ≡ l.fn.code.items ++ replicate l.counter (Does Nop)
