-- The step that ends a method.
use Rattle.jvm_definition.specs.declared.return_name.ReturnName.TheVariants.{Return}
use Rattle.jvm_definition.specs.declared.instruction.Instruction.TheVariants as instructions
use Rattle.emit_steps.specs.declared.step.Step.{Step}
use Rattle.emit_steps.specs.declared.step.Step.TheVariants.{Does}

-- a method that gives nothing ends
abbrev pub returns : Step
returns = Does (instructions.Return Return)
