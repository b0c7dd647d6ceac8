use Rattle.jvm_definition_laws.proofs.OperandLaws.{instruction_fits}
use Rattle.jvm_definition_laws.proofs.safety_laws.operands_fit.Goals as goal

pub returns : goal.returns
returns c = instruction_fits
