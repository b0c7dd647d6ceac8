use Rattle.jvm_definition_laws.proofs.StepLaws.{never_stuck}
use Rattle.jvm_definition_laws.proofs.safety_laws.safe_states_step.Goals as goal

pub returns : goal.returns
returns c = never_stuck
