use Rattle.jvm_definition_laws.proofs.StepLaws.{moved_state_safe, answered_state_safe}
use Rattle.jvm_definition_laws.proofs.safety_laws.steps_stay_safe.Goals as goal

pub returns-clause-moves : goal.returns-clause-moves
returns-clause-moves c = moved_state_safe

pub returns-clause-asks : goal.returns-clause-asks
returns-clause-asks c = answered_state_safe
