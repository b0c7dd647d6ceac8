use Rattle.jvm_definition_laws.proofs.StepLaws.{start_safe}
use Rattle.jvm_definition_laws.proofs.safety_laws.start_is_safe.Goals as goal

pub returns : goal.returns
returns c = start_safe
