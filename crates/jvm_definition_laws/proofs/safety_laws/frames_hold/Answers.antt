use Rattle.jvm_definition_laws.proofs.OperandLaws.{frame_holds, caller_holds}
use Rattle.jvm_definition_laws.proofs.safety_laws.frames_hold.Goals as goal

pub returns-clause-running : goal.returns-clause-running
returns-clause-running c = frame_holds

pub returns-clause-waiting : goal.returns-clause-waiting
returns-clause-waiting c = caller_holds
