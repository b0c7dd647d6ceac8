use Rattle.run_definition.specs.Answer.{next_answer}
use Rattle.mips_decode.proofs.FaultKinds.{turn-faults, run-faults}
use Rattle.mips_decode.proofs.fault_kind_laws.faults_have_kinds.Goals as goal

pub returns-clause-turns : goal.returns-clause-turns
returns-clause-turns g c = turn-faults

pub returns-clause-answered : goal.returns-clause-answered
returns-clause-answered g c = run-faults next_answer

pub returns-clause-served : goal.returns-clause-served
returns-clause-served g c = run-faults g.V.Server.reply
