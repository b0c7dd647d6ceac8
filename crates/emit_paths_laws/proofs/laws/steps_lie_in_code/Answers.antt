use Rattle.emit_paths_laws.proofs.Weighing.{lies-line, lies-alone}
use Rattle.emit_paths_laws.proofs.laws.steps_lie_in_code.Goals as goal

pub returns-clause-lines : goal.returns-clause-lines
returns-clause-lines c program m at i code s lies is = lies-line program m i code at s lies is

pub returns-clause-alone : goal.returns-clause-alone
returns-clause-alone c program m at i code instruction lies is = lies-alone program m i at code instruction lies is
