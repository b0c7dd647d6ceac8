use Rattle.run_definition.specs.Answer.{next_answer}
use Rattle.jvm_run_laws.proofs.FramesBelow.{runs-above, some-nowhere}
use Rattle.jvm_run_laws.proofs.laws.runs_need_no_frame_below.Goals as goal

pub returns-clause-served : goal.returns-clause-served
returns-clause-served g c = runs-above g.V.Server.reply

pub returns-clause-listed : goal.returns-clause-listed
returns-clause-listed g c = runs-above next_answer

pub returns-clause-some : goal.returns-clause-some
returns-clause-some g c = some-nowhere
