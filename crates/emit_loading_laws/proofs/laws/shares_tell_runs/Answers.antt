use Rattle.emit_loading_laws.proofs.LoadingCodeLaws.Shares.{texts-tell, runs-told, shares-some}
use Rattle.emit_loading_laws.proofs.laws.shares_tell_runs.Goals as goal

pub returns-clause-tell : goal.returns-clause-tell
returns-clause-tell c = texts-tell

pub returns-clause-all : goal.returns-clause-all
returns-clause-all c size runs some = record { told = runs-told size runs some; some = shares-some size runs some }
