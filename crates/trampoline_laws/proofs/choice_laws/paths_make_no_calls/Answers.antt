use Rattle.trampoline_laws.proofs.ChoiceLaws.Calls.{path-beside}
use Rattle.trampoline_laws.proofs.choice_laws.paths_make_no_calls.Goals as goal

pub returns : goal.returns
returns c = path-beside
