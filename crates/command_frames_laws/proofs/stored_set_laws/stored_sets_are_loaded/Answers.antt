use Rattle.command_frames_laws.proofs.SetLaws.{stored-loaded}
use Rattle.command_frames_laws.proofs.stored_set_laws.stored_sets_are_loaded.Goals as goal

pub returns : goal.returns
returns c = λ files later name members framed stored is kept are spelled s. stored-loaded files later name members framed stored is kept are spelled s
