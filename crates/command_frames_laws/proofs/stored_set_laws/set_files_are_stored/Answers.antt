use Rattle.command_frames_laws.proofs.ApartLaws.{set-stored}
use Rattle.command_frames_laws.proofs.stored_set_laws.set_files_are_stored.Goals as goal

pub returns : goal.returns
returns c = λ version files later name members stored is set. set-stored version files later name members stored is set
