use Rattle.command_frames_laws.proofs.AloneLaws.{stored-alone}
use Rattle.command_frames_laws.proofs.stored_set_laws.linked_sets_stand_alone.Goals as goal

pub returns : goal.returns
returns c = λ version files later name members stored is linked own held. stored-alone version files later name members stored is linked own held
