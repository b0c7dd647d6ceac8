use Rattle.command_frames_laws.proofs.ReadLaws.{members-kept}
use Rattle.command_frames_laws.proofs.stored_set_laws.read_sets_keep_the_rules.Goals as goal

pub returns : goal.returns
returns c = λ version files name members are is. members-kept version files name members are is
