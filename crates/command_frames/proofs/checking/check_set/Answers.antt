use Rattle.command_frames.proofs.CheckLemmas.{members-make}
use Rattle.command_frames.proofs.checking.check_set.Goals as goal

pub returns-in-Classes : goal.returns-in-Classes
returns-in-Classes c = record {
  makes = members-make c.args.named.now c.args.set c.in-Classes.members c.check_members.result c.in-Classes.is c.check_members.ensures.makes;
}
