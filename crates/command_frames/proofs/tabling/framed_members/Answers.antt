use Rattle.std.proofs.Common.{refl}
use Rattle.command_frames.proofs.TablingLemmas.{link-refused, linked-makes}
use Rattle.command_frames.proofs.tabling.framed_members.Goals as goal

pub returns-in-Ok-clause-makes : goal.returns-in-Ok-clause-makes
returns-in-Ok-clause-makes c =
    linked-makes c.args.classes.items c.in-Ok.linked c.framed_linked.result c.in-Ok.ensures.linked c.framed_linked.ensures.makes

pub returns-in-Err-Refused-clause-makes : goal.returns-in-Err-Refused-clause-makes
returns-in-Err-Refused-clause-makes c = (
  refl,
  rw c.in-Err-Refused.field-0-is (link-refused c.args.classes.items c.in-Err-Refused.fault
      (rw c.in-Err-Refused.field-0-is at c.in-Err-Refused.ensures.refused)),
)
