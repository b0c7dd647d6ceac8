use Rattle.std.proofs.Common.{refl}
use Rattle.command_guest.proofs.ClassLemmas.{link_refused, linked_makes}
use Rattle.command_guest.proofs.accepting.accept_classes.Goals as goal

pub returns-in-Ok : goal.returns-in-Ok
returns-in-Ok c = record {
  makes = linked_makes c.args.classes.items c.in-Ok.linked c.accept_linked.result c.in-Ok.ensures.linked c.accept_linked.ensures.makes;
}

pub returns-in-Err-Refused : goal.returns-in-Err-Refused
returns-in-Err-Refused c = record {
  makes = (
    refl,
    rw c.in-Err-Refused.field-0-is (link_refused c.args.classes.items c.in-Err-Refused.fault
        (rw c.in-Err-Refused.field-0-is at c.in-Err-Refused.ensures.refused)),
  );
}
