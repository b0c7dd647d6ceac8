use Rattle.std.proofs.Common.{ap, refl}
use Rattle.jvm_link.specs.declared.linked.Linked.{Linked}
use Rattle.command_guest.proofs.ClassLemmas.{type_checked}
use Rattle.command_frames.proofs.tabling.accept_linked.Goals as goal

pub returns-in-Ok : goal.returns-in-Ok
returns-in-Ok c = record {
  makes = type_checked c.args.linked.classes c.in-Ok.verified (ap (λ (l : Linked). l.classes) c.in-Ok.ensures.verified);
}

pub returns-in-Err-Refused : goal.returns-in-Err-Refused
returns-in-Err-Refused c = record {
  makes = (refl, (c.in-Err-Refused.fault, rw c.in-Err-Refused.field-0-is at c.in-Err-Refused.ensures.refused, refl));
}
