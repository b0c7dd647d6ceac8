use Rattle.std.proofs.Common.{refl, subst}
use Rattle.command_deeds.specs.Ends.{Makes}
use Rattle.command_guest.proofs.ImagingLemmas.{elf_refused}
use Rattle.command_guest.specs.Imaging.{IsImaged}
use Rattle.command_guest.proofs.imaging.image_of_file.Goals as goal

pub returns-in-Ok : goal.returns-in-Ok
returns-in-Ok c = record {
  makes = subst (λ b. Makes (IsImaged c.args.pages b) c.image_of_elf.result) c.in-Ok.ensures.file c.image_of_elf.ensures.makes;
}

pub returns-in-Err-Refused : goal.returns-in-Err-Refused
returns-in-Err-Refused c = record {
  makes = (
    refl,
    rw c.in-Err-Refused.field-0-is (elf_refused c.args.pages c.args.file.now c.in-Err-Refused.fault
        (rw c.in-Err-Refused.field-0-is at c.in-Err-Refused.ensures.refused)),
  );
}
