use Rattle.std.proofs.Common.{refl}
use Rattle.command_guest.proofs.ImagingLemmas.{image_made, image_refused}
use Rattle.command_guest.proofs.imaging.image_of_elf.Goals as goal

pub returns-in-Ok : goal.returns-in-Ok
returns-in-Ok c = record {
  makes = image_made c.args.pages c.args.elf.now.file.now c.args.elf.now.code.items c.in-Ok.image c.requires.accepted c.requires.code
      c.in-Ok.ensures.passed c.in-Ok.ensures.image;
}

pub returns-in-Err-Refused : goal.returns-in-Err-Refused
returns-in-Err-Refused c = record {
  makes = (
    refl,
    image_refused c.args.pages c.args.elf.now.file.now c.args.elf.now.code.items c.in-Err-Refused.fault c.requires.accepted c.requires.code
        (rw c.in-Err-Refused.field-0-is at c.in-Err-Refused.ensures.refused),
  );
}
