use Rattle.std.proofs.Common.{refl}
use Rattle.command_guest.proofs.AssemblyLemmas.{faulty, program_of, too_long}
use Rattle.command_guest.proofs.assembly.assembled.Goals as goal

pub returns-then-text-gt-LONGEST_TEXT : goal.returns-then-text-gt-LONGEST_TEXT
returns-then-text-gt-LONGEST_TEXT c = record { makes = (refl, too_long c.args.text.now c.if-text-gt-LONGEST_TEXT.true) }

pub returns-in-Ok : goal.returns-in-Ok
returns-in-Ok c =
    record { makes = program_of c.args.text.now c.in-Ok.file.items c.if-text-gt-LONGEST_TEXT.false c.in-Ok.ensures.sound c.in-Ok.ensures.file }

pub returns-in-Err-Refused : goal.returns-in-Err-Refused
returns-in-Err-Refused c =
    record {
      makes = (
        refl,
        faulty c.args.text.now c.in-Err-Refused.fault c.in-Err-Refused.field-0 c.if-text-gt-LONGEST_TEXT.false
            c.in-Err-Refused.field-0-is c.in-Err-Refused.ensures.refused,
      );
    }
