use Rattle.std.proofs.Common.{refl, sym}
use Rattle.obj_reader.specs.Files.{files_of}
use Rattle.command_link.proofs.LinkLemmas.{faulty, is_too_large, program_of}
use Rattle.command_link.proofs.linking.linked.Goals as goal

pub returns-in-Some : goal.returns-in-Some
returns-in-Some c = record {
  makes = (
    refl,
    is_too_large c.args.entry.now (files_of c.args.objects.now) c.in-Some.object c.too_large.result (sym c.in-Some.ensures.first) c.too_large.ensures,
  );
}

pub returns-in-Ok : goal.returns-in-Ok
returns-in-Ok c = record {
  makes = program_of c.args.entry.now (files_of c.args.objects.now) c.in-Ok.program.items (sym c.in_default.ensures.first) c.in-Ok.ensures.sound c.in-Ok.ensures.file;
}

pub returns-in-Err-Refused : goal.returns-in-Err-Refused
returns-in-Err-Refused c = record {
  makes = (
    refl,
    faulty c.args.entry.now (files_of c.args.objects.now) c.in-Err-Refused.fault c.in-Err-Refused.field-0 (sym c.in_default.ensures.first)
        c.in-Err-Refused.field-0-is c.in-Err-Refused.ensures.refused,
  );
}
