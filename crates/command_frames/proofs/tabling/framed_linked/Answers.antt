use Rattle.std.proofs.Common.{Ok, refl}
use Rattle.class_definition.specs.Linking.{program_of}
use Rattle.jvm_type_inference.proofs.Unique.{AllTyped-from_least}
use Rattle.command_frames.proofs.tabling.framed_linked.Goals as goal

pub returns-in-Ok-clause-makes : goal.returns-in-Ok-clause-makes
returns-in-Ok-clause-makes c =
    let classes = c.args.linked.classes in
    record {
      typed = Ok classes;
      typed_is = (refl, AllTyped-from_least (program_of classes) c.in-Ok.ensures.typed);
      framed = (c.in-Ok.ensures.framed, c.in-Ok.ensures.small);
    }
