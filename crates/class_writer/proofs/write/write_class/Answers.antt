use Rattle.std.proofs.Common.{rules, ◌≡◌, None}
use Rattle.class_definition_laws.proofs.ClassLaws.{no_fault, same_class}
use Rattle.class_writer.specs.Limits.{limit}
use Rattle.class_writer.proofs.Spelled.{codes_short, written_spells}
use Rattle.class_writer.proofs.write.write_class.Goals as goal

pub bytes_of-requires-clause-codes : goal.bytes_of-requires-clause-codes
bytes_of-requires-clause-codes c =
    let none : limit c.args.c.now ≡ None = search rules in
    codes_short c.args.c.now (c.requires none)

pub returns-in-Ok-clause-spelled : goal.returns-in-Ok-clause-spelled
returns-in-Ok-clause-spelled c =
    let none : limit c.args.c.now ≡ None = search rules in
    written_spells c.args.c.now c.in-Ok.bytes.items (c.requires none) c.in-Ok.ensures

pub returns-in-Ok-clause-sound : goal.returns-in-Ok-clause-sound
returns-in-Ok-clause-sound c =
    let none : limit c.args.c.now ≡ None = search rules in
    no_fault c.in-Ok.bytes.items c.args.c.now (written_spells c.args.c.now c.in-Ok.bytes.items (c.requires none) c.in-Ok.ensures)

pub returns-in-Ok-clause-only_class : goal.returns-in-Ok-clause-only_class
returns-in-Ok-clause-only_class c =
    let none : limit c.args.c.now ≡ None = search rules in
    λ d spells. same_class c.in-Ok.bytes.items c.args.c.now d (written_spells c.args.c.now c.in-Ok.bytes.items (c.requires none) c.in-Ok.ensures) spells
