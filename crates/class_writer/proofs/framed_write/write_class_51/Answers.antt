use Rattle.std.proofs.Common.{rules, ◌≡◌, None}
use Rattle.class_definition_laws.proofs.FramedClassLaws.{no_fault, same_framed}
use Rattle.class_writer.specs.Limits.{limit}
use Rattle.class_writer.proofs.Spelled.{codes_short}
use Rattle.class_writer.proofs.FramedSpelled.{framed_spells, tables_short}
use Rattle.class_writer.proofs.framed_write.write_class_51.Goals as goal

pub framed_bytes_of-requires-clause-codes : goal.framed_bytes_of-requires-clause-codes
framed_bytes_of-requires-clause-codes c =
    let none : limit c.args.c.now.class ≡ None = search rules in
    codes_short c.args.c.now.class (c.requires.fits none)

pub framed_bytes_of-requires-clause-tables : goal.framed_bytes_of-requires-clause-tables
framed_bytes_of-requires-clause-tables c = tables_short c.args.c.now.tables c.requires.tables.short

pub returns-in-Ok-clause-spelled : goal.returns-in-Ok-clause-spelled
returns-in-Ok-clause-spelled c =
    let none : limit c.args.c.now.class ≡ None = search rules in
    framed_spells c.args.c.now c.in-Ok.bytes.items (c.requires.fits none) c.requires.tables c.in-Ok.ensures

pub returns-in-Ok-clause-sound : goal.returns-in-Ok-clause-sound
returns-in-Ok-clause-sound c =
    let none : limit c.args.c.now.class ≡ None = search rules in
    no_fault c.in-Ok.bytes.items c.args.c.now (framed_spells c.args.c.now c.in-Ok.bytes.items (c.requires.fits none) c.requires.tables c.in-Ok.ensures)

pub returns-in-Ok-clause-only_class : goal.returns-in-Ok-clause-only_class
returns-in-Ok-clause-only_class c =
    let none : limit c.args.c.now.class ≡ None = search rules in
    λ d spells. same_framed c.in-Ok.bytes.items c.args.c.now d (framed_spells c.args.c.now c.in-Ok.bytes.items (c.requires.fits none) c.requires.tables c.in-Ok.ensures) spells
