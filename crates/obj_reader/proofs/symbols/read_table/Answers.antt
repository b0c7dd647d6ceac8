use Rattle.std.proofs.Common.{length}
use Rattle.obj_reader.proofs.SectionLemmas.{inside_table, inside_strings}
use Rattle.obj_reader.proofs.symbols.read_table.Goals as goal

pub entries-requires-clause-inside : goal.entries-requires-clause-inside
entries-requires-clause-inside c = inside_table (length c.args.b.now) c.args.sections.now c.args.table.now c.requires.inside c.requires.there

pub bytes_in-requires : goal.bytes_in-requires
bytes_in-requires c =
    inside_strings (length c.args.b.now) c.args.sections.now c.args.table.now c.in_ok-strings.strings c.requires.inside c.requires.there
    c.in_ok-strings.ensures.strings
