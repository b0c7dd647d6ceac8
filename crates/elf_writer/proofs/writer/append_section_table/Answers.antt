use Rattle.std.proofs.lemmas.Result.{on_ok_weaker}
use Rattle.elf_writer.proofs.AppendLemmas.{appended_table}
use Rattle.elf_writer.proofs.writer.append_section_table.Goals as goal

pub returns-in_ok-extend_from_slice-in-len1-up : goal.returns-in_ok-extend_from_slice-in-len1-up
returns-in_ok-extend_from_slice-in-len1-up c =
    on_ok_weaker c.append_section_headers.result
    (appended_table c.args.file.now.items c.append_padding.new.file.items c.extend_from_slice.new.self.items _ c.args.end
    c.args.segments.now c.args.sections.now c.in-len1-up.len_at_least c.in_ok-append_padding-in-len1-up.ensures
    (c.in_ok-extend_from_slice-in-len1-up).ensures.items)
    (rw (← c.contents_place_of.ensures) c.append_section_headers.ensures)
