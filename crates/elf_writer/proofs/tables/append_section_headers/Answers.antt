use Rattle.elf_writer.proofs.AppendLemmas.{appended_section}
use Rattle.elf_writer.proofs.tables.append_section_headers.Goals as goal

pub loop-section-preserved : goal.loop-section-preserved
loop-section-preserved c =
    appended_section c.loop-section.file.items c.append_section_header.new.file.items _ c.args.start
    c.file_offset_of-offset.result c.args.segments.now c.loop-section.rest.now c.in-Some.others.now c.in-Some.section.now
    c.in-Some.ensures.cases.0 c.file_offset_of-offset.ensures c.in_ok-append_section_header.ensures c.loop-section.invariant
