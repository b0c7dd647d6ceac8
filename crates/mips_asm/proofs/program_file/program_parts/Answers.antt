use Rattle.mips_asm.proofs.ProgramLemmas.{pushed_parts, writable}
use Rattle.mips_asm.proofs.program_file.program_parts.Goals as goal

pub returns-clause-writable : goal.returns-clause-writable
returns-clause-writable c =
    let text = c.args.segments.text.items in
    let bytes = c.args.segments.data_bytes.items in
    writable (record { entry = 4194304; segments = c.push_data.new.parts; sections = c.new.result }) text bytes
    (pushed_parts c.new-parts.result.items c.push.new.self.items c.push_data.new.parts.items c.whole_part.result text bytes
    c.new-parts.ensures.items c.in_ok-push.ensures.items c.in_ok-push_data.ensures c.whole_part.ensures)
    c.new.ensures.items c.requires.short_text c.requires.short_data
