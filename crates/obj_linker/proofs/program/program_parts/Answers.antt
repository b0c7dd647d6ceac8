use Rattle.std.proofs.Common.{refl}
use Rattle.elf_definition.specs.declared.parts.Parts.{Parts}
use Rattle.obj_linker.proofs.ProgramLemmas.{pushed_program, writable}
use Rattle.obj_linker.proofs.program.program_parts.Goals as goal

pub returns-clause-parts : goal.returns-clause-parts
returns-clause-parts c =
    let e = c.args.ends.now in
    pushed_program c.args.entry e.code e.text e.zeros c.args.image.now c.new-segments.result.items c.push.new.self.items c.push_data.new.segments.items
    c.in_ok-text_part.field-0 c.new-sections.result.items c.push-2.new.self.items _ c.new-segments.ensures.items c.in_ok-push.ensures.items c.in_ok-text_part.ensures
    c.in_ok-push_data.ensures c.new-sections.ensures.items c.in_ok-push-2.ensures.items refl refl refl

pub returns-clause-writable : goal.returns-clause-writable
returns-clause-writable c =
    let e = c.args.ends.now in
    let parts : Parts = record { entry = c.args.entry; segments = c.push_data.new.segments; sections = c.push-2.new.self } in
    writable c.args.entry e.code e.text e.zeros c.args.image.now parts c.requires.short
    (pushed_program c.args.entry e.code e.text e.zeros c.args.image.now c.new-segments.result.items c.push.new.self.items c.push_data.new.segments.items
    c.in_ok-text_part.field-0 c.new-sections.result.items c.push-2.new.self.items parts c.new-segments.ensures.items c.in_ok-push.ensures.items
    c.in_ok-text_part.ensures c.in_ok-push_data.ensures c.new-sections.ensures.items c.in_ok-push-2.ensures.items refl refl refl)
