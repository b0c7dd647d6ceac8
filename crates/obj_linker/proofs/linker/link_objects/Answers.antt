use Rattle.std.proofs.Common.{List, ℕ, subst, ◌∙◌}
use Rattle.obj_reader.specs.Files.{files_of}
use Rattle.obj_linker.specs.Link.{IsFileWith}
use Rattle.obj_linker.proofs.LinkLemmas.{file_with, linked}
use Rattle.obj_linker.proofs.linker.link_objects.Goals as goal

pub returns-clause-file : goal.returns-clause-file
returns-clause-file c =
    let files = files_of c.args.objects.now in
    let t = c.in_ok-tables.tables in
    let p = c.in_ok-placed.placed in
    let bytes = c.in_ok-file.file.items in
    linked files t.sections.items t.symbols.items t.relocations.items c.args.entry.now bytes c.in_ok-tables.ensures.sections
    c.in_ok-tables.ensures.symbols c.in_ok-tables.ensures.relocations
    (subst (λ (e : List ℕ). IsFileWith files t.sections.items t.symbols.items t.relocations.items e bytes) (c.in_ok-resolved.ensures.name ∙ c.as_bytes.ensures.value)
    (file_with files t.sections.items t.symbols.items t.relocations.items c.in_ok-resolved.resolved.entry.name.now bytes c.as_slice.result.now p.entry p.ends
    c.in_ok-placed.ensures.entry (c.as_slice.ensures.value ∙ c.in_ok-placed.ensures.image) c.in_ok-placed.ensures.ends c.in_ok-file.ensures))
