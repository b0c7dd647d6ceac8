use Rattle.std.proofs.Common.{◌∙◌, ◌≤◌, ap, arith}
use Rattle.elf_definition.specs.Pages.{pages_below, count_below, heap_page}
use Rattle.elf_definition.specs.Start.{readable}
use Rattle.elf_image.proofs.MappedLemmas.{mapped_count}
use Rattle.elf_image.proofs.WholeLemmas.{passes}
use Rattle.elf_definition.specs.Segments.{live}
use Rattle.elf_image.proofs.guest_image.Image.mapped.Goals as goal

pub returns-clause-count : goal.returns-clause-count
returns-clause-count c =
    let i = c.self.inside in
    let kept = c.self.invariant in
    let low : heap_page (live i.table.file.bytes) ≤ 0x7F000 = omega (arith, i.layout.first, i.layout.low, ap heap_page kept.same_layout) in
    kept.same_mapped ∙ mapped_count (live i.table.file.bytes) i.layout.heap i.layout.stack low i.layout.stack_fits (passes i.table.file.bytes i.code.items i.layout.heap i.layout.stack kept.passed).layout
    ∙ ap (λ v. count_below (readable v) pages_below) c.self.view_is
