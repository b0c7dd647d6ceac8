use Rattle.std.proofs.Common.{◌∙◌, arith, false}
use Rattle.elf_image.specs.PageTable.{marked}
use Rattle.elf_image.proofs.Counting.{count_past}
use Rattle.elf_image.proofs.MarkLemmas.{past_list}
use Rattle.elf_image.proofs.page_marks.count_marks.Goals as goal

pub returns-clause-count : goal.returns-clause-count
returns-clause-count c =
    let marks = c.args.marks.now in
    c.loop-page.invariant.value
    ∙ count_past (marked marks) c.loop-page.page 524288 (omega (arith, c.requires)) (λ p ge. past_list marks p false (omega (arith, ge)))
