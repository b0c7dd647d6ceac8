use Rattle.std.proofs.Common.{◌∙◌, sym, arith, false}
use Rattle.elf_image.proofs.Layouts.{unused}
use Rattle.elf_image.proofs.MarkLemmas.{past_list}
use Rattle.elf_image.proofs.layout.Layout.gap.Goals as goal

pub returns-clause-unused : goal.returns-clause-unused
returns-clause-unused c = λ page ge lt.
    let l = c.args.self.now in
    unused l.segments.value.items l.heap l.stack page
    (sym (l.pages_are page) ∙ past_list l.pages.items page false (omega (arith, ge, lt, l.len)))
    (omega (arith, ge, lt, l.first)) (omega (arith, ge, lt))
