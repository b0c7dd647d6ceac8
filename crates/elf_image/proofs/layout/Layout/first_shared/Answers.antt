use Rattle.std.proofs.Common.{sym, arith}
use Rattle.elf_definition.specs.Pages.{is_shared}
use Rattle.elf_image.proofs.Counting.{least_stays, least_past}
use Rattle.elf_image.proofs.Layouts.{unused_unshared}
use Rattle.elf_image.proofs.layout.Layout.first_shared.Goals as goal

pub returns-in-Some : goal.returns-in-Some
returns-in-Some c =
    let l = c.args.self.now in
    sym (least_stays (is_shared l.segments.value.items l.heap l.stack) c.gap-gap.result.start 524288 c.in-Some.page (sym c.in-Some.ensures) (omega (arith, c.gap-gap.ensures.low, c.gap-gap.ensures.ordered)))

pub first_shared_from-requires-in-None-clause-none : goal.first_shared_from-requires-in-None-clause-none
first_shared_from-requires-in-None-clause-none c =
    let l = c.args.self.now in
    least_past (is_shared l.segments.value.items l.heap l.stack) c.gap-gap.result.start c.gap-gap.result.end (sym c.in-None.ensures) c.gap-gap.ensures.ordered
    (λ page ge lt. unused_unshared l.segments.value.items l.heap l.stack page (c.gap-gap.ensures.unused page ge lt))
