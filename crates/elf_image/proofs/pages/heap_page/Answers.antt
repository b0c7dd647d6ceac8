use Rattle.std.proofs.Common.{◌≡◌, ◌∙◌, ap, arith, ◌+◌, ◌/◌}
use Rattle.std.specs.List.{fold}
use Rattle.std.proofs.lemmas.List.{take_all}
use Rattle.std.specs.Prelude.{max}
use Rattle.elf_definition.specs.Segments.{segment_end}
use Rattle.elf_definition.specs.Pages.{heap_page}
use Rattle.elf_image.proofs.Layouts.{all_behind}
use Rattle.elf_image.proofs.pages.heap_page.Goals as goal

pub returns-clause-behind : goal.returns-clause-behind
unfolding heap_page
returns-clause-behind c = λ k d within.
    let all : c.loop-s.page ≡ heap_page c.args.segments.now =
    c.loop-s.invariant.value ∙ ap (fold (λ page s. max page ((segment_end s + 4095) / 4096)) 0) (take_all c.loop-s.s-index c.args.segments.now c.loop-s-test.false) in
    omega (arith, all, all_behind c.args.segments.now k d within)
