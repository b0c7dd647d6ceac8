use Rattle.std.proofs.Common.{◌≡◌, ap, ◌∙◌, arith}
use Rattle.elf_definition.specs.Start.{image_of}
use Rattle.mips_memory.specs.Loading.{memory_below}
use Rattle.mips_memory.proofs.memory_loader.add_pages.Goals as goal

pub loop-page-preserved : goal.loop-page-preserved
loop-page-preserved c = c.in_ok-add_page.ensures

pub returns : goal.returns
returns c =
    let last : c.loop-page.page ≡ c.args.end = omega arith in
    c.loop-page.invariant ∙ ap (memory_below (image_of c.args.image.now).memory) last
