use Rattle.std.proofs.Common.{◌∙◌}
use Rattle.elf_definition.specs.Start.{image_of}
use Rattle.mips_memory.proofs.LoadLemmas.{below_none, below_gap, below_all}
use Rattle.mips_memory.proofs.ImageLemmas.{no_byte, no_writing}
use Rattle.mips_memory.proofs.memory_loader.load_memory.Goals as goal

pub add_pages-requires-clause-earlier : goal.add_pages-requires-clause-earlier
add_pages-requires-clause-earlier c = c.in_ok-memory.ensures ∙ below_none (image_of c.args.image.now).memory

-- no page of the gap can be read
pub add_pages-requires-2-clause-earlier : goal.add_pages-requires-2-clause-earlier
add_pages-requires-2-clause-earlier c =
    let v = c.args.image.now in
    c.in_ok-add_pages.ensures
    ∙ below_gap (image_of v).memory c.gap-gap.result.start c.gap-gap.result.end c.gap-gap.ensures.ordered
    (λ a ge lt. no_byte v a (c.gap-gap.ensures.unused _ ge lt))
    (λ a ge lt. no_writing v a (c.gap-gap.ensures.unused _ ge lt))

pub returns : goal.returns
returns c =
    c.in_ok-add_pages-2.ensures
    ∙ below_all (image_of c.args.image.now).memory 524288
    (λ a high. no_byte c.args.image.now a (c.laws.ensures.pages _ high))
    (λ a high. no_writing c.args.image.now a (c.laws.ensures.pages _ high))
