use Rattle.std.proofs.Common.{◌≡◌}
use Rattle.elf_definition.specs.Start.{image_of}
use Rattle.mips_memory.specs.Pages.{memory_of}
use Rattle.mips_memory.specs.Loading.{memory_below}
use Rattle.mips_memory.proofs.memory_loader.add_pages.Given as goal

abbrev pub invariant-loop-page : goal.invariant-loop-page
invariant-loop-page l = memory_of l.memory ≡ memory_below (image_of l.image).memory l.page
