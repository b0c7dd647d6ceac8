use Rattle.std.proofs.Common.{arith}
use Rattle.elf_image.proofs.page_table.words_fit.Goals as goal

pub returns : goal.returns
returns c = λ i. omega (arith, c.type_inv._words i)
