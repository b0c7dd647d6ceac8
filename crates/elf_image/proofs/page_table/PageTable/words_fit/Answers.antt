use Rattle.std.proofs.Common.{ℕ, ◌<◌, ◌^◌, ap, subst, arith, get_or}
use Rattle.elf_image.proofs.TableLemmas.{table_word-lt}
use Rattle.elf_image.proofs.page_table.PageTable.words_fit.Goals as goal

pub returns : goal.returns
returns c = λ k.
    let small : (i : ℕ) → get_or c.args.self.now.stored.items i 0 < 2 ^ 32 = λ i. omega (arith, c.words_fit.ensures i, ap (λ xs. get_or xs i 0) c.as_slice.ensures.value) in
    subst (λ w. w < 2 ^ 32) (c.args.self.now.words k) (table_word-lt c.args.self.now.index.items c.args.self.now.stored.items k small)
