use Rattle.std.proofs.Common.{◌∙◌, ◌*◌, ◌+◌, ◌-◌, sym, ap, arith, get_or, take, drop}
use Rattle.elf_image.proofs.TableLemmas.{page_words}
use Rattle.elf_image.proofs.page_table.PageTable.page.Goals as goal

pub returns-clause-words : goal.returns-clause-words
returns-clause-words c = λ k lt.
    let first = 1024 * (c.place-place.result - 1) in
    let place = c.place-place.ensures ∙ ap (λ p. get_or c.args.self.now.index.items p 0) c.from.ensures in
    ap (λ s. get_or (take (first + 1024 - first) (drop first s)) k 0) c.as_slice.ensures.value
    ∙ page_words c.args.self.now.file.bytes c.args.self.now.segments.value.items c.args.self.now.index.items c.args.self.now.stored.items c.args.page c.place-place.result
    (first + 1024 - first) k (sym place) c.if-place-eq0.false (omega arith) lt c.args.self.now.words
