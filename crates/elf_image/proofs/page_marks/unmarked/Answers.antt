use Rattle.std.proofs.Common.{◌∙◌, ap}
use Rattle.std.proofs.lemmas.Result.{IfOk-weaker}
use Rattle.elf_image.specs.PageTable.{marked}
use Rattle.elf_image.proofs.MarkLemmas.{none_marked}
use Rattle.elf_image.proofs.page_marks.unmarked.Goals as goal

pub returns-clause-none : goal.returns-clause-none
returns-clause-none c =
    IfOk-weaker c.vec.result _ _ (λ v same. λ page. ap (λ xs. marked xs page) (same (λ y e. e)) ∙ none_marked c.args.pages page) c.vec.ensures.items_if_clones_equal
