use Rattle.std.proofs.Common.{◌∙◌, ap}
use Rattle.mips_definition.specs.Memory.{word_of_lanes}
use Rattle.elf_definition.specs.Header.{order_of}
use Rattle.elf_definition.specs.Content.{stored_code_word}
use Rattle.elf_image.proofs.TableLemmas.{word_at}
use Rattle.elf_image.proofs.page_table.PageTable.code_word.Goals as goal

pub returns : goal.returns
unfolding stored_code_word
returns c =
    let table = c.args.self.now in
    c.word_of_lanes.ensures
    ∙ ap (λ o. word_of_lanes o c.word.result) table.order_is
    ∙ ap (word_of_lanes (order_of table.file.bytes)) (c.word.ensures ∙ word_at table.file.bytes table.segments.value.items table.index.items table.stored.items c.args.at c.requires table.words)
