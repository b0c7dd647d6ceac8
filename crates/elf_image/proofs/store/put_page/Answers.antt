use Rattle.std.proofs.Common.{◌∙◌, sym, arith}
use Rattle.elf_image.proofs.StoreLemmas.{put_page, skip_page, page_room}
use Rattle.elf_definition.specs.Segments.{file_end}
use Rattle.elf_image.proofs.store.put_page.Goals as goal

pub put_bytes-requires : goal.put_bytes-requires
put_bytes-requires c =
    page_room c.args.segment.now.vaddr (file_end c.args.segment.now) c.args.page _ _ c.number_of-number.result _ c.requires.first (omega (arith, c.first_on_page.ensures)) c.piece.ensures.len c.if-number-ne0.true
    (omega (arith, c.requires.room c.args.page, c.number_of-number.ensures))

pub returns-then-number-ne0-clause-bytes : goal.returns-then-number-ne0-clause-bytes
returns-then-number-ne0-clause-bytes c = λ at.
    put_page c.args.file.now c.args.index.now c.args.words.now c.put_bytes.new.words c.piece.result.now c.args.segment.now c.args.page c.number_of-number.result _ at
    (sym c.number_of-number.ensures) c.if-number-ne0.true c.requires.distinct (omega (arith, c.first_on_page.ensures)) c.piece.ensures.len c.piece.ensures.bytes c.put_bytes.ensures.bytes

pub returns-else-number-ne0-clause-bytes : goal.returns-else-number-ne0-clause-bytes
returns-else-number-ne0-clause-bytes c = λ at.
    skip_page c.args.file.now c.args.index.now c.args.words.now c.args.segment.now c.args.page at (sym c.number_of-number.ensures ∙ c.if-number-ne0.false)
