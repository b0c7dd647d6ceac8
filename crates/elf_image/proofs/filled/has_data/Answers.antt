use Rattle.std.proofs.Common.{◌∙◌}
use Rattle.elf_image.proofs.PieceLemmas.{data_of}
use Rattle.elf_image.proofs.filled.has_data.Goals as goal

pub returns : goal.returns
returns c = c.is_filled.ensures ∙ data_of c.args.file.now c.piece.result.now c.args.segment.now c.args.page c.piece.ensures.len c.piece.ensures.bytes
