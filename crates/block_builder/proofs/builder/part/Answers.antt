use Rattle.std.proofs.Common.{sym, subst}
use Rattle.block_builder.specs.declared.block.Block.{Block}
use Rattle.block_builder.specs.Blocks.{IsPiece}
use Rattle.block_builder.proofs.BlockLemmas.{part_is_piece}
use Rattle.block_builder.proofs.builder.part.Goals as goal

pub returns-clause-piece : goal.returns-clause-piece
returns-clause-piece c =
    subst (λ (b : Block). IsPiece c.args.units.now b) (sym c.words_from.ensures)
    (part_is_piece c.args.units.now c.args.block.now c.args.first c.args.words c.requires.piece c.requires.begins_within c.requires.ends_within)
