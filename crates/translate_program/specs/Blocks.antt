-- The blocks of a translation: the pieces of its classes of code, with the numbers that their spans have in the layout.
use Rattle.std.specs.Prelude.{ℕ, ◌+◌, List, [], ◌∷◌, ◌++◌, map, length}
use Rattle.translate_classes.specs.declared.piece.Piece.{Piece}
use Rattle.translate_classes.specs.Blocks.{pieces_of_class}
use Rattle.translate_program.specs.declared.block_info.BlockInfo.{BlockInfo}
use Rattle.translate_program.specs.declared.told_blocks.ToldBlocks.{ToldBlocks}
use Rattle.translate_program.specs.declared.told_blocks.ToldBlocks.TheVariants.{Listed, Omitted}
use Rattle.translate_program.specs.Classes.{Placed}

-- a piece of a class, behind so many spans of other classes
abbrev pub block_of : ℕ → Piece → BlockInfo
block_of before p = record {
  span = before + p.span;
  from = p.from;
  to = p.to;
  first = p.first;
  words = p.words;
}

abbrev pub blocks_of_class : ℕ → Placed → List BlockInfo
blocks_of_class before c = map (block_of before) (pieces_of_class c.part c.spans)

-- those of classes, each behind the spans of those before it
abbrev pub blocks_of : ℕ → List Placed → List BlockInfo
blocks_of before [] = []
blocks_of before (c ∷ classes) = blocks_of_class before c
    ++ blocks_of (before + length c.spans) classes

-- those that are told: all of them, or none
abbrev pub told_of : ToldBlocks → List BlockInfo → List BlockInfo
told_of Listed blocks = blocks
told_of Omitted blocks = []
