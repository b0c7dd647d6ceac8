use Rattle.std.proofs.Common.{◌≡◌, ◌++◌, map, take}
use Rattle.translate_program.specs.Blocks.{block_of}
use Rattle.translate_program.proofs.code_layout.add_blocks.Given as goal

abbrev pub invariant-loop-piece : goal.invariant-loop-piece
invariant-loop-piece l = l.blocks.items ≡ l.initial.blocks.items ++ map (block_of l.before) (take l.piece-index l.pieces)
