use Rattle.std.proofs.Common.{◌≡◌, ◌++◌, length, take}
use Rattle.std.specs.Prelude.{zip}
use Rattle.translate_classes.specs.Blocks.{told_pieces}
use Rattle.translate_classes.proofs.spans.append_pieces.Given as goal

abbrev pub invariant-loop-piece : goal.invariant-loop-piece
invariant-loop-piece l =
    l.pieces.items ≡ l.initial.pieces.items ++ told_pieces l.part l.k (take (length l.yielded) (zip l.method.pieces.items l.method.stretches.items))
