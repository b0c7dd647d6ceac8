use Rattle.std.proofs.Common.{map, drop}
use Rattle.command_deeds.proofs.PieceLemmas.{Joins}
use Rattle.command_deeds.specs.World.{output_seen}
use Rattle.command_deeds.proofs.line.write_pieces.Given as goal

abbrev pub invariant-loop-piece : goal.invariant-loop-piece
invariant-loop-piece g l =
    Joins (output_seen g.E.Sink l.initial.sink) (output_seen g.E.Sink l.sink) (map (λ p. p.now) l.pieces) (map (λ p. p.now) (drop l.piece-index l.pieces))
