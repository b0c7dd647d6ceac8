use Rattle.std.proofs.Common.{◌+◌, arith}
use Rattle.jvm_definition.specs.Step.{frame_placed}
use Rattle.emit_paths_laws.proofs.Joining.{turn-path, turn-weighs, seen-within, seen-elsewhere}
use Rattle.emit_paths_laws.proofs.laws.one_turn.Goals as goal

pub returns : goal.returns
returns c program words m = record {
  within = λ at w others line y it.
      turn-path program words m at (at + 1) (λ weight. weight line.instruction) (frame_placed m at w others) y it.moves_to
      (λ weight still. let a = turn-weighs program m at w others y line it.line_is weight in omega (arith, a))
      (seen-within program words m at (at + 1) w others (omega arith));
  elsewhere = λ own low at w others line y differ it.
      turn-path program words m low low (λ weight. weight line.instruction) (frame_placed own at w others) y it.moves_to
      (λ weight still. let a = turn-weighs program own at w others y line it.line_is weight in omega (arith, a))
      (seen-elsewhere program words m own low at w others differ);
}
