use Rattle.emit_layout.specs.FieldNumbers.{register_field}
use Rattle.emit_spans.specs.Standing.{laid_part}
use Rattle.emit_paths_laws.specs.Paths.{weigh}
use Rattle.emit_paths_laws.specs.Classes.{gets, puts}
use Rattle.emit_spans_laws.proofs.PieceRegisters.Touching.{each-register}
use Rattle.emit_spans_laws.proofs.PieceRegisters.Once.{laid-once, reads-once, writes-once}
use Rattle.emit_spans_laws.proofs.piece_registers.laid_pieces_read_and_write_registers_once.Goals as goal

pub returns : goal.returns
returns c units leads span k begin = record {
  read_once = each-register (λ f. weigh (gets f) (laid_part units leads span k))
      (λ r low high. laid-once r low high (gets (register_field r)) (reads-once r low high) units leads span k begin);
  written_once = each-register (λ f. weigh (puts f) (laid_part units leads span k))
      (λ r low high. laid-once r low high (puts (register_field r)) (writes-once r low high) units leads span k begin);
}
