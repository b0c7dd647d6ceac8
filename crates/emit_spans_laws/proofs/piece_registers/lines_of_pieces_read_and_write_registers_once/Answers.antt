use Rattle.emit_layout.specs.FieldNumbers.{register_field}
use Rattle.emit_spans.specs.Laying.{stretch_at}
use Rattle.emit_paths_laws.specs.Classes.{gets, puts}
use Rattle.emit_spans_laws.specs.Registers.{in_stretch, stretch_lines, weigh_lines}
use Rattle.emit_spans_laws.proofs.PieceRegisters.Touching.{each-register}
use Rattle.emit_spans_laws.proofs.PieceRegisters.Once.{reads-once, writes-once}
use Rattle.emit_spans_laws.proofs.PieceRegisters.Stretches.{lines-once, method-once, stretch-lines}
use Rattle.emit_spans_laws.proofs.piece_registers.lines_of_pieces_read_and_write_registers_once.Goals as goal

pub returns-clause-lines : goal.returns-clause-lines
returns-clause-lines c site units leads span k begin lies = stretch-lines units leads span k begin site.program site.method lies

pub returns-clause-once : goal.returns-clause-once
returns-clause-once c units leads span k begin = record {
  read_once = each-register (λ f. weigh_lines (gets f) (stretch_lines units leads span k))
      (λ r low high. lines-once units leads span k begin r low high (gets (register_field r)) (reads-once r low high)
      (stretch_at units leads span k).from);
  written_once = each-register (λ f. weigh_lines (puts f) (stretch_lines units leads span k))
      (λ r low high. lines-once units leads span k begin r low high (puts (register_field r)) (writes-once r low high)
      (stretch_at units leads span k).from);
}

pub returns-clause-in_methods : goal.returns-clause-in_methods
returns-clause-in_methods c site method units leads span k is ordered lies above below begin =
    let stands = c.words_stand_at_their_entries.ensures units leads span k above below in
    record {
      read_once = each-register (λ f. weigh_lines (gets f) (in_stretch units leads span k method.lines))
          (λ r low high. method-once units leads span k begin r low high (gets (register_field r)) (reads-once r low high) site.program site.method
          method is ordered stands lies);
      written_once = each-register (λ f. weigh_lines (puts f) (in_stretch units leads span k method.lines))
          (λ r low high. method-once units leads span k begin r low high (puts (register_field r)) (writes-once r low high) site.program site.method
          method is ordered stands lies);
    }
