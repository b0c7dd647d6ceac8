use Rattle.std.proofs.Common.{◌≡◌, ℕ, ◌+◌, ◌*◌, ◌≤◌, List, [], length, option_copied}
use Rattle.asm_lines.specs.Operands.{label_address, first_of}
use Rattle.mips_asm.specs.Program.{labels_from, parsed_lines, start_place}
use Rattle.mips_asm.specs.Passes.{IsLow, first_again, lines_left}
use Rattle.mips_asm.proofs.LineCounts.{left_count}
use Rattle.mips_asm.proofs.first_pass.find_labels.Given as goal

-- the labels so far and those of the lines that are left are all; a line stands at no higher a place than lines fill
abbrev pub invariant-lines : goal.invariant-lines
invariant-lines l = record {
  addresses : (name : List ℕ) → first_of (label_address l.labels name) (label_address (labels_from l.place (lines_left (option_copied l.left))) name) ≡ label_address (labels_from start_place (parsed_lines l.text)) name;
  again : first_of l.again (first_again l.labels l.place l.line (lines_left (option_copied l.left))) ≡ first_again [] start_place 1 (parsed_lines l.text);
  few : l.line + left_count (option_copied l.left) ≤ length l.text + 2;
  low : IsLow (2097152 * l.line) l.place;
}

abbrev pub decreases-lines : goal.decreases-lines
decreases-lines l = left_count (option_copied l.left)
