use Rattle.std.proofs.Common.{◌≡◌, ◌+◌, ◌++◌, ◌≤◌, true, false, length, option_copied}
use Rattle.elf_definition.specs.FileFields.{words}
use Rattle.mips_asm.specs.Program.{parsed_lines, start_place}
use Rattle.mips_asm.specs.Passes.{fault_marked, lines_left, words_left}
use Rattle.mips_asm.proofs.LineCounts.{left_count}
use Rattle.mips_asm.proofs.second_pass.fill_segments.Given as goal

-- no line so far is faulty, and the words so far and those of the lines that are left are all
abbrev pub invariant-lines : goal.invariant-lines
invariant-lines l = record {
  faults : fault_marked l.found.labels l.found.again l.place l.line (lines_left (option_copied l.left)) ≡ fault_marked l.found.labels l.found.again start_place 1 (parsed_lines l.text);
  text : l.segments.text.items ++ words (words_left false l.found.labels l.place (lines_left (option_copied l.left))) ≡ words (words_left false l.found.labels start_place (parsed_lines l.text));
  data_bytes : l.segments.data_bytes.items ++ words (words_left true l.found.labels l.place (lines_left (option_copied l.left))) ≡ words (words_left true l.found.labels start_place (parsed_lines l.text));
  few : l.line + left_count (option_copied l.left) ≤ length l.text + 2;
  text_place : l.place.text ≡ length l.segments.text.items;
  data_place : l.place.data_bytes ≡ length l.segments.data_bytes.items;
  text_within : l.place.text ≤ 4194304;
  data_within : l.place.data_bytes ≤ 16777216;
}

abbrev pub decreases-lines : goal.decreases-lines
decreases-lines l = left_count (option_copied l.left)
