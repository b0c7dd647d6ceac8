use Rattle.std.proofs.Common.{◌≡◌, ◌≤◌, ◌<◌, ◌*◌, take, length, get_or}
use Rattle.elf_definition.specs.declared.range.Range.{Range}
use Rattle.elf_definition.specs.ImageFault.{code_words}
use Rattle.elf_image.proofs.checks.code_words.Given as goal

abbrev pub invariant-loop-range : goal.invariant-loop-range
invariant-loop-range l = record {
  value : l.words ≡ code_words (take l.range-index l.code);
  before : (d : Range) → l.range-index < length l.code → 4 * l.words ≤ (get_or l.code l.range-index d).first;
}
