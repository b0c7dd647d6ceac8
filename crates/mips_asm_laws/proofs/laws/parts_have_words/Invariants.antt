use Rattle.std.proofs.Common.{length}
use Rattle.std.specs.List.{All}
use Rattle.elf_writer.specs.ReadBack.{HasWords}
use Rattle.mips_asm_laws.proofs.laws.parts_have_words.Given as goal

-- where the rest have words, they all do
abbrev pub invariant-loop-part : goal.invariant-loop-part
invariant-loop-part l = All HasWords l.rest → All HasWords l.parts

abbrev pub decreases-loop-part : goal.decreases-loop-part
decreases-loop-part l = length l.rest
