use Rattle.std.proofs.Common.{◌≡◌, ◌++◌, replicate}
use Rattle.elf_definition.specs.FileFields.{words}
use Rattle.mips_asm.proofs.segments.append_zeros.Given as goal

-- so many words of zeros were appended
abbrev pub invariant-zeros : goal.invariant-zeros
invariant-zeros l = l.segment.items ≡ l.fn.segment.items ++ words (replicate l.counter 0)
