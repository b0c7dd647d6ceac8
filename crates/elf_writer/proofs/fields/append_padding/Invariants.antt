use Rattle.std.proofs.Common.{◌≡◌, ◌++◌, replicate}
use Rattle.elf_writer.proofs.fields.append_padding.Given as goal

-- so many zeros were appended
abbrev pub invariant-loop : goal.invariant-loop
invariant-loop l = l.file.items ≡ l.fn.file.items ++ replicate l.counter 0
