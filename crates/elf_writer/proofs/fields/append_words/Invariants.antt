use Rattle.std.proofs.Common.{◌≡◌, ◌++◌, take}
use Rattle.elf_definition.specs.FileFields.{words}
use Rattle.elf_writer.proofs.fields.append_words.Given as goal

-- the fields so far were appended
abbrev pub invariant-loop-field : goal.invariant-loop-field
invariant-loop-field l = l.file.items ≡ l.fn.file.items ++ words (take l.field-index l.fields)
