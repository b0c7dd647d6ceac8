use Rattle.std.proofs.Common.{◌≡◌, ◌++◌, take}
use Rattle.elf_definition.specs.FileFields.{words}
use Rattle.command_translate.proofs.made_block.push_words.Given as goal

abbrev pub invariant-loop-word : goal.invariant-loop-word
invariant-loop-word l = l.bytes.items ≡ l.fn.bytes.items ++ words (take l.word-index l.fields)
