use Rattle.std.proofs.Common.{◌≡◌, ◌-◌, ◌++◌}
use Rattle.elf_definition.specs.FileFields.{words}
use Rattle.command_translate.specs.MadeWords.{blocks_from}
use Rattle.command_translate.proofs.made_words.push_blocks.Given as goal

-- the blocks that are left follow those that were written
abbrev pub invariant-loop-number : goal.invariant-loop-number
invariant-loop-number l =
    l.text.items ++ words (blocks_from l.count l.number l.x (l.count - l.number)) ≡ l.fn.text.items ++ words (blocks_from l.count 0 l.count l.count)
