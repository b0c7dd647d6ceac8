use Rattle.std.proofs.Common.{◌++◌, ap, ◌∙◌}
use Rattle.elf_definition.specs.FileFields.{words}
use Rattle.command_translate.specs.MadeWords.{block_words, place}
use Rattle.command_translate.proofs.WordLemmas.{block_more}
use Rattle.command_translate.proofs.made_words.push_blocks.Goals as goal

pub loop-number-preserved : goal.loop-number-preserved
loop-number-preserved c =
    let x = c.loop-number.x in
    let old = c.loop-number.text.items in
    rw c.next-x.ensures (block_more c.args.count c.loop-number.number x old c.push_block.new.bytes.items _ c.loop-number-test.true c.loop-number.invariant
    (c.in_ok-push_block.ensures ∙ ap (λ target. old ++ words (block_words target x)) (c.place.ensures ∙ ap place c.successor.ensures.is)))
