use Rattle.std.proofs.Common.{ap, length, ◌∙◌}
use Rattle.command_translate.proofs.WordLemmas.{all_written, length_made}
use Rattle.command_translate.proofs.made_words.made_text.Goals as goal

pub returns-clause-words : goal.returns-clause-words
returns-clause-words c =
    all_written c.args.count c.new-text.result.items c.push_blocks.new.text.items c.push_end.new.bytes.items c.new-text.ensures.items c.in_ok-push_blocks.ensures c.in_ok-push_end.ensures

pub returns-clause-length : goal.returns-clause-length
returns-clause-length c =
    ap length (all_written c.args.count c.new-text.result.items c.push_blocks.new.text.items c.push_end.new.bytes.items c.new-text.ensures.items c.in_ok-push_blocks.ensures c.in_ok-push_end.ensures)
    ∙ length_made c.args.count
