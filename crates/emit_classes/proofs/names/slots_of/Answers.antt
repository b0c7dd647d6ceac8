use Rattle.emit_classes.specs.Mentioned.{mentioned}
use Rattle.emit_classes.proofs.Mentions.{mentions-still}
use Rattle.emit_classes.proofs.names.slots_of.Goals as goal

pub returns-clause-mentions : goal.returns-clause-mentions
returns-clause-mentions c =
    mentions-still c.add_text.new.self c.add_text-2.new.self (mentioned c.args.pool.now) c.in_ok-name.ensures.mentions
    c.in_ok-desc.ensures.mentions
