use Rattle.std.proofs.Common.{sym, inr}
use Rattle.std.proofs.lemmas.Result.{on_ok_weaker}
use Rattle.emit_classes.specs.Mentioned.{mentioned}
use Rattle.emit_classes.proofs.Joining.{text-joins, one_long}
use Rattle.emit_classes.proofs.Mentions.{mentions-nothing}
use Rattle.emit_classes.proofs.sound_pool.SoundPool.add_text.Goals as goal

pub add-requires : goal.add-requires
add-requires c =
    let t = c.if-is_long_text.ensures in
    rw c.new.ensures (text-joins c.args.self.now c.args.characters.items (rw c.deref.ensures.value at (sym t.long))
    (rw c.deref.ensures.value at t.text))

pub returns-then-is_long_text-clause-full : goal.returns-then-is_long_text-clause-full
returns-then-is_long_text-clause-full c = λ _. inr (one_long c.args.characters.items
    (rw c.deref.ensures.value at (sym c.if-is_long_text.ensures.long)))

pub returns-clause-mentions : goal.returns-clause-mentions
returns-clause-mentions c =
    on_ok_weaker c.add.result (mentions-nothing c.add.new.self (mentioned c.args.self.now)) c.add.ensures.mentions
