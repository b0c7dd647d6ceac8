use Rattle.std.proofs.Common.{arith}
use Rattle.std.proofs.lemmas.Result.{IfOk-weaker, on_ok_weaker}
use Rattle.emit_classes.proofs.Joining.{class-joins}
use Rattle.emit_classes.proofs.Made.{class-made}
use Rattle.emit_classes.proofs.Mentions.{class-mentioned}
use Rattle.emit_classes.proofs.references.add_class.Goals as goal

pub add-requires : goal.add-requires
add-requires c = class-joins c.add_text.new.self c.in_ok-text.text c.args.name.items (omega arith) c.in_ok-text.ensures.there c.requires

pub returns-clause-there : goal.returns-clause-there
returns-clause-there c =
    IfOk-weaker c.add.result _ _
    (λ slot at. class-made c.add_text.new.self c.add.new.self c.in_ok-text.text slot c.args.name.items c.add.ensures.grown.kept
    c.in_ok-text.ensures.there at) c.add.ensures.there

pub returns-clause-mentions : goal.returns-clause-mentions
returns-clause-mentions c =
    on_ok_weaker c.add.result
    (class-mentioned c.args.pool.now c.add_text.new.self c.add.new.self c.in_ok-text.text c.args.name.items c.in_ok-text.ensures.mentions
    c.add.ensures.grown.kept c.in_ok-text.ensures.there) c.add.ensures.mentions
