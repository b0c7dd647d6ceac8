use Rattle.std.proofs.Common.{arith}
use Rattle.std.proofs.lemmas.Result.{IfOk-weaker, on_ok_weaker}
use Rattle.emit_classes.proofs.Joining.{pair-joins}
use Rattle.emit_classes.proofs.Made.{text-later, pair-made}
use Rattle.emit_classes.proofs.Mentions.{pair-mentioned}
use Rattle.emit_classes.proofs.references.add_pair.Goals as goal

pub add-requires : goal.add-requires
add-requires c =
    let named = text-later c.add_text.new.self c.add_text-2.new.self c.in_ok-name.name c.args.name.items c.add_text-2.ensures.grown.kept
    c.in_ok-name.ensures.there in
    pair-joins c.add_text-2.new.self c.in_ok-name.name c.in_ok-descriptor.descriptor c.args.name.items c.args.descriptor.items
    (omega arith) (omega arith)
    named c.in_ok-descriptor.ensures.there c.requires

pub returns-clause-there : goal.returns-clause-there
returns-clause-there c =
    IfOk-weaker c.add.result _ _
    (λ slot at. pair-made c.add_text.new.self c.add_text-2.new.self c.add.new.self c.in_ok-name.name c.in_ok-descriptor.descriptor slot
    c.args.name.items c.args.descriptor.items
    c.add_text-2.ensures.grown.kept c.add.ensures.grown.kept c.in_ok-name.ensures.there c.in_ok-descriptor.ensures.there at)
    c.add.ensures.there

pub returns-clause-mentions : goal.returns-clause-mentions
returns-clause-mentions c =
    on_ok_weaker c.add.result
    (pair-mentioned c.args.pool.now c.add_text.new.self c.add_text-2.new.self c.add.new.self c.in_ok-name.name
    c.in_ok-descriptor.descriptor c.in_ok-name.ensures.mentions c.in_ok-descriptor.ensures.mentions) c.add.ensures.mentions
