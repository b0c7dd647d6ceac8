use Rattle.std.proofs.Common.{arith}
use Rattle.std.proofs.lemmas.Result.{IfOk-weaker, on_ok_weaker}
use Rattle.emit_classes.specs.Lawful.{member_entry}
use Rattle.emit_classes.proofs.Joining.{member-joins, member-class, member-lawful, pair-lawful}
use Rattle.emit_classes.proofs.Made.{has_class-later, member-made}
use Rattle.emit_classes.proofs.Mentions.{member-mentioned}
use Rattle.emit_classes.proofs.references.add_member.Goals as goal

pub add_pair-requires : goal.add_pair-requires
add_pair-requires c =
    let name = c.args.name.items in
    let descriptor = c.args.descriptor.items in
    pair-lawful c.args.kind name descriptor (member-lawful c.args.kind c.args.pool.now c.args.class name descriptor c.requires)

pub add-requires : goal.add-requires
add-requires c =
    let name = c.args.name.items in
    let descriptor = c.args.descriptor.items in
    let class = has_class-later c.args.pool.now c.add_pair.new.pool c.args.class c.add_pair.ensures.grown.kept
    (member-class c.args.kind c.args.pool.now c.args.class name descriptor c.requires) in
    let lawful = member-lawful c.args.kind c.args.pool.now c.args.class name descriptor c.requires in
    rw c.entry.ensures
    (member-joins c.args.kind c.add_pair.new.pool c.args.class c.in_ok-pair.pair name descriptor (omega arith) (omega arith) class
    c.in_ok-pair.ensures.there lawful)

pub returns-clause-there : goal.returns-clause-there
returns-clause-there c =
    let kind = member_entry c.args.kind in
    IfOk-weaker c.add.result _ _
    (λ slot at. member-made kind c.add_pair.new.pool c.add.new.self c.args.class c.in_ok-pair.pair slot c.args.name.items
    c.args.descriptor.items c.entry.result c.add.ensures.grown.kept c.in_ok-pair.ensures.there c.entry.ensures at) c.add.ensures.there

pub returns-clause-mentions : goal.returns-clause-mentions
returns-clause-mentions c =
    on_ok_weaker c.add.result
    (λ put owner of. member-mentioned c.args.pool.now c.add_pair.new.pool c.add.new.self c.args.class c.in_ok-pair.pair owner
    c.args.name.items c.args.descriptor.items c.in_ok-pair.ensures.mentions c.add_pair.ensures.grown.kept c.add.ensures.grown.kept of
    c.in_ok-pair.ensures.there c.args.kind c.entry.result c.entry.ensures put) c.add.ensures.mentions
