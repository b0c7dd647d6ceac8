use Rattle.std.proofs.Common.{arith, refl}
use Rattle.emit_classes.proofs.Mentions.{begun-mentions}
use Rattle.emit_classes.proofs.Written.{begun-name, written-begun}
use Rattle.emit_classes.proofs.builder.ClassBuilder.new.Goals as goal

pub invariant_of-result : goal.invariant_of-result
invariant_of-result c =
    written-begun c.in_ok-pool.pool c.own_slot.new.pool c.object_slot.new.pool c.code_slot.new.pool c.in_ok-pool.ensures
    c.own_slot.ensures.grown c.object_slot.ensures.grown c.code_slot.ensures.grown
    _ c.args.name.now refl c.new-2.ensures.items c.new-3.ensures.items (omega arith) (omega arith)
    c.in_ok-this_class.ensures.there c.in_ok-this_class.ensures.lawful c.in_ok-super_class.ensures.there c.in_ok-code.ensures.there

pub returns-clause-named : goal.returns-clause-named
returns-clause-named c =
    begun-name c.in_ok-pool.pool c.own_slot.new.pool c.object_slot.new.pool c.code_slot.new.pool c.in_ok-pool.ensures
    c.own_slot.ensures.grown c.object_slot.ensures.grown c.code_slot.ensures.grown
    c.in_ok-this_class.this_class c.args.name.now c.in_ok-this_class.ensures.there

pub returns-clause-mentions : goal.returns-clause-mentions
returns-clause-mentions c =
    begun-mentions c.in_ok-pool.pool c.own_slot.new.pool c.object_slot.new.pool c.code_slot.new.pool c.args.name.now _ c.in_ok-pool.ensures
    c.in_ok-this_class.ensures.mentions c.in_ok-super_class.ensures.mentions c.in_ok-code.ensures.mentions
