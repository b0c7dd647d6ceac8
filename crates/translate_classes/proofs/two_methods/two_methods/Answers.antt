use Rattle.std.proofs.Common.{arith}
use Rattle.class_definition.specs.declared.entry.Entry.TheVariants.{MethodRef}
use Rattle.emit_assembly.proofs.Pools.{extends-further}
use Rattle.translate_classes.proofs.ProgramNames.NamedLemmas.{class-later, member-later, grown-further}
use Rattle.translate_classes.proofs.ProgramNames.MentionLemmas.{mentions-two}
use Rattle.translate_classes.proofs.Rooms.CountLemmas.{class-there}
use Rattle.emit_classes.proofs.Made.{has_class-later}
use Rattle.translate_classes.proofs.two_methods.two_methods.Goals as goal

pub returns-clause-there : goal.returns-clause-there
returns-clause-there c =
    let first = c.class_reference.new.class in
    let second = c.method_reference.new.class in
    let third = c.method_reference-2.new.class in
    let last = c.in_ok-other.ensures.grown.pool.kept in
    let both = extends-further first.pool second.pool third.pool c.in_ok-one.ensures.grown.pool.kept last in
    record {
      class_is = class-later first.pool third.pool both c.in_ok-slot.slot _ c.in_ok-slot.ensures.there;
      first_is = member-later second.pool third.pool last MethodRef c.in_ok-one.one c.in_ok-slot.slot _ _ c.in_ok-one.ensures.there;
      second_is = c.in_ok-other.ensures.there;
    }

pub returns-clause-grown : goal.returns-clause-grown
returns-clause-grown c =
    let first = c.class_reference.new.class in
    let second = c.method_reference.new.class in
    let third = c.method_reference-2.new.class in
    grown-further c.args.class.now second third 6 4
    (grown-further c.args.class.now first second 2 4 c.in_ok-slot.ensures.grown c.in_ok-one.ensures.grown) c.in_ok-other.ensures.grown

pub returns-clause-mentions : goal.returns-clause-mentions
returns-clause-mentions c =
    mentions-two c.args.class.now.pool c.class_reference.new.class.pool c.method_reference.new.class.pool c.method_reference-2.new.class.pool
    c.in_ok-slot.slot _ _ _ _ c.in_ok-one.ensures.grown.pool.kept c.in_ok-slot.ensures.mentions c.in_ok-slot.ensures.there
    c.in_ok-one.ensures.mentions c.in_ok-other.ensures.mentions

pub method_reference-requires-clause-room : goal.method_reference-requires-clause-room
method_reference-requires-clause-room c = omega (arith, c.requires.room, c.in_ok-slot.ensures.grown.pool.few)

pub method_reference-requires-clause-owner : goal.method_reference-requires-clause-owner
method_reference-requires-clause-owner c = class-there c.class_reference.new.class.pool c.in_ok-slot.slot _ c.in_ok-slot.ensures.there

pub method_reference-requires-2-clause-room : goal.method_reference-requires-2-clause-room
method_reference-requires-2-clause-room c =
    omega (arith, c.requires.room, c.in_ok-slot.ensures.grown.pool.few, c.in_ok-one.ensures.grown.pool.few)

pub method_reference-requires-2-clause-owner : goal.method_reference-requires-2-clause-owner
method_reference-requires-2-clause-owner c =
    let first = c.class_reference.new.class.pool in
    has_class-later first c.method_reference.new.class.pool c.in_ok-slot.slot c.in_ok-one.ensures.grown.pool.kept
    (class-there first c.in_ok-slot.slot _ c.in_ok-slot.ensures.there)
