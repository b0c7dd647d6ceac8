use Rattle.std.proofs.Common.{◌≡◌, ◌+◌, ◌*◌, sym, subst, arith}
use Rattle.class_definition.specs.declared.entry.Entry.TheVariants.{MethodRef}
use Rattle.emit_layout.specs.Helpers.{helper_name, helper_descriptor}
use Rattle.emit_classes.specs.Built.{GrowsPool}
use Rattle.emit_classes.specs.Mentioned.{MentionsOf}
use Rattle.emit_classes.specs.declared.member_kind.MemberKind.TheVariants.{Method}
use Rattle.emit_classes.proofs.Made.{has_class-later}
use Rattle.translate_classes.specs.Named.{AreMembers}
use Rattle.translate_classes.specs.Mentioned.{helper_mentions}
use Rattle.translate_classes.proofs.ProgramNames.NamedLemmas.{no-members, members-more, grown-not, grown-further}
use Rattle.translate_classes.proofs.ProgramNames.MentionLemmas.{mentions-none, mentions-next}
use Rattle.translate_classes.proofs.known_helpers.helper_references.Goals as goal

pub loop-number-init : goal.loop-number-init
loop-number-init c =
    let start = c.args.class.now in (
      subst (λ slots. AreMembers MethodRef helper_name helper_descriptor start.pool c.args.main slots 0) (sym c.new-slots.ensures.items)
          (no-members MethodRef helper_name helper_descriptor start.pool c.args.main),
      grown-not start,
      λ owner of. mentions-none start.pool,
    )

pub loop-number-preserved : goal.loop-number-preserved
loop-number-preserved c =
    let old = c.loop-number.class in
    let new = c.helper_reference.new.class in
    let grown = c.in_ok-helper_reference.ensures.grown in
    let more = members-more old.pool new.pool grown.pool.kept MethodRef helper_name helper_descriptor c.args.main c.loop-number.slots.items c.loop-number.number c.in_ok-helper_reference.field-0 c.loop-number.invariant.0 c.in_ok-helper_reference.ensures.there in
    let e : 4 * c.loop-number.number + 4 ≡ 4 * (c.loop-number.number + 1) = omega arith in (
      subst (λ slots. AreMembers MethodRef helper_name helper_descriptor new.pool c.args.main slots (c.loop-number.number + 1)) (sym c.in_ok-push.ensures.items) more,
      subst (GrowsPool c.args.class.now new) e (grown-further c.args.class.now old new (4 * c.loop-number.number) 4 c.loop-number.invariant.1 grown),
      mentions-next Method helper_name helper_descriptor c.args.class.now.pool old.pool new.pool c.args.main c.loop-number.number c.loop-number.invariant.1.pool.kept
          c.loop-number.invariant.2 c.in_ok-helper_reference.ensures.mentions,
    )

pub returns-clause-mentions : goal.returns-clause-mentions
returns-clause-mentions c =
    let all : c.loop-number.number ≡ 20 = omega arith in
    subst (λ count. MentionsOf c.args.class.now.pool c.loop-number.class.pool c.args.main (λ owner. helper_mentions owner count)) all c.loop-number.invariant.2

pub helper_reference-requires-clause-room : goal.helper_reference-requires-clause-room
helper_reference-requires-clause-room c = omega (arith, c.requires.room, c.loop-number.invariant.1.pool.few)

pub helper_reference-requires-clause-owner : goal.helper_reference-requires-clause-owner
helper_reference-requires-clause-owner c =
    has_class-later c.args.class.now.pool c.loop-number.class.pool c.args.main c.loop-number.invariant.1.pool.kept c.requires.owner
