use Rattle.std.proofs.Common.{◌≡◌, ◌+◌, ◌*◌, sym, subst, arith}
use Rattle.class_definition.specs.declared.entry.Entry.TheVariants.{MethodRef}
use Rattle.emit_layout.specs.ClassNames.{span_name}
use Rattle.emit_classes.specs.Built.{GrowsPool}
use Rattle.emit_classes.specs.declared.member_kind.MemberKind.TheVariants.{Method}
use Rattle.emit_classes.proofs.Made.{has_class-later}
use Rattle.translate_classes.specs.Named.{AreMembers}
use Rattle.translate_classes.proofs.ProgramNames.NamedLemmas.{no-members, members-more, grown-not, grown-further}
use Rattle.translate_classes.proofs.ProgramNames.MentionLemmas.{mentions-none, mentions-next}
use Rattle.translate_classes.specs.Making.{nothing}
use Rattle.translate_classes.proofs.code_naming.span_references.Goals as goal

pub loop-k-init : goal.loop-k-init
loop-k-init c =
    let start = c.args.class.now in (
      subst (λ slots. AreMembers MethodRef span_name (λ k. nothing) start.pool c.args.own slots 0) (sym c.new-slots.ensures.items)
          (no-members MethodRef span_name (λ k. nothing) start.pool c.args.own),
      grown-not start,
      λ owner of. mentions-none start.pool,
    )

pub loop-k-preserved : goal.loop-k-preserved
loop-k-preserved c =
    let old = c.loop-k.class in
    let new = c.span_reference.new.class in
    let grown = c.in_ok-span_reference.ensures.grown in
    let more =
    members-more old.pool new.pool grown.pool.kept MethodRef span_name (λ k. nothing) c.args.own c.loop-k.slots.items c.loop-k.k
    c.in_ok-span_reference.field-0 c.loop-k.invariant.0 c.in_ok-span_reference.ensures.there in
    let e : 4 * c.loop-k.k + 4 ≡ 4 * (c.loop-k.k + 1) = omega arith in (
      subst (λ slots. AreMembers MethodRef span_name (λ k. nothing) new.pool c.args.own slots (c.loop-k.k + 1)) (sym c.in_ok-push.ensures.items) more,
      subst (GrowsPool c.args.class.now new) e (grown-further c.args.class.now old new (4 * c.loop-k.k) 4 c.loop-k.invariant.1 grown),
      mentions-next Method span_name (λ k. nothing) c.args.class.now.pool old.pool new.pool c.args.own c.loop-k.k c.loop-k.invariant.1.pool.kept
          c.loop-k.invariant.2 c.in_ok-span_reference.ensures.mentions,
    )

pub span_reference-requires-clause-room : goal.span_reference-requires-clause-room
span_reference-requires-clause-room c = omega (arith, c.requires.room, c.loop-k.invariant.1.pool.few)

pub span_reference-requires-clause-owner : goal.span_reference-requires-clause-owner
span_reference-requires-clause-owner c =
    has_class-later c.args.class.now.pool c.loop-k.class.pool c.args.own c.loop-k.invariant.1.pool.kept c.requires.owner
