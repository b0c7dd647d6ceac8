use Rattle.std.proofs.Common.{◌≡◌, ◌+◌, ◌*◌, sym, subst, arith}
use Rattle.class_definition.specs.declared.entry.Entry.TheVariants.{FieldRef}
use Rattle.emit_layout.specs.Fields.{field_name, field_descriptor}
use Rattle.emit_classes.specs.Built.{GrowsPool}
use Rattle.emit_classes.specs.Mentioned.{MentionsOf}
use Rattle.emit_classes.specs.declared.member_kind.MemberKind.TheVariants.{Field}
use Rattle.emit_classes.proofs.Made.{has_class-later}
use Rattle.translate_classes.specs.Named.{AreMembers}
use Rattle.translate_classes.specs.Mentioned.{field_mentions}
use Rattle.translate_classes.proofs.ProgramNames.NamedLemmas.{no-members, members-more, grown-not, grown-further}
use Rattle.translate_classes.proofs.ProgramNames.MentionLemmas.{mentions-none, mentions-next}
use Rattle.translate_classes.proofs.known_fields.field_references.Goals as goal

pub loop-field-init : goal.loop-field-init
loop-field-init c =
    let start = c.args.class.now in (
      subst (λ slots. AreMembers FieldRef field_name field_descriptor start.pool c.args.main slots 0) (sym c.new-slots.ensures.items)
          (no-members FieldRef field_name field_descriptor start.pool c.args.main),
      grown-not start,
      λ owner of. mentions-none start.pool,
    )

pub loop-field-preserved : goal.loop-field-preserved
loop-field-preserved c =
    let old = c.loop-field.class in
    let new = c.field_reference.new.class in
    let grown = c.in_ok-field_reference.ensures.grown in
    let more = members-more old.pool new.pool grown.pool.kept FieldRef field_name field_descriptor c.args.main c.loop-field.slots.items c.loop-field.field c.in_ok-field_reference.field-0 c.loop-field.invariant.0 c.in_ok-field_reference.ensures.there in
    let e : 4 * c.loop-field.field + 4 ≡ 4 * (c.loop-field.field + 1) = omega arith in (
      subst (λ slots. AreMembers FieldRef field_name field_descriptor new.pool c.args.main slots (c.loop-field.field + 1)) (sym c.in_ok-push.ensures.items) more,
      subst (GrowsPool c.args.class.now new) e (grown-further c.args.class.now old new (4 * c.loop-field.field) 4 c.loop-field.invariant.1 grown),
      mentions-next Field field_name field_descriptor c.args.class.now.pool old.pool new.pool c.args.main c.loop-field.field c.loop-field.invariant.1.pool.kept
          c.loop-field.invariant.2 c.in_ok-field_reference.ensures.mentions,
    )

pub returns-clause-mentions : goal.returns-clause-mentions
returns-clause-mentions c =
    let all : c.loop-field.field ≡ c.args.fields = omega arith in
    subst (λ count. MentionsOf c.args.class.now.pool c.loop-field.class.pool c.args.main (λ owner. field_mentions owner count)) all c.loop-field.invariant.2

pub field_reference-requires-clause-room : goal.field_reference-requires-clause-room
field_reference-requires-clause-room c = omega (arith, c.requires.room, c.loop-field.invariant.1.pool.few)

pub field_reference-requires-clause-owner : goal.field_reference-requires-clause-owner
field_reference-requires-clause-owner c =
    has_class-later c.args.class.now.pool c.loop-field.class.pool c.args.main c.loop-field.invariant.1.pool.kept c.requires.owner
