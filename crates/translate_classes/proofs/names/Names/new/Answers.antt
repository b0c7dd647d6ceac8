use Rattle.std.proofs.Common.{◌≡◌, ◌++◌, true, sym, subst, arith}
use Rattle.emit_classes.specs.Named.{IsClassAt}
use Rattle.emit_classes.specs.Mentioned.{Mentions, mentioned}
use Rattle.class_definition.specs.declared.entry.Entry.TheVariants.{FieldRef}
use Rattle.emit_layout.specs.Fields.{field_name, field_descriptor}
use Rattle.emit_assembly.proofs.Pools.{extends-further}
use Rattle.translate_classes.proofs.ProgramNames.NamedLemmas.{class-later, members-later, two-later, grown-further}
use Rattle.translate_classes.specs.Mentioned.{field_mentions, host_mentions, names_mentions, string_mentions}
use Rattle.translate_classes.proofs.ProgramNames.MentionLemmas.{mentions-all}
use Rattle.translate_classes.specs.Named.{AreFields}
use Rattle.translate_classes.specs.Room.{can_name_class}
use Rattle.translate_classes.proofs.LawfulNames.CharacterLemmas.{main-named}
use Rattle.translate_classes.proofs.LawfulNames.MemberLemmas.{call-named, fault-named, length-named, character-named}
use Rattle.translate_classes.proofs.Rooms.CountLemmas.{class-there}
use Rattle.translate_classes.proofs.names.Names.new.Goals as goal

pub returns-clause-there : goal.returns-clause-there
returns-clause-there c =
    let first = c.class_reference.new.class in
    let second = c.field_references.new.class in
    let third = c.two_methods.new.class in
    let fourth = c.two_methods-2.new.class in
    let fifth = c.class_reference-2.new.class in
    let from_fourth = c.in_ok-ints.ensures.grown.pool.kept in
    let from_third = extends-further third.pool fourth.pool fifth.pool c.in_ok-strings.ensures.grown.pool.kept from_fourth in
    let from_second = extends-further second.pool third.pool fifth.pool c.in_ok-host.ensures.grown.pool.kept from_third in
    let from_first = extends-further first.pool second.pool fifth.pool c.in_ok-fields.ensures.grown.pool.kept from_second in
    record {
      main_is =
          subst (IsClassAt fifth.pool c.in_ok-main.main) c.as_str.ensures.value
          (class-later first.pool fifth.pool from_first c.in_ok-main.main _ c.in_ok-main.ensures.there);
      fields_are = subst (AreFields fifth.pool c.in_ok-main.main c.in_ok-fields.fields.items) c.fields_of.ensures.value
          (members-later second.pool fifth.pool from_second FieldRef field_name field_descriptor c.in_ok-main.main c.in_ok-fields.fields.items
          c.fields_of.result c.in_ok-fields.ensures.there);
      host_is = two-later third.pool fifth.pool from_third _ _ _ c.in_ok-host.host c.in_ok-host.ensures.there;
      strings_are = two-later fourth.pool fifth.pool from_fourth _ _ _ c.in_ok-strings.strings c.in_ok-strings.ensures.there;
      ints_is = c.in_ok-ints.ensures.there;
    }

pub returns-clause-grown : goal.returns-clause-grown
returns-clause-grown c =
    let start = c.args.class.now in
    let first = c.class_reference.new.class in
    let second = c.field_references.new.class in
    let third = c.two_methods.new.class in
    let fourth = c.two_methods-2.new.class in
    let fifth = c.class_reference-2.new.class in
    grown-further start fourth fifth 178 2
    (grown-further start third fourth 168 10
    (grown-further start second third 158 10
    (grown-further start first second 2 156 c.in_ok-main.ensures.grown c.in_ok-fields.ensures.grown)
    c.in_ok-host.ensures.grown)
    c.in_ok-strings.ensures.grown)
    c.in_ok-ints.ensures.grown

pub returns-clause-mentions : goal.returns-clause-mentions
returns-clause-mentions c =
    let fifth = c.class_reference-2.new.class in
    let fields = c.fields_of.result in
    subst (λ n. Mentions fifth.pool (mentioned c.args.class.now.pool ++ names_mentions n c.args.main.now)) c.fields_of.ensures.value
    (subst (λ name. Mentions fifth.pool (mentioned c.args.class.now.pool ++ names_mentions fields name)) c.as_str.ensures.value
    (mentions-all c.args.class.now.pool c.class_reference.new.class.pool c.field_references.new.class.pool c.two_methods.new.class.pool
    c.two_methods-2.new.class.pool fifth.pool c.in_ok-main.main _ _ (λ owner. field_mentions owner fields) host_mentions
    string_mentions _ c.in_ok-main.ensures.mentions c.in_ok-main.ensures.there c.in_ok-fields.ensures.mentions
    c.in_ok-host.ensures.mentions c.in_ok-strings.ensures.mentions c.in_ok-ints.ensures.mentions))

pub class_reference-requires-clause-name : goal.class_reference-requires-clause-name
class_reference-requires-clause-name c =
    subst (λ name. can_name_class name ≡ true) (sym c.as_str.ensures.value) (main-named c.args.main.now c.as_str.ensures.lawful)

pub field_references-requires-clause-room : goal.field_references-requires-clause-room
field_references-requires-clause-room c = omega (arith, c.requires.room, c.in_ok-main.ensures.grown.pool.few)

pub field_references-requires-clause-owner : goal.field_references-requires-clause-owner
field_references-requires-clause-owner c = class-there c.class_reference.new.class.pool c.in_ok-main.main _ c.in_ok-main.ensures.there

pub two_methods-requires-clause-room : goal.two_methods-requires-clause-room
two_methods-requires-clause-room c =
    omega (arith, c.requires.room, c.in_ok-main.ensures.grown.pool.few, c.in_ok-fields.ensures.grown.pool.few)

pub two_methods-requires-clause-first : goal.two_methods-requires-clause-first
two_methods-requires-clause-first c = call-named

pub two_methods-requires-clause-second : goal.two_methods-requires-clause-second
two_methods-requires-clause-second c = fault-named

pub two_methods-requires-2-clause-first : goal.two_methods-requires-2-clause-first
two_methods-requires-2-clause-first c = length-named

pub two_methods-requires-2-clause-second : goal.two_methods-requires-2-clause-second
two_methods-requires-2-clause-second c = character-named

pub two_methods-requires-2-clause-room : goal.two_methods-requires-2-clause-room
two_methods-requires-2-clause-room c =
    omega (
      arith,
      c.requires.room,
      c.in_ok-main.ensures.grown.pool.few,
      c.in_ok-fields.ensures.grown.pool.few,
      c.in_ok-host.ensures.grown.pool.few,
    )

pub class_reference-requires-2-clause-room : goal.class_reference-requires-2-clause-room
class_reference-requires-2-clause-room c =
    omega (
      arith,
      c.requires.room,
      c.in_ok-main.ensures.grown.pool.few,
      c.in_ok-fields.ensures.grown.pool.few,
      c.in_ok-host.ensures.grown.pool.few,
      c.in_ok-strings.ensures.grown.pool.few,
    )
