use Rattle.std.proofs.Common.{◌≡◌, [], ◌∷◌, ◌++◌, sym, ap, ◌∙◌, subst, length, true, arith}
use Rattle.class_definition.specs.MemberNames.{object_name}
use Rattle.emit_classes.specs.Named.{IsClassAt}
use Rattle.emit_classes.specs.Mentioned.{mentioned, Mentions, OfClass}
use Rattle.emit_classes.proofs.Mentions.{mentions-still}
use Rattle.translate_classes.proofs.ClassMaking.NamingLemmas.{names-slots, names-more, names-still, names-all, named-methods, named-fields, named-name}
use Rattle.emit_methods_laws.specs.Naming.{fields_of}
use Rattle.translate_classes.specs.Named.{AreNames}
use Rattle.translate_classes.specs.Mentioned.{names_mentions}
use Rattle.translate_classes.proofs.ProgramNames.NamedLemmas.{names-later}
use Rattle.translate_classes.specs.Content.{main_fields}
use Rattle.translate_classes.specs.Fields.{AddsFields, AreFields}
use Rattle.translate_classes.specs.MainMentioned.{called_mentions}
use Rattle.translate_classes.proofs.MainClasses.FieldLemmas.{fields-later, fields-made, fields-keep-methods, fields-keep-name}
use Rattle.translate_classes.proofs.MainClasses.CalledLemmas.{methods-later}
use Rattle.translate_classes.specs.Room.{is_own_name}
use Rattle.translate_classes.proofs.Rooms.CountLemmas.{class-there}
use Rattle.translate_classes.proofs.LawfulNames.CharacterLemmas.{main-own}
use Rattle.translate_classes.proofs.LawfulNames.TextLemmas.{few-shares}
use Rattle.translate_classes.proofs.main_naming.named_class.Goals as goal

pub returns-clause-names : goal.returns-clause-names
returns-clause-names c =
    let begun = c.in_ok-class.class in
    let first = c.add_fields.new.class in
    let second = c.new.new.class in
    let third = c.method_references.new.class in
    let fourth = c.text_slots.new.class in
    let count = main_fields c.args.main.now in
    let flag : fields_of c.is_some-metered.result ≡ count = ap fields_of c.is_some-metered.ensures in
    let fields = subst (AddsFields begun first) (c.fields_of.ensures.value ∙ flag) c.in_ok-add_fields.ensures.fields in
    let there = subst (λ n. AreNames n second.pool c.args.name.now c.in_ok-names.names) flag c.in_ok-names.ensures.there in
    let told = subst (λ n. Mentions second.pool (mentioned first.pool ++ names_mentions n c.args.name.now)) flag c.in_ok-names.ensures.mentions in
    let names = names_mentions count c.args.name.now in
    let called = called_mentions c.args.name.now c.args.main.now in
    let from_third = c.in_ok-texts.ensures.grown in
    let from_second = names-still second third fourth called (c.in_ok-methods.ensures.grown c.in_ok-names.ensures.there.main_is) from_third in
    let all = names-more first second fourth names called
    (names-slots first second 180 names c.in_ok-names.ensures.grown told) from_second in
    let more = names ++ called in
    record {
      no_methods = named-methods first fourth more all ∙ fields-keep-methods begun first count fields ∙ c.in_ok-class.ensures.methods;
      fields_are =
          subst (λ l. AreFields fourth.pool l count) (sym (named-fields first fourth more all))
          (fields-later first.pool fourth.pool all.pool first.fields count (fields-made begun first count fields c.in_ok-class.ensures.fields));
      named =
          named-name first fourth more _ all
          (fields-keep-name begun first count _ fields (subst (IsClassAt begun.pool begun.this_class) c.as_str.ensures.value c.in_ok-class.ensures.named));
      names = record {
        names_are = names-later count second.pool fourth.pool from_second.pool _ c.in_ok-names.names there;
        methods_are = methods-later third.pool fourth.pool from_third.pool _ _ _ c.in_ok-methods.methods.items c.in_ok-methods.ensures.there;
        texts_are = c.in_ok-texts.ensures.there;
      };
      mentions =
          names-all first fourth _ more
          (mentions-still begun.pool first.pool _
          (subst (λ name. Mentions begun.pool (OfClass name ∷ OfClass object_name ∷ [])) c.as_str.ensures.value c.in_ok-class.ensures.mentions)
          fields.mentions) all;
    }

pub new_class-requires : goal.new_class-requires
new_class-requires c = subst (λ name. is_own_name name ≡ true) (sym c.as_str.ensures.value) (main-own c.args.name.now c.as_str.ensures.lawful)

pub new-requires : goal.new-requires
new-requires c = omega (arith, c.in_ok-class.ensures.few, c.in_ok-add_fields.ensures.few)

pub method_references-requires-clause-owner : goal.method_references-requires-clause-owner
method_references-requires-clause-owner c = class-there c.new.new.class.pool c.in_ok-names.names.main _ c.in_ok-names.ensures.there.main_is

pub method_references-requires-clause-room : goal.method_references-requires-clause-room
method_references-requires-clause-room c =
    omega (
      arith,
      c.requires.main.few_code,
      c.requires.main.few_data,
      c.in_ok-class.ensures.few,
      c.in_ok-add_fields.ensures.few,
      c.in_ok-names.ensures.grown.pool.few,
    )

pub text_slots-requires-clause-runs : goal.text_slots-requires-clause-runs
text_slots-requires-clause-runs c = c.requires.main.runs

pub text_slots-requires-clause-room : goal.text_slots-requires-clause-room
text_slots-requires-clause-room c =
    omega (
      arith,
      few-shares (length c.args.main.now.runs.now) c.requires.main.few_runs,
      c.requires.main.few_code,
      c.requires.main.few_data,
      c.in_ok-class.ensures.few,
      c.in_ok-add_fields.ensures.few,
      c.in_ok-names.ensures.grown.pool.few,
      c.in_ok-methods.ensures.few,
    )

pub returns-clause-few : goal.returns-clause-few
returns-clause-few c =
    omega (
      arith,
      few-shares (length c.args.main.now.runs.now) c.requires.main.few_runs,
      c.requires.main.few_code,
      c.requires.main.few_data,
      c.in_ok-class.ensures.few,
      c.in_ok-add_fields.ensures.few,
      c.in_ok-names.ensures.grown.pool.few,
      c.in_ok-methods.ensures.few,
      c.in_ok-texts.ensures.few,
    )
