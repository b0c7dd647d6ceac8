use Rattle.std.proofs.Common.{[], ◌∷◌, ◌++◌, ◌∙◌, codes, arith}
use Rattle.class_definition.specs.declared.entry.Entry.TheVariants.{MethodRef}
use Rattle.emit_classes.specs.Mentioned.{OfClass, method_mention}
use Rattle.translate_classes.specs.Mentioned.{names_mentions}
use Rattle.translate_classes.proofs.ProgramNames.NamedLemmas.{class-later, member-later, names-later}
use Rattle.translate_classes.proofs.ClassMaking.NamingLemmas.{names-slots, names-more, names-still, names-all, named-methods, named-fields, named-name}
use Rattle.translate_classes.specs.DataNaming.{words_descriptor}
use Rattle.translate_classes.proofs.Rooms.CountLemmas.{class-there}
use Rattle.translate_classes.proofs.LawfulNames.CharacterLemmas.{own-named}
use Rattle.translate_classes.proofs.LawfulNames.MemberLemmas.{words-named}
use Rattle.translate_classes.proofs.data_naming.named_class.Goals as goal

pub returns-clause-names : goal.returns-clause-names
returns-clause-names c =
    let name = c.args.name.now in
    let main = c.args.main.now in
    let begun = c.in_ok-class.class in
    let first = c.class_reference.new.class in
    let second = c.new.new.class in
    let third = c.method_reference.new.class in
    let fourth = c.page_slots.new.class in
    let own = OfClass name ∷ [] in
    let others = names_mentions 38 main in
    let words = method_mention name (codes "words") words_descriptor ∷ [] in
    let own_named = names-slots begun first 2 own c.in_ok-own.ensures.grown c.in_ok-own.ensures.mentions in
    let others_named = names-slots first second 180 others c.in_ok-names.ensures.grown c.in_ok-names.ensures.mentions in
    let own_is = class-later first.pool second.pool others_named.pool c.in_ok-own.own name c.in_ok-own.ensures.there in
    let words_named = names-slots second third 4 words c.in_ok-words.ensures.grown (c.in_ok-words.ensures.mentions name own_is) in
    let last = c.in_ok-texts.ensures.grown in
    let from_second = names-still second third fourth words words_named last in
    let from_first = names-more first second fourth others words others_named from_second in
    let more = own ++ others ++ words in
    let all = names-still begun third fourth more
    (names-more begun second third (own ++ others) words (names-more begun first second own others own_named others_named) words_named) last in
    record {
      no_methods = named-methods begun fourth more all ∙ c.in_ok-class.ensures.methods;
      no_fields = named-fields begun fourth more all ∙ c.in_ok-class.ensures.fields;
      named = named-name begun fourth more _ all c.in_ok-class.ensures.named;
      names = record {
        names_are = names-later 38 second.pool fourth.pool from_second.pool _ c.in_ok-names.names c.in_ok-names.ensures.there;
        own_is = class-later first.pool fourth.pool from_first.pool c.in_ok-own.own _ c.in_ok-own.ensures.there;
        words_is = member-later third.pool fourth.pool last.pool MethodRef c.in_ok-words.words c.in_ok-own.own _ _ c.in_ok-words.ensures.there;
        texts_are = c.in_ok-texts.ensures.there;
      };
      mentions = names-all begun fourth _ more c.in_ok-class.ensures.mentions all;
    }

pub class_reference-requires-clause-name : goal.class_reference-requires-clause-name
class_reference-requires-clause-name c = own-named c.args.name.now c.requires.name

pub new-requires : goal.new-requires
new-requires c = omega (arith, c.in_ok-class.ensures.few, c.in_ok-own.ensures.grown.pool.few)

pub method_reference-requires-clause-room : goal.method_reference-requires-clause-room
method_reference-requires-clause-room c =
    omega (arith, c.in_ok-class.ensures.few, c.in_ok-own.ensures.grown.pool.few, c.in_ok-names.ensures.grown.pool.few)

pub method_reference-requires-clause-owner : goal.method_reference-requires-clause-owner
method_reference-requires-clause-owner c =
    let own = c.in_ok-own.own in
    class-there c.new.new.class.pool own c.args.name.now
    (class-later c.class_reference.new.class.pool c.new.new.class.pool c.in_ok-names.ensures.grown.pool.kept own c.args.name.now
    c.in_ok-own.ensures.there)

pub method_reference-requires-clause-name : goal.method_reference-requires-clause-name
method_reference-requires-clause-name c = words-named

pub page_slots-requires-clause-room : goal.page_slots-requires-clause-room
page_slots-requires-clause-room c =
    omega (
      arith,
      c.requires.pages,
      c.in_ok-class.ensures.few,
      c.in_ok-own.ensures.grown.pool.few,
      c.in_ok-names.ensures.grown.pool.few,
      c.in_ok-words.ensures.grown.pool.few,
    )

pub returns-clause-few : goal.returns-clause-few
returns-clause-few c =
    omega (
      arith,
      c.requires.pages,
      c.in_ok-class.ensures.few,
      c.in_ok-own.ensures.grown.pool.few,
      c.in_ok-names.ensures.grown.pool.few,
      c.in_ok-words.ensures.grown.pool.few,
      c.in_ok-texts.ensures.few,
    )
