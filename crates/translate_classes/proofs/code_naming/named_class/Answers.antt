use Rattle.std.proofs.Common.{◌+◌, ◌*◌, [], ◌∷◌, ◌++◌, ◌∙◌, arith}
use Rattle.class_definition.specs.declared.entry.Entry.TheVariants.{MethodRef}
use Rattle.emit_layout.specs.Helpers.{helper_name, helper_descriptor}
use Rattle.emit_classes.specs.Mentioned.{OfClass}
use Rattle.emit_classes.proofs.Mentions.{mentions-further, mentions-after}
use Rattle.emit_methods_laws.specs.Naming.{fields_of}
use Rattle.translate_classes.specs.Mentioned.{names_mentions, helper_mentions}
use Rattle.translate_classes.proofs.ProgramNames.NamedLemmas.{class-later, members-later, names-later, grown-further}
use Rattle.translate_classes.proofs.ClassMaking.GrowingLemmas.{grown-name, grown-methods, grown-fields}
use Rattle.translate_classes.specs.CodeNaming.{span_mentions}
use Rattle.translate_classes.proofs.Rooms.CountLemmas.{class-there}
use Rattle.translate_classes.proofs.LawfulNames.CharacterLemmas.{own-named}
use Rattle.translate_classes.proofs.code_naming.named_class.Goals as goal

pub returns-clause-names : goal.returns-clause-names
returns-clause-names c =
    let begun = c.in_ok-class.class in
    let first = c.new.new.class in
    let second = c.helper_references.new.class in
    let third = c.class_reference.new.class in
    let fourth = c.span_references.new.class in
    let more = 4 * c.args.spans in
    let last = c.in_ok-own_methods.ensures.grown in
    let from_second = grown-further second third fourth 2 more c.in_ok-own.ensures.grown last in
    let from_first = grown-further first second fourth 80 (2 + more) c.in_ok-helpers.ensures.grown from_second in
    let all = 180 + (80 + (2 + more)) in
    let from_begun = grown-further begun first fourth 180 (80 + (2 + more)) c.in_ok-names.ensures.grown from_first in
    let name = c.args.name.now in
    let main = c.args.main.now in
    let names = names_mentions (fields_of c.args.metered) main in
    let helpers = helper_mentions main 20 in
    let own = OfClass name ∷ [] in
    let spans = span_mentions name c.args.spans in
    let helpers_named = mentions-after begun.pool first.pool second.pool names helpers c.in_ok-names.ensures.mentions
    (c.in_ok-helpers.ensures.mentions main c.in_ok-names.ensures.there.main_is) in
    let own_named = mentions-after begun.pool second.pool third.pool (names ++ helpers) own helpers_named c.in_ok-own.ensures.mentions in
    let spans_named = mentions-after begun.pool third.pool fourth.pool (names ++ helpers ++ own) spans own_named
    (c.in_ok-own_methods.ensures.mentions name c.in_ok-own.ensures.there) in
    record {
      no_methods = grown-methods begun fourth all from_begun ∙ c.in_ok-class.ensures.methods;
      no_fields = grown-fields begun fourth all from_begun ∙ c.in_ok-class.ensures.fields;
      named = grown-name begun fourth all _ from_begun c.in_ok-class.ensures.named;
      names_are = names-later _ first.pool fourth.pool from_first.pool.kept _ c.in_ok-names.names c.in_ok-names.ensures.there;
      helpers_are =
          members-later second.pool fourth.pool from_second.pool.kept MethodRef helper_name helper_descriptor c.in_ok-names.names.main
          c.in_ok-helpers.helpers.items 20 c.in_ok-helpers.ensures.there;
      own_is = class-later third.pool fourth.pool last.pool.kept c.in_ok-own.own _ c.in_ok-own.ensures.there;
      own_are = c.in_ok-own_methods.ensures.there;
      mentions = mentions-further begun.pool fourth.pool _ (names ++ helpers ++ own ++ spans) c.in_ok-class.ensures.mentions spans_named;
    }

pub helper_references-requires-clause-room : goal.helper_references-requires-clause-room
helper_references-requires-clause-room c = omega (arith, c.in_ok-class.ensures.few, c.in_ok-names.ensures.grown.pool.few)

pub helper_references-requires-clause-owner : goal.helper_references-requires-clause-owner
helper_references-requires-clause-owner c = class-there c.new.new.class.pool c.in_ok-names.names.main _ c.in_ok-names.ensures.there.main_is

pub class_reference-requires-clause-room : goal.class_reference-requires-clause-room
class_reference-requires-clause-room c =
    omega (arith, c.in_ok-class.ensures.few, c.in_ok-names.ensures.grown.pool.few, c.in_ok-helpers.ensures.grown.pool.few)

pub class_reference-requires-clause-name : goal.class_reference-requires-clause-name
class_reference-requires-clause-name c = own-named c.args.name.now c.requires.name

pub span_references-requires-clause-room : goal.span_references-requires-clause-room
span_references-requires-clause-room c =
    omega (
      arith,
      c.requires.few,
      c.in_ok-class.ensures.few,
      c.in_ok-names.ensures.grown.pool.few,
      c.in_ok-helpers.ensures.grown.pool.few,
      c.in_ok-own.ensures.grown.pool.few,
    )

pub span_references-requires-clause-owner : goal.span_references-requires-clause-owner
span_references-requires-clause-owner c = class-there c.class_reference.new.class.pool c.in_ok-own.own _ c.in_ok-own.ensures.there

pub returns-clause-few : goal.returns-clause-few
returns-clause-few c =
    omega (
      arith,
      c.in_ok-class.ensures.few,
      c.in_ok-names.ensures.grown.pool.few,
      c.in_ok-helpers.ensures.grown.pool.few,
      c.in_ok-own.ensures.grown.pool.few,
      c.in_ok-own_methods.ensures.grown.pool.few,
    )
