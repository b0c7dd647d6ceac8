use Rattle.std.proofs.Common.{◌≡◌, ◌∷◌, [], ◌++◌, ◌<◌, All, length, sym, ◌∙◌, subst, true}
use Rattle.class_definition.specs.declared.entry.Entry.TheVariants.{MethodRef}
use Rattle.emit_layout.specs.ClassNames.{span_name}
use Rattle.emit_layout.specs.Helpers.{helper_name, helper_descriptor}
use Rattle.emit_classes.specs.Named.{IsClassAt}
use Rattle.emit_classes.specs.Mentioned.{Mentions}
use Rattle.emit_classes.proofs.Mentions.{mentions-still}
use Rattle.emit_methods_laws.specs.Naming.{fields_of}
use Rattle.translate_classes.specs.Tables.{references_of}
use Rattle.translate_classes.proofs.ProgramNames.NamedLemmas.{class-later, members-later, names-later}
use Rattle.translate_classes.specs.Making.{nothing}
use Rattle.translate_classes.specs.CodeNaming.{code_mentions}
use Rattle.translate_classes.specs.Code.{span_plans, run_plan}
use Rattle.translate_classes.proofs.ClassMaking.MakingLemmas.{made-all, adds-fields, adds-name}
use Rattle.translate_classes.proofs.CodeBlocks.RisingLemmas.{pieces-numbered}
use Rattle.translate_classes.specs.Room.{is_own_name}
use Rattle.translate_classes.proofs.class_of_code.code_class.Goals as goal

pub returns-clause-class : goal.returns-clause-class
returns-clause-class c =
    let part = c.args.divided.now.part.now in
    let spans = c.args.divided.now.spans.now in
    let named = c.in_ok-named.named in
    let told = c.in_ok-named.ensures.names in
    let final = c.add_methods.new.class in
    let first = references_of named.names 0 named.helpers.items in
    let own = references_of named.names c.args.first_method named.own_methods.items in
    let plans = span_plans part spans first (length spans) ++ run_plan part spans c.args.first_method own ∷ [] in
    let all = c.in_ok-pieces.ensures.methods in
    let name_is = c.as_str.ensures.value ∙ c.in_ok-name.ensures.value in
    record {
      class = final;
      spells = c.in_ok-bytes.ensures.spelled;
      named = subst (λ name. IsClassAt final.pool final.this_class name) name_is (adds-name named.class final plans _ all told.named);
      no_fields = adds-fields named.class final plans all ∙ told.no_fields;
      names = named.names;
      names_are = names-later _ named.class.pool final.pool all.pool _ named.names told.names_are;
      helpers = named.helpers.items;
      helpers_are =
          members-later named.class.pool final.pool all.pool MethodRef helper_name helper_descriptor named.names.main named.helpers.items 20 told.helpers_are;
      own = named.own;
      own_is = subst (λ name. IsClassAt final.pool named.own name) name_is (class-later named.class.pool final.pool all.pool named.own _ told.own_is);
      own_methods = named.own_methods.items;
      own_are =
          members-later named.class.pool final.pool all.pool MethodRef span_name (λ k. nothing) named.own named.own_methods.items (length spans) told.own_are;
      mentions =
          subst (λ name. Mentions final.pool (code_mentions (fields_of part.metered) name c.args.main.now (length spans))) name_is
          (mentions-still named.class.pool final.pool _ told.mentions all.mentions);
      methods = made-all named.class final plans all told.no_methods;
    }

pub returns-clause-pieces_within : goal.returns-clause-pieces_within
returns-clause-pieces_within c =
    let spans = c.args.divided.now.spans.now in
    subst (All (λ p. p.span < length spans)) (sym c.in_ok-pieces.ensures.pieces) (pieces-numbered c.args.divided.now.part.now spans)

pub named_class-requires-clause-name : goal.named_class-requires-clause-name
named_class-requires-clause-name c =
    subst (λ name. is_own_name name ≡ true) (sym c.as_str.ensures.value) c.in_ok-name.ensures.own

pub add_methods-requires-clause-fields : goal.add_methods-requires-clause-fields
add_methods-requires-clause-fields c = c.in_ok-named.ensures.names.names_are.fields_are.count_is

pub add_methods-requires-clause-helpers : goal.add_methods-requires-clause-helpers
add_methods-requires-clause-helpers c = c.in_ok-named.ensures.names.helpers_are.count_is

pub add_methods-requires-clause-own : goal.add_methods-requires-clause-own
add_methods-requires-clause-own c = c.in_ok-named.ensures.names.own_are.count_is

pub add_methods-requires-clause-none : goal.add_methods-requires-clause-none
add_methods-requires-clause-none c = c.in_ok-named.ensures.names.no_methods

pub add_methods-requires-clause-room : goal.add_methods-requires-clause-room
add_methods-requires-clause-room c = c.in_ok-named.ensures.few
