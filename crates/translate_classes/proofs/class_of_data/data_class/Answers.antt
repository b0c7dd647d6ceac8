use Rattle.std.proofs.Common.{◌≡◌, ◌∷◌, [], ap, ◌∙◌, subst, map, true, length, sym, All, arith}
use Rattle.emit_classes.specs.Named.{IsClassAt}
use Rattle.emit_classes.specs.Mentioned.{Mentions}
use Rattle.emit_classes.proofs.Mentions.{mentions-still}
use Rattle.translate_classes.specs.Making.{AddsMethods}
use Rattle.translate_classes.proofs.ClassMaking.MakingLemmas.{adds-more, made-all, adds-fields, adds-name}
use Rattle.translate_classes.specs.Tables.{references_of}
use Rattle.translate_classes.specs.Pages.{page_of}
use Rattle.translate_classes.specs.DataNaming.{AreDataNames, data_mentions}
use Rattle.translate_classes.specs.Data.{words_plan, fill_plan}
use Rattle.translate_classes.proofs.DataClasses.NameLemmas.{data-names-later}
use Rattle.emit_assembly.specs.declared.references.References.{References}
use Rattle.emit_assembly.specs.Assembling.{has_method}
use Rattle.emit_classes.specs.Lawful.{has_text}
use Rattle.emit_loading.specs.declared.page_slot.PageSlot.{PageSlot}
use Rattle.translate_classes.specs.Room.{is_own_name}
use Rattle.translate_classes.specs.Pages.{IsPageSlot}
use Rattle.translate_classes.proofs.DataClasses.NameLemmas.{slots-later}
use Rattle.translate_classes.proofs.Rooms.CountLemmas.{adds-count, has-numbered, pages-there, zip-length}
use Rattle.std.proofs.lemmas.List.{length-map}
use Rattle.translate_classes.proofs.class_of_data.data_class.Goals as goal

pub returns : goal.returns
returns c =
    let named = c.in_ok-named.named in
    let told = c.in_ok-named.ensures.names in
    let middle = c.with_words.new.class in
    let final = c.add_fill.new.class in
    let references = references_of named.names c.args.first_method (named.words ∷ []) in
    let same : c.in_ok-references.references ≡ references = c.in_ok-references.ensures.references in
    let texts : c.as_slice.result.now ≡ named.texts.items = c.as_slice.ensures.value in
    let number = c.args.class in
    let words = c.args.first_method in
    let first_added = c.in_ok-references.ensures.method in
    let second_added =
    subst (λ t. AddsMethods middle final (fill_plan t number words references ∷ [])) texts
    (subst (λ r. AddsMethods middle final (fill_plan c.as_slice.result.now number words r ∷ [])) same c.in_ok-add_fill.ensures) in
    let plans = words_plan references ∷ fill_plan named.texts.items number words references ∷ [] in
    let all : AddsMethods named.class final plans =
    adds-more named.class middle final (words_plan references ∷ []) (fill_plan named.texts.items number words references ∷ [])
    first_added second_added in
    let name_is = c.as_str.ensures.value ∙ c.in_ok-name.ensures.value in
    record {
      class = final;
      spells = c.in_ok-finish.ensures.spelled;
      named = subst (λ name. IsClassAt final.pool final.this_class name) name_is (adds-name named.class final plans _ all told.named);
      no_fields = adds-fields named.class final plans all ∙ told.no_fields;
      names = named.names;
      own = named.own;
      words = named.words;
      texts = named.texts.items;
      names_are =
          subst
          (λ name. AreDataNames final.pool name c.args.main.now (map page_of c.args.pages.now) named.names named.own named.words named.texts.items)
          name_is
          (data-names-later named.class.pool final.pool all.pool _ _ _ named.names named.own named.words named.texts.items told.names);
      mentions =
          subst (λ name. Mentions final.pool (data_mentions name c.args.main.now)) name_is
          (mentions-still named.class.pool final.pool _ told.mentions all.mentions);
      methods = made-all named.class final plans all told.no_methods;
    }

pub named_class-requires-clause-name : goal.named_class-requires-clause-name
named_class-requires-clause-name c =
    subst (λ name. is_own_name name ≡ true) (sym c.as_str.ensures.value) c.in_ok-name.ensures.own

pub with_words-requires-clause-fields : goal.with_words-requires-clause-fields
with_words-requires-clause-fields c = omega (arith, c.in_ok-named.ensures.names.names.names_are.fields_are.count_is)

pub with_words-requires-clause-none : goal.with_words-requires-clause-none
with_words-requires-clause-none c = c.in_ok-named.ensures.names.no_methods

pub with_words-requires-clause-room : goal.with_words-requires-clause-room
with_words-requires-clause-room c = c.in_ok-named.ensures.few

pub add_fill-requires-clause-fields : goal.add_fill-requires-clause-fields
add_fill-requires-clause-fields c =
    omega (
      arith,
      ap (λ (r : References). length r.fields) c.in_ok-references.ensures.references,
      c.in_ok-named.ensures.names.names.names_are.fields_are.count_is,
    )

pub add_fill-requires-clause-words : goal.add_fill-requires-clause-words
add_fill-requires-clause-words c =
    let first = c.args.first_method in
    subst (λ r. has_method r first ≡ true) (sym c.in_ok-references.ensures.references)
    (has-numbered (references_of c.in_ok-named.named.names first (c.in_ok-named.named.words ∷ [])) first (omega arith) (omega arith))

pub add_fill-requires-clause-few : goal.add_fill-requires-clause-few
add_fill-requires-clause-few c =
    let named = c.in_ok-named.named in
    let pages = map page_of c.args.pages.now in
    omega (
      arith,
      ap length c.as_slice.ensures.value,
      zip-length (IsPageSlot named.class.pool) named.texts.items pages c.in_ok-named.ensures.names.names.texts_are,
      length-map c.args.pages.now page_of,
      c.requires.pages,
    )

pub add_fill-requires-clause-texts : goal.add_fill-requires-clause-texts
add_fill-requires-clause-texts c =
    let named = c.in_ok-named.named in
    let middle = c.with_words.new.class in
    let pages = map page_of c.args.pages.now in
    subst (All (λ (s : PageSlot). has_text middle.pool s.slot ≡ true)) (sym c.as_slice.ensures.value)
    (pages-there middle.pool named.texts.items pages
    (slots-later named.class.pool middle.pool c.in_ok-references.ensures.method.pool named.texts.items pages
    c.in_ok-named.ensures.names.names.texts_are))

pub add_fill-requires-clause-few_methods : goal.add_fill-requires-clause-few_methods
add_fill-requires-clause-few_methods c =
    let named = c.in_ok-named.named in
    let words = words_plan (references_of named.names c.args.first_method (named.words ∷ [])) in
    omega (
      arith,
      adds-count named.class c.with_words.new.class (words ∷ []) c.in_ok-references.ensures.method,
      ap length c.in_ok-named.ensures.names.no_methods,
    )

pub add_fill-requires-clause-room : goal.add_fill-requires-clause-room
add_fill-requires-clause-room c =
    omega (arith, add_fill-requires-clause-few c, c.in_ok-named.ensures.few, c.in_ok-references.ensures.few)
