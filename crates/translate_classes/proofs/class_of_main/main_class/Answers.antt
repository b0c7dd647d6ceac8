use Rattle.std.proofs.Common.{◌≡◌, ◌++◌, sym, subst, true, length, refl, ap, ◌∙◌, All, arith}
use Rattle.std.proofs.lemmas.List.FromFn.{length-map-range_with_len}
use Rattle.method_splitter.specs.Shares.{share_count}
use Rattle.emit_assembly.specs.declared.references.References.{References}
use Rattle.emit_classes.proofs.Mentions.{mentions-still}
use Rattle.emit_classes.specs.Lawful.{has_text}
use Rattle.emit_classes.specs.Named.{IsTextAt}
use Rattle.emit_methods_laws.specs.Whole.{HasHelpers}
use Rattle.translate_classes.specs.Making.{AddsMethods}
use Rattle.translate_classes.proofs.ClassMaking.MakingLemmas.{adds-more, made-all, adds-fields, adds-name}
use Rattle.translate_classes.specs.Tables.{references_of}
use Rattle.translate_classes.specs.Fields.{AreFields}
use Rattle.translate_classes.specs.Main.{helper_plans, other_plans, main_plans, helper_plan}
use Rattle.translate_classes.proofs.MainClasses.FieldLemmas.{fields-later}
use Rattle.translate_classes.proofs.MainClasses.NameLemmas.{main-names-later, texts-later}
use Rattle.translate_classes.specs.Content.{has_meter, main_fields, share_text, share_texts, text_runs}
use Rattle.translate_classes.proofs.LawfulNames.TextLemmas.{few-shares}
use Rattle.translate_classes.proofs.Rooms.CountLemmas.{adds-count, all-fields, plans-count, rise-low, texts-there, zip-length}
use Rattle.translate_classes.proofs.class_of_main.main_class.Goals as goal

pub returns : goal.returns
returns c =
    let main = c.args.main.now in
    let named = c.in_ok-named.named in
    let told = c.in_ok-named.ensures.names in
    let middle = c.add_helpers.new.class in
    let final = c.add_others.new.class in
    let references = references_of named.names 0 named.methods.items in
    let same : c.with_methods-references.result ≡ references = c.with_methods-references.ensures in
    let order = main.beginning.order in
    let texts : c.as_slice.result.now ≡ named.texts.items = c.as_slice.ensures.value in
    let first = subst (λ r. AddsMethods named.class middle (helper_plans order r 20)) same c.in_ok-add_helpers.ensures.methods in
    let second =
    subst (λ t. AddsMethods middle final (other_plans main t references)) texts
    (subst (λ r. AddsMethods middle final (other_plans main c.as_slice.result.now r)) same c.in_ok-add_others.ensures) in
    let plans = main_plans main named.texts.items references in
    let all : AddsMethods named.class final plans =
    adds-more named.class middle final (helper_plans order references 20) (other_plans main named.texts.items references) first second in
    record {
      class = final;
      spells = c.in_ok-finish.ensures.spelled;
      named = adds-name named.class final plans _ all told.named;
      fields_are =
          subst (λ l. AreFields final.pool l (main_fields main)) (sym (adds-fields named.class final plans all))
          (fields-later named.class.pool final.pool all.pool named.class.fields (main_fields main) told.fields_are);
      names = named.names;
      slots = named.methods.items;
      texts = named.texts.items;
      names_are = main-names-later named.class.pool final.pool all.pool _ main named.names named.methods.items named.texts.items told.names;
      mentions = mentions-still named.class.pool final.pool _ told.mentions all.mentions;
      methods = made-all named.class final plans all told.no_methods;
    }

pub add_helpers-requires-clause-references : goal.add_helpers-requires-clause-references
add_helpers-requires-clause-references c =
    let main = c.args.main.now in
    let told = c.in_ok-named.ensures in
    subst HasHelpers (sym c.with_methods-references.ensures) (record {
      fields = omega (arith, all-fields (has_meter main), told.names.names.names_are.fields_are.count_is);
      first = refl;
      helpers = omega (arith, told.count, rise-low 24 (main.code.now ++ main.data.now) c.requires.main.rise);
    })

pub add_helpers-requires-clause-none : goal.add_helpers-requires-clause-none
add_helpers-requires-clause-none c = c.in_ok-named.ensures.names.no_methods

pub add_helpers-requires-clause-room : goal.add_helpers-requires-clause-room
add_helpers-requires-clause-room c = omega (arith, c.in_ok-named.ensures.few)

pub add_others-requires-clause-references : goal.add_others-requires-clause-references
add_others-requires-clause-references c =
    let main = c.args.main.now in
    let told = c.in_ok-named.ensures in
    subst HasHelpers (sym c.with_methods-references.ensures) (record {
      fields = omega (arith, all-fields (has_meter main), told.names.names.names_are.fields_are.count_is);
      first = refl;
      helpers = omega (arith, told.count, rise-low 24 (main.code.now ++ main.data.now) c.requires.main.rise);
    })

pub add_others-requires-clause-fields : goal.add_others-requires-clause-fields
add_others-requires-clause-fields c =
    omega (
      arith,
      ap (λ (r : References). length r.fields) c.with_methods-references.ensures,
      c.in_ok-named.ensures.names.names.names_are.fields_are.count_is,
    )

pub add_others-requires-clause-count : goal.add_others-requires-clause-count
add_others-requires-clause-count c =
    ap (λ (r : References). length r.methods) c.with_methods-references.ensures ∙ c.in_ok-named.ensures.count

pub add_others-requires-clause-texts : goal.add_others-requires-clause-texts
add_others-requires-clause-texts c =
    let named = c.in_ok-named.named in
    let middle = c.add_helpers.new.class in
    let texts = share_texts c.args.main.now.runs.now in
    subst (All (λ slot. has_text middle.pool slot ≡ true)) (sym c.as_slice.ensures.value)
    (texts-there middle.pool named.texts.items texts
    (texts-later named.class.pool middle.pool c.in_ok-add_helpers.ensures.methods.pool named.texts.items texts
    c.in_ok-named.ensures.names.names.texts_are))

pub add_others-requires-clause-few_texts : goal.add_others-requires-clause-few_texts
add_others-requires-clause-few_texts c =
    let named = c.in_ok-named.named in
    let runs = c.args.main.now.runs.now in
    let count = share_count text_runs (length runs) in
    omega (
      arith,
      ap length c.as_slice.ensures.value,
      zip-length (IsTextAt named.class.pool) named.texts.items (share_texts runs) c.in_ok-named.ensures.names.names.texts_are,
      length-map-range_with_len (share_text runs) 0 count,
      few-shares (length runs) c.requires.main.few_runs,
    )

pub add_others-requires-clause-few : goal.add_others-requires-clause-few
add_others-requires-clause-few c =
    let order = c.args.main.now.beginning.order in
    let r = c.with_methods-references.result in
    omega (
      arith,
      adds-count c.in_ok-named.named.class c.add_helpers.new.class (helper_plans order r 20) c.in_ok-add_helpers.ensures.methods,
      plans-count (helper_plan order r) 20,
      ap length c.in_ok-named.ensures.names.no_methods,
    )

pub add_others-requires-clause-room : goal.add_others-requires-clause-room
add_others-requires-clause-room c =
    omega (
      arith,
      c.in_ok-named.ensures.few,
      c.in_ok-add_helpers.ensures.few,
      add_others-requires-clause-few_texts c,
      c.requires.main.few,
    )
