use Rattle.std.proofs.Common.{◌≡◌, ◌∷◌, [], length, ap, sym, ◌∙◌, subst, refl, arith}
use Rattle.emit_assembly.specs.declared.references.References.{References}
use Rattle.emit_methods_laws.specs.Whole.{HasHelpers}
use Rattle.translate_classes.specs.Tables.{references_of}
use Rattle.translate_classes.specs.Making.{AddsMethods}
use Rattle.translate_classes.specs.Code.{span_plans, run_plan, span_plan}
use Rattle.translate_classes.proofs.ClassMaking.MakingLemmas.{adds-more}
use Rattle.translate_classes.proofs.Rooms.CountLemmas.{adds-count, all-fields, plans-count}
use Rattle.translate_classes.proofs.class_of_code.add_methods.Goals as goal

pub returns-clause-methods : goal.returns-clause-methods
returns-clause-methods c =
    let part = c.args.divided.now.part.now in
    let spans = c.args.divided.now.spans.now in
    let names = c.args.names in
    let old = c.args.class.now in
    let middle = c.add_spans.new.class in
    let final = c.add_run.new.class in
    let first = references_of names 0 c.args.helpers.items in
    let own = references_of names c.args.first_method c.args.own_methods.items in
    let other : record c.with_methods-references.result { first_method = c.args.first_method; methods = c.new.result } ≡ own =
    ap (λ (r : References). record r { first_method = c.args.first_method; methods = c.new.result }) c.with_methods-references.ensures
    ∙ ap (λ methods. references_of names c.args.first_method methods) c.new.ensures in
    let before = span_plans part spans first (length spans) in
    let last = run_plan part spans c.args.first_method own ∷ [] in
    let spans_added : AddsMethods old middle before =
    subst (λ r. AddsMethods old middle (span_plans part spans r (length spans))) c.with_methods-references.ensures
    c.in_ok-pieces.ensures.methods in
    let run_added : AddsMethods middle final last =
    subst (λ r. AddsMethods middle final (run_plan part spans c.args.first_method r ∷ [])) other c.in_ok-add_run.ensures in
    adds-more old middle final before last spans_added run_added

pub add_spans-requires-clause-references : goal.add_spans-requires-clause-references
add_spans-requires-clause-references c =
    subst HasHelpers (sym c.with_methods-references.ensures) (record {
      fields = omega (arith, all-fields c.args.divided.now.part.now.metered, c.requires.fields);
      first = refl;
      helpers = omega (arith, c.requires.helpers);
    })

pub add_spans-requires-clause-fields : goal.add_spans-requires-clause-fields
add_spans-requires-clause-fields c =
    omega (arith, ap (λ (r : References). length r.fields) c.with_methods-references.ensures, c.requires.fields)

pub add_spans-requires-clause-room : goal.add_spans-requires-clause-room
add_spans-requires-clause-room c = omega (arith, c.requires.room, c.args.divided.now.few, c.args.divided.now.few_words)

pub add_run-requires-clause-fields : goal.add_run-requires-clause-fields
add_run-requires-clause-fields c =
    omega (
      arith,
      ap (λ (r : References). length r.fields) c.with_methods-references.ensures,
      c.requires.fields,
      all-fields c.args.divided.now.part.now.metered,
    )

pub add_run-requires-clause-count : goal.add_run-requires-clause-count
add_run-requires-clause-count c = ap length c.new.ensures ∙ c.requires.own

pub add_run-requires-clause-few_methods : goal.add_run-requires-clause-few_methods
add_run-requires-clause-few_methods c =
    let part = c.args.divided.now.part.now in
    let spans = c.args.divided.now.spans.now in
    let r = c.with_methods-references.result in
    omega (
      arith,
      adds-count c.args.class.now c.add_spans.new.class (span_plans part spans r (length spans)) c.in_ok-pieces.ensures.methods,
      plans-count (span_plan part spans r) (length spans),
      ap length c.requires.none,
      c.args.divided.now.few,
    )

pub add_run-requires-clause-room : goal.add_run-requires-clause-room
add_run-requires-clause-room c =
    omega (arith, c.requires.room, c.in_ok-pieces.ensures.few, c.args.divided.now.few, c.args.divided.now.few_words)
