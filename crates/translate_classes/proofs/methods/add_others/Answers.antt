use Rattle.std.proofs.Common.{◌≤◌, ◌∷◌, [], length, sym, subst, arith}
use Rattle.translate_classes.proofs.ClassMaking.MakingLemmas.{adds-more}
use Rattle.emit_methods_laws.specs.Naming.{fields_of}
use Rattle.translate_classes.specs.Making.{AddsMethods}
use Rattle.translate_classes.specs.Content.{has_meter}
use Rattle.translate_classes.specs.Main.{run_plan, choose_plan, pages_plan, missing_plan}
use Rattle.translate_classes.proofs.Rooms.CountLemmas.{adds-count}
use Rattle.translate_classes.proofs.methods.add_others.Goals as goal

pub returns : goal.returns
returns c =
    let main = c.args.main.now in
    let r = c.args.references.now in
    let first = c.add_run.new.class in
    let second = c.add_choose.new.class in
    let third = c.add_pages.new.class in
    let fourth = c.add_missing.new.class in
    let run = run_plan main c.args.texts.now r in
    let choose = choose_plan main r in
    let pages = pages_plan r in
    let missing = missing_plan (has_meter main) r in
    let last = subst (λ metered. AddsMethods third fourth (missing_plan metered r ∷ [])) c.is_some.ensures c.in_ok-add_missing.ensures in
    adds-more c.args.class.now first fourth (run ∷ []) (choose ∷ pages ∷ missing ∷ []) c.in_ok-add_run.ensures.method
    (adds-more first second fourth (choose ∷ []) (pages ∷ missing ∷ []) c.in_ok-add_choose.ensures.method
    (adds-more second third fourth (pages ∷ []) (missing ∷ []) c.in_ok-add_pages.ensures.method last))

pub add_choose-requires-clause-few : goal.add_choose-requires-clause-few
add_choose-requires-clause-few c =
    let run = run_plan c.args.main.now c.args.texts.now c.args.references.now in
    omega (arith, c.requires.few, adds-count c.args.class.now c.add_run.new.class (run ∷ []) c.in_ok-add_run.ensures.method)

pub add_pages-requires-clause-few : goal.add_pages-requires-clause-few
add_pages-requires-clause-few c =
    let choose = choose_plan c.args.main.now c.args.references.now in
    omega (
      arith,
      c.requires.few,
      adds-count c.args.class.now c.add_run.new.class (run_plan c.args.main.now c.args.texts.now c.args.references.now ∷ [])
          c.in_ok-add_run.ensures.method,
      adds-count c.add_run.new.class c.add_choose.new.class (choose ∷ []) c.in_ok-add_choose.ensures.method,
    )

pub add_missing-requires-clause-few : goal.add_missing-requires-clause-few
add_missing-requires-clause-few c =
    let r = c.args.references.now in
    omega (
      arith,
      c.requires.few,
      adds-count c.args.class.now c.add_run.new.class (run_plan c.args.main.now c.args.texts.now r ∷ []) c.in_ok-add_run.ensures.method,
      adds-count c.add_run.new.class c.add_choose.new.class (choose_plan c.args.main.now r ∷ []) c.in_ok-add_choose.ensures.method,
      adds-count c.add_choose.new.class c.add_pages.new.class (pages_plan r ∷ []) c.in_ok-add_pages.ensures.method,
    )

pub add_missing-requires-clause-fields : goal.add_missing-requires-clause-fields
add_missing-requires-clause-fields c =
    subst (λ metered. fields_of metered ≤ length c.args.references.now.fields) (sym c.is_some.ensures) c.requires.fields
