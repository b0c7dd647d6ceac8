use Rattle.std.proofs.Common.{◌∙◌, false, refl, sym, ap, subst, rules}
use Rattle.class_sets.specs.ClassSets.{class_in_bytes}
use Rattle.class_sets.specs.Waiting.{GivesOver}
use Rattle.class_sets.proofs.FoundLemmas.{begins, goes_more, loads_all, loads_faulty, loads_full, same_still}
use Rattle.class_sets.proofs.SetLemmas.{kept_loaded, one_class_more, kept_more}
use Rattle.class_sets.proofs.load.load_set.Goals as goal
use Rattle.nv_outside.proofs.FilesLemmas.{same_then_same}

pub returns-in_err-bytes-clause-same : goal.returns-in_err-bytes-clause-same
returns-in_err-bytes-clause-same g c = same_then_same (g.H.Shelf.files c.args.shelf.now) (g.H.Shelf.files c.loop-number.shelf) (g.H.Shelf.files c.next_file.new.shelf) c.loop-number.invariant.same c.next_file.ensures.same

pub returns-in_err-class-clause-same : goal.returns-in_err-class-clause-same
returns-in_err-class-clause-same g c = same_then_same (g.H.Shelf.files c.args.shelf.now) (g.H.Shelf.files c.loop-number.shelf) (g.H.Shelf.files c.next_file.new.shelf) c.loop-number.invariant.same c.next_file.ensures.same

pub returns-in_err-add-in-Ok-clause-same : goal.returns-in_err-add-in-Ok-clause-same
returns-in_err-add-in-Ok-clause-same g c = same_then_same (g.H.Shelf.files c.args.shelf.now) (g.H.Shelf.files c.loop-number.shelf) (g.H.Shelf.files c.next_file.new.shelf) c.loop-number.invariant.same c.next_file.ensures.same

pub returns-in_err-push-in-Ok-clause-same : goal.returns-in_err-push-in-Ok-clause-same
returns-in_err-push-in-Ok-clause-same g c = same_then_same (g.H.Shelf.files c.args.shelf.now) (g.H.Shelf.files c.loop-number.shelf) (g.H.Shelf.files c.next_file.new.shelf) c.loop-number.invariant.same c.next_file.ensures.same

pub returns-in-Err-clause-same : goal.returns-in-Err-clause-same
returns-in-Err-clause-same g c = same_then_same (g.H.Shelf.files c.args.shelf.now) (g.H.Shelf.files c.loop-number.shelf) (g.H.Shelf.files c.next_file.new.shelf) c.loop-number.invariant.same c.next_file.ensures.same

pub returns-in_default-clause-same : goal.returns-in_default-clause-same
returns-in_default-clause-same g c = same_then_same (g.H.Shelf.files c.args.shelf.now) (g.H.Shelf.files c.loop-number.shelf) (g.H.Shelf.files c.next_file.new.shelf) c.loop-number.invariant.same c.next_file.ensures.same

pub loop-number-init : goal.loop-number-init
loop-number-init g c =
    let none = c.new-classes.ensures.items in
    record {
      numbered = search rules;
      kept = search rules;
      same = same_still (g.H.Shelf.files c.args.shelf.now);
      faults = refl;
      goes_on = begins (g.H.Shelf.files c.args.shelf.now) c.args.name.now c.new-classes.result.items c.in_ok-names.names none
          c.in_ok-names.ensures.asked c.in_ok-names.ensures.waiting;
    }

pub returns-in_default-clause-kept : goal.returns-in_default-clause-kept
returns-in_default-clause-kept g c = kept_loaded c.set_of.result c.loop-number.classes.items c.set_of.ensures c.loop-number.invariant.kept

pub returns-in_default-clause-loaded : goal.returns-in_default-clause-loaded
returns-in_default-clause-loaded g c =
    let told = g.H.Shelf.files c.args.shelf.now in
    let s = c.loop-number.invariant.goes_on in
    loads_all told c.args.name.now c.loop-number.number c.loop-number.classes.items c.loop-number.names c.next_file.new.self c.set_of.result
    c.loop-number-test.true s (subst (λ found. GivesOver told s.found c.loop-number.names found c.next_file.new.self) c.in_default.is
    (c.in_ok-bytes.ensures.found told s.found c.loop-number.invariant.same s.agree)) c.set_of.ensures

pub returns-in-Err-clause-loaded : goal.returns-in-Err-clause-loaded
returns-in-Err-clause-loaded g c =
    let told = g.H.Shelf.files c.args.shelf.now in
    let s = c.loop-number.invariant.goes_on in
    loads_faulty told c.args.name.now c.loop-number.number c.loop-number.classes.items c.loop-number.names c.next_file.new.self c.in-Some.bytes
    c.in-Err.fault c.loop-number-test.true c.loop-number.invariant.numbered s
    (subst (λ found. GivesOver told s.found c.loop-number.names found c.next_file.new.self) c.in-Some.is
    (c.in_ok-bytes.ensures.found told s.found c.loop-number.invariant.same s.agree))
    (ap class_in_bytes (sym c.as_slice.ensures.value) ∙ sym c.in_ok-class.ensures.is ∙ c.in-Err.is)

pub loop-number-preserved : goal.loop-number-preserved
loop-number-preserved g c =
    let classes = c.loop-number.classes.items in
    let more = c.push.new.classes.items in
    let class = c.in-Ok.class in
    let told = g.H.Shelf.files c.args.shelf.now in
    let s = c.loop-number.invariant.goes_on in
    record {
      numbered = one_class_more classes more class c.loop-number.number c.loop-number.invariant.numbered c.in_ok-push-in-Ok.ensures;
      kept = kept_more classes more class c.in_ok-class.field-0 c.loop-number.invariant.kept c.in_ok-class.ensures.kept c.in-Ok.is c.in_ok-push-in-Ok.ensures;
      same = same_then_same told (g.H.Shelf.files c.loop-number.shelf) (g.H.Shelf.files c.next_file.new.shelf) c.loop-number.invariant.same c.next_file.ensures.same;
      faults = c.in_ok-bytes.ensures.count.stays (refl {a = false}) ∙ c.loop-number.invariant.faults;
      goes_on =
          goes_more told c.args.name.now c.loop-number.number classes more c.loop-number.names c.next_file.new.self c.add.new.self c.in-Some.bytes class
          c.loop-number-test.true s
          (subst (λ found. GivesOver told s.found c.loop-number.names found c.next_file.new.self) c.in-Some.is
          (c.in_ok-bytes.ensures.found told s.found c.loop-number.invariant.same s.agree))
          (ap class_in_bytes (sym c.as_slice.ensures.value) ∙ sym c.in_ok-class.ensures.is ∙ c.in-Ok.is)
          c.next_file.ensures.once c.in_ok-add-in-Ok.ensures.asked c.in_ok-add-in-Ok.ensures.waiting c.in_ok-push-in-Ok.ensures;
    }

pub returns-clause-loaded : goal.returns-clause-loaded
returns-clause-loaded g c =
    loads_full (g.H.Shelf.files c.args.shelf.now) c.args.name.now c.loop-number.number c.loop-number.classes.items c.loop-number.names c.set_of-2.result
    c.loop-number-test.false c.loop-number.invariant.goes_on c.set_of-2.ensures

pub returns-clause-kept : goal.returns-clause-kept
returns-clause-kept g c = kept_loaded c.set_of-2.result c.loop-number.classes.items c.set_of-2.ensures c.loop-number.invariant.kept
