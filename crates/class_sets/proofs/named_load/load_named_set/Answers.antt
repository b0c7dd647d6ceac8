use Rattle.std.proofs.Common.{◌≡◌, ◌∙◌, ◌++◌, [], ◌∷◌, length, false, refl, sym, ap, subst}
use Rattle.std.proofs.lemmas.Result.{err_from_is_err_and}
use Rattle.nv_outside.proofs.FilesLemmas.{same_then_same}
use Rattle.class_sets.specs.Waiting.{last_of, GivesOver}
use Rattle.class_sets.proofs.FoundLemmas.{same_still}
use Rattle.class_sets.specs.NamedSets.{named_class_in, members_of, no_members}
use Rattle.class_sets.proofs.NamedSetLemmas.{begins, goes_more, loads_all, loads_faulty, loads_full, members_more, one_class_more, counts-none, kept_none, kept_more, kept_set}
use Rattle.class_sets.proofs.KeptLaws.{class-kept}
use Rattle.class_sets.proofs.named_load.load_named_set.Goals as goal

pub returns-in_err-bytes-clause-same : goal.returns-in_err-bytes-clause-same
returns-in_err-bytes-clause-same g c = same_then_same (g.H.Shelf.files c.args.shelf.now) (g.H.Shelf.files c.loop-number.shelf) (g.H.Shelf.files c.next_file.new.shelf) c.loop-number.invariant.same c.next_file.ensures.same

pub returns-in_err-framed-clause-same : goal.returns-in_err-framed-clause-same
returns-in_err-framed-clause-same g c = same_then_same (g.H.Shelf.files c.args.shelf.now) (g.H.Shelf.files c.loop-number.shelf) (g.H.Shelf.files c.next_file.new.shelf) c.loop-number.invariant.same c.next_file.ensures.same

pub returns-in_err-add-in-Ok-clause-same : goal.returns-in_err-add-in-Ok-clause-same
returns-in_err-add-in-Ok-clause-same g c = same_then_same (g.H.Shelf.files c.args.shelf.now) (g.H.Shelf.files c.loop-number.shelf) (g.H.Shelf.files c.next_file.new.shelf) c.loop-number.invariant.same c.next_file.ensures.same

pub returns-in_err-push_name-in-Ok-clause-same : goal.returns-in_err-push_name-in-Ok-clause-same
returns-in_err-push_name-in-Ok-clause-same g c = same_then_same (g.H.Shelf.files c.args.shelf.now) (g.H.Shelf.files c.loop-number.shelf) (g.H.Shelf.files c.next_file.new.shelf) c.loop-number.invariant.same c.next_file.ensures.same

pub returns-in_err-push-in-Ok-clause-same : goal.returns-in_err-push-in-Ok-clause-same
returns-in_err-push-in-Ok-clause-same g c = same_then_same (g.H.Shelf.files c.args.shelf.now) (g.H.Shelf.files c.loop-number.shelf) (g.H.Shelf.files c.next_file.new.shelf) c.loop-number.invariant.same c.next_file.ensures.same

pub returns-in-Err-clause-same : goal.returns-in-Err-clause-same
returns-in-Err-clause-same g c = same_then_same (g.H.Shelf.files c.args.shelf.now) (g.H.Shelf.files c.loop-number.shelf) (g.H.Shelf.files c.next_file.new.shelf) c.loop-number.invariant.same c.next_file.ensures.same

pub returns-in_default-clause-same : goal.returns-in_default-clause-same
returns-in_default-clause-same g c = same_then_same (g.H.Shelf.files c.args.shelf.now) (g.H.Shelf.files c.loop-number.shelf) (g.H.Shelf.files c.next_file.new.shelf) c.loop-number.invariant.same c.next_file.ensures.same

pub loop-number-init : goal.loop-number-init
loop-number-init g c =
    let m = members_of c.new-names.result.items c.new-classes.result.items c.new-tables.result.items in
    let none : m ≡ no_members = λ i. members_of (c.new-names.ensures.items i) (c.new-classes.ensures.items i) (c.new-tables.ensures.items i) in
    record {
      numbered = ap length c.new-classes.ensures.items;
      kept = kept_none c.args.version m none;
      same = same_still (g.H.Shelf.files c.args.shelf.now);
      faults = refl;
      goes_on = begins c.args.version (g.H.Shelf.files c.args.shelf.now) c.args.name.now m c.in_ok-waiting.waiting none
          c.in_ok-waiting.ensures.asked c.in_ok-waiting.ensures.waiting;
    }

pub returns-in_default-clause-kept : goal.returns-in_default-clause-kept
returns-in_default-clause-kept g c =
    kept_set c.args.version (members_of c.loop-number.names.items c.loop-number.classes.items c.loop-number.tables.items) c.set_of.result c.set_of.ensures c.loop-number.invariant.kept

pub returns-in_default-clause-loaded : goal.returns-in_default-clause-loaded
returns-in_default-clause-loaded g c =
    let told = g.H.Shelf.files c.args.shelf.now in
    let s = c.loop-number.invariant.goes_on in
    let m = members_of c.loop-number.names.items c.loop-number.classes.items c.loop-number.tables.items in
    loads_all c.args.version told c.args.name.now c.loop-number.number m c.loop-number.waiting c.next_file.new.self c.set_of.result
    c.loop-number-test.true s (subst (λ found. GivesOver told s.found c.loop-number.waiting found c.next_file.new.self) c.in_default.is
    (c.in_ok-bytes.ensures.found told s.found c.loop-number.invariant.same s.agree)) c.set_of.ensures

pub returns-in-Err-clause-loaded : goal.returns-in-Err-clause-loaded
returns-in-Err-clause-loaded g c =
    let told = g.H.Shelf.files c.args.shelf.now in
    let s = c.loop-number.invariant.goes_on in
    let m = members_of c.loop-number.names.items c.loop-number.classes.items c.loop-number.tables.items in
    loads_faulty c.args.version told c.args.name.now c.loop-number.number m c.loop-number.waiting c.next_file.new.self c.in-Some.bytes
    c.in-Err.fault c.loop-number-test.true c.loop-number.invariant.numbered s
    (subst (λ found. GivesOver told s.found c.loop-number.waiting found c.next_file.new.self) c.in-Some.is
    (c.in_ok-bytes.ensures.found told s.found c.loop-number.invariant.same s.agree))
    (ap (named_class_in c.args.version) (sym c.as_slice.ensures.value) ∙ sym c.in_ok-framed.ensures.is ∙ c.in-Err.is)

pub loop-number-preserved : goal.loop-number-preserved
loop-number-preserved g c =
    let names = c.loop-number.names.items in
    let classes = c.loop-number.classes.items in
    let tables = c.loop-number.tables.items in
    let m = members_of names classes tables in
    let more = members_of c.push_name.new.names.items c.push.new.classes.items c.push.new.tables.items in
    let framed = c.in-Ok.framed in
    let told = g.H.Shelf.files c.args.shelf.now in
    let s = c.loop-number.invariant.goes_on in
    let mid = c.next_file.new.self in
    let name = c.last_asked.result.now in
    let named = c.last_asked.ensures ∙ ap last_of c.in_ok-add-in-Ok.ensures.asked in
    let more_is = members_more names c.push_name.new.names.items classes c.push.new.classes.items tables c.push.new.tables.items (last_of mid.asked) framed
    (subst (λ n. c.push_name.new.names.items ≡ names ++ n ∷ []) named c.in_ok-push_name-in-Ok.ensures) c.in_ok-push-in-Ok.ensures.classes c.in_ok-push-in-Ok.ensures.tables in
    record {
      numbered = one_class_more classes c.push.new.classes.items framed.class c.loop-number.number c.loop-number.invariant.numbered c.in_ok-push-in-Ok.ensures.classes;
      kept = kept_more c.args.version m more (last_of mid.asked) framed c.in_ok-framed.field-0 c.loop-number.invariant.kept c.in_ok-framed.ensures.kept c.in-Ok.is more_is;
      same = same_then_same told (g.H.Shelf.files c.loop-number.shelf) (g.H.Shelf.files c.next_file.new.shelf) c.loop-number.invariant.same c.next_file.ensures.same;
      faults = c.in_ok-bytes.ensures.count.stays (refl {a = false}) ∙ c.loop-number.invariant.faults;
      goes_on =
          goes_more c.args.version told c.args.name.now c.loop-number.number m more c.loop-number.waiting mid c.add.new.self c.in-Some.bytes framed
          c.loop-number-test.true s
          (subst (λ found. GivesOver told s.found c.loop-number.waiting found mid) c.in-Some.is
          (c.in_ok-bytes.ensures.found told s.found c.loop-number.invariant.same s.agree))
          (ap (named_class_in c.args.version) (sym c.as_slice.ensures.value) ∙ sym c.in_ok-framed.ensures.is ∙ c.in-Ok.is)
          c.next_file.ensures.once c.in_ok-add-in-Ok.ensures.asked c.in_ok-add-in-Ok.ensures.waiting more_is;
    }

pub returns-clause-loaded : goal.returns-clause-loaded
returns-clause-loaded g c =
    loads_full c.args.version (g.H.Shelf.files c.args.shelf.now) c.args.name.now c.loop-number.number
    (members_of c.loop-number.names.items c.loop-number.classes.items c.loop-number.tables.items) c.loop-number.waiting c.set_of-2.result
    c.loop-number-test.false c.loop-number.invariant.goes_on c.set_of-2.ensures

pub returns-clause-kept : goal.returns-clause-kept
returns-clause-kept g c =
    kept_set c.args.version (members_of c.loop-number.names.items c.loop-number.classes.items c.loop-number.tables.items) c.set_of-2.result c.set_of-2.ensures c.loop-number.invariant.kept

pub add-requires : goal.add-requires
add-requires g c = class-kept c.args.version c.in-Ok.framed c.in_ok-framed.field-0 c.in_ok-framed.ensures.kept c.in-Ok.is

pub returns-in_err-framed-clause-count : goal.returns-in_err-framed-clause-count
returns-in_err-framed-clause-count g c =
    let p = err_from_is_err_and c.from_residual-in_err-framed.result c.from_residual-in_err-framed.ensures.1 in
    rw (p.1, p.2) (counts-none (g.H.Shelf.faults c.args.shelf.now) (g.H.Shelf.faults c.next_file.new.shelf) (c.in_ok-bytes.ensures.count.stays (refl {a = false}) ∙ c.loop-number.invariant.faults))

pub returns-in_err-add-in-Ok-clause-count : goal.returns-in_err-add-in-Ok-clause-count
returns-in_err-add-in-Ok-clause-count g c =
    let p = err_from_is_err_and c.from_residual-in_err-add-in-Ok.result c.from_residual-in_err-add-in-Ok.ensures.1 in
    rw (p.1, p.2) (counts-none (g.H.Shelf.faults c.args.shelf.now) (g.H.Shelf.faults c.next_file.new.shelf) (c.in_ok-bytes.ensures.count.stays (refl {a = false}) ∙ c.loop-number.invariant.faults))

pub returns-in_err-push_name-in-Ok-clause-count : goal.returns-in_err-push_name-in-Ok-clause-count
returns-in_err-push_name-in-Ok-clause-count g c =
    let p = err_from_is_err_and c.from_residual-in_err-push_name-in-Ok.result c.from_residual-in_err-push_name-in-Ok.ensures.1 in
    rw (p.1, p.2) (counts-none (g.H.Shelf.faults c.args.shelf.now) (g.H.Shelf.faults c.next_file.new.shelf) (c.in_ok-bytes.ensures.count.stays (refl {a = false}) ∙ c.loop-number.invariant.faults))

pub returns-in_err-push-in-Ok-clause-count : goal.returns-in_err-push-in-Ok-clause-count
returns-in_err-push-in-Ok-clause-count g c =
    let p = err_from_is_err_and c.from_residual-in_err-push-in-Ok.result c.from_residual-in_err-push-in-Ok.ensures.1 in
    rw (p.1, p.2) (counts-none (g.H.Shelf.faults c.args.shelf.now) (g.H.Shelf.faults c.next_file.new.shelf) (c.in_ok-bytes.ensures.count.stays (refl {a = false}) ∙ c.loop-number.invariant.faults))
