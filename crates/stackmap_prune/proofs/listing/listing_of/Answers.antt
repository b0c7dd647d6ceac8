use Rattle.std.proofs.Common.{◌≡◌, ◌++◌, length, sym, ap, subst, ◌∙◌, arith}
use Rattle.jvm_definition.specs.Program.{LaidFrom}
use Rattle.stackmap_prune.specs.Code.{is_listed}
use Rattle.stackmap_prune.specs.Pruned.{return_of}
use Rattle.stackmap_prune.specs.Linked.{is_marked, pruned_linked_line, pruned_linked}
use Rattle.stackmap_prune.specs.Listing.{AllBefore, must_list, listing}
use Rattle.stackmap_prune.proofs.LinkedLaws.{more, listed-goes, listed-ends, listing-agrees}
use Rattle.stackmap_prune.proofs.listing.listing_of.Goals as goal

pub loop-line-init : goal.loop-line-init
loop-line-init c =
    let m = c.args.method.now in
    let reached = c.args.reached.now in
    let must = is_marked c.in_ok-marks.marks.items in
    let kept = is_marked c.in_ok-kept.kept.items in
    let name = return_of m.gives_int in
    record {
      listed =
          ap (λ x. x ++ more must reached m.gives_int m.parameters x (pruned_linked kept name c.as_slice-rest.result.now)) c.new-listed.ensures.items
          ∙ ap (λ ls. listing must reached m.gives_int m.parameters (pruned_linked kept name ls)) c.as_slice-rest.ensures;
      at = 0;
      laid = subst (LaidFrom 0) (sym c.as_slice-rest.ensures) c.requires.laid;
    }

pub list_line-requires-clause-sized : goal.list_line-requires-clause-sized
list_line-requires-clause-sized c =
    let v = c.loop-line.invariant in
    let laid = subst (LaidFrom v.at) c.in-Some.ensures.cases.0 v.laid in
    omega (arith, laid.1)

pub loop-line-preserved : goal.loop-line-preserved
loop-line-preserved c =
    let m = c.args.method.now in
    let reached = c.args.reached.now in
    let l = c.in-Some.line.now in
    let v = c.loop-line.invariant in
    let is = c.in-Some.ensures.cases.0 in
    let laid = subst (LaidFrom v.at) is v.laid in
    let must = is_marked c.in_ok-marks.marks.items in
    let kept = is_marked c.in_ok-kept.kept.items in
    let name = return_of m.gives_int in
    let old = c.loop-line.listed.items in
    record {
      listed =
          listed-goes must reached m.gives_int m.parameters kept name old c.list_line.new.listed.items l c.loop-line.rest.now c.in-Some.others.now _ is
          (c.in_ok-list_line.ensures
          ∙ (ap (λ ms. old ++ more (is_marked ms) reached m.gives_int m.parameters old (pruned_linked_line (is_marked c.deref-in-Some.result.now) name l)) c.deref-in-Some-2.ensures.value
          ∙ ap (λ ks. old ++ more must reached m.gives_int m.parameters old (pruned_linked_line (is_marked ks) name l)) c.deref-in-Some.ensures.value))
          v.listed;
      at = l.next;
      laid = laid.2;
    }

pub returns : goal.returns
returns c =
    let m = c.args.method.now in
    let reached = c.args.reached.now in
    let marks = c.in_ok-marks.marks.items in
    let kept = is_marked c.in_ok-kept.kept.items in
    let name = return_of m.gives_int in
    let lines = pruned_linked kept name m.lines in
    let same : kept ≡ is_listed reached = λ i at. c.in_ok-kept.ensures at i in
    let given : is_marked c.deref.result.now ≡ kept = ap is_marked c.deref.ensures.value in
    listed-ends (is_marked marks) reached m.gives_int m.parameters kept name c.loop-line.listed.items c.loop-line.rest.now _ c.in_default.ensures.cases c.loop-line.invariant.listed
    ∙ (listing-agrees (is_marked marks) (must_list lines) reached m.gives_int (length marks)
    (λ at inside. c.in_ok-marks.ensures.marks at inside ∙ ap (λ k. must_list (pruned_linked k name m.lines) at) given)
    m.parameters lines (subst (λ k. AllBefore (length marks) (pruned_linked k name m.lines)) given c.in_ok-marks.ensures.all)
    ∙ ap (λ k. listing (must_list (pruned_linked k name m.lines)) reached m.gives_int m.parameters (pruned_linked k name m.lines)) same)
