use Rattle.std.proofs.Common.{sym, subst, arith}
use Rattle.jvm_definition.specs.Program.{LaidFrom}
use Rattle.stackmap_prune.specs.Pruned.{return_of}
use Rattle.stackmap_prune.specs.Linked.{is_marked, pruned_linked}
use Rattle.stackmap_prune.specs.Listing.{AllBefore}
use Rattle.stackmap_prune.proofs.LinkedLaws.{line-marked, all-marked}
use Rattle.stackmap_prune.proofs.listing.marks_of.Goals as goal

pub mark_line-requires : goal.mark_line-requires
mark_line-requires c =
    let v = c.loop-line.invariant in
    let laid = subst (LaidFrom v.at) c.in-Some.ensures.cases.0 v.laid in
    omega (arith, laid.1)

pub loop-line-preserved : goal.loop-line-preserved
loop-line-preserved c =
    let m = c.args.method.now in
    let kept = is_marked c.args.kept.now in
    let name = return_of m.gives_int in
    let v = c.loop-line.invariant in
    let is = c.in-Some.ensures.cases.0 in
    let size = c.in_ok-mark_line.ensures.length in
    let laid = subst (LaidFrom v.at) is v.laid in
    record {
      marks = λ at inside.
          line-marked kept name at (is_marked c.loop-line.marks.items at) (is_marked c.mark_line.new.marks.items at) _ c.in-Some.line.now c.loop-line.rest.now c.in-Some.others.now is
          (c.in_ok-mark_line.ensures.marked name at inside) (v.marks at (omega (arith, inside, size)));
      all = subst (λ n. AllBefore n (pruned_linked kept name m.lines)) (sym size) v.all;
      at = c.in-Some.line.now.next;
      laid = laid.2;
    }

pub returns-clause-marks : goal.returns-clause-marks
returns-clause-marks c = λ at inside.
    all-marked (is_marked c.args.kept.now) (return_of c.args.method.now.gives_int) at (is_marked c.loop-line.marks.items at) _ c.loop-line.rest.now c.in_default.ensures.cases (c.loop-line.invariant.marks at inside)
