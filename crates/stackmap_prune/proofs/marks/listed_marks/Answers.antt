use Rattle.std.proofs.Common.{length, sym, ap, subst, ◌∙◌}
use Rattle.std.proofs.lemmas.List.{length-set}
use Rattle.stackmap_prune.specs.Listing.{AreListedBefore}
use Rattle.stackmap_prune.proofs.MarkLaws.{first-marked, all-listed}
use Rattle.stackmap_prune.proofs.marks.listed_marks.Goals as goal

pub loop-first-preserved : goal.loop-first-preserved
loop-first-preserved c =
    let v = c.loop-first.invariant in
    let is = c.in-Some.ensures.cases.0 in
    let all = subst (AreListedBefore (length c.loop-first.marks.items)) is v.all in
    record {
      marked = λ at. first-marked c.loop-first.marks.items c.mark.new.marks.items c.in-Some.first.now c.loop-first.rest.now c.in-Some.others.now at _ is all.0 c.mark.ensures (v.marked at);
      all = subst (λ n. AreListedBefore n c.in-Some.others.now) (sym (ap length c.mark.ensures ∙ length-set c.loop-first.marks.items c.in-Some.first.now.0 _)) all.1;
    }

pub returns : goal.returns
returns c = λ at. all-listed c.loop-first.marks.items c.loop-first.rest.now at _ c.in_default.ensures.cases (c.loop-first.invariant.marked at)
