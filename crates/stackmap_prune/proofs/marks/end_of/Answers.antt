use Rattle.std.proofs.Common.{sym, subst, ◌+◌}
use Rattle.type_verifier.specs.Typings.{RisesFrom}
use Rattle.stackmap_prune.specs.Listing.{AreListedBefore}
use Rattle.stackmap_prune.proofs.MarkLaws.{listed-before}
use Rattle.stackmap_prune.proofs.marks.end_of.Goals as goal

pub returns-in-Some : goal.returns-in-Some
returns-in-Some c =
    let last = c.in-Some.last.now in
    let is = c.in-Some.ensures.cases.0 in
    subst (AreListedBefore (last.0 + 1)) (sym is) (listed-before 0 c.in-Some._others.now last (subst (RisesFrom 0) is c.requires)).0
