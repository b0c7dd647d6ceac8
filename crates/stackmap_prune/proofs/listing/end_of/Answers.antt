use Rattle.std.proofs.Common.{sym, subst}
use Rattle.jvm_definition.specs.Program.{LaidFrom}
use Rattle.stackmap_prune.specs.Linked.{pruned_linked}
use Rattle.stackmap_prune.specs.Listing.{AllBefore}
use Rattle.stackmap_prune.proofs.LinkedLaws.{pruned-before}
use Rattle.stackmap_prune.proofs.listing.end_of.Goals as goal

pub returns-in-Some : goal.returns-in-Some
returns-in-Some c = λ kept name.
    let last = c.in-Some.last.now in
    let is = c.in-Some.ensures.cases.0 in
    subst (λ ls. AllBefore last.next (pruned_linked kept name ls)) (sym is) (pruned-before kept name 0 c.in-Some._others.now last (subst (LaidFrom 0) is c.requires)).0
