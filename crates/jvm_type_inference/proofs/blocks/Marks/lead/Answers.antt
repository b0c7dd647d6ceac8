use Rattle.std.proofs.Common.{get_or, refl, subst, arith}
use Rattle.std.specs.Prelude.{All}
use Rattle.std.proofs.lemmas.List.{take_all}
use Rattle.jvm_type_inference.specs.Marks.{IsLeader}
use Rattle.jvm_type_inference.proofs.MarkLaws.{leads-more, more-lead}
use Rattle.jvm_type_inference.proofs.blocks.Marks.lead.Goals as goal

pub loop-target-preserved : goal.loop-target-preserved
loop-target-preserved c =
    let a = c.args in
    let l = c.loop-target in
    let new = c.lead_one.new.self in (
      leads-more a.self.now.leaders.items a.self.now.before.items l.self.leaders.items l.self.before.items new.leaders.items new.before.items l.invariant.0 c.lead_one.ensures.leads,
      more-lead l.self.leaders.items l.self.before.items new.leaders.items new.before.items a.targets.now l.target-index (get_or a.targets.now l.target-index 0) c.loop-target-test.true refl c.lead_one.ensures.leads l.invariant.1 c.lead_one.ensures.is,
    )

pub returns-clause-all : goal.returns-clause-all
returns-clause-all c =
    let l = c.loop-target in
    subst (λ xs. All (IsLeader l.self.leaders.items) xs) (take_all l.target-index c.args.targets.now c.loop-target-test.false) l.invariant.1
