use Rattle.std.proofs.Common.{◌≡◌, suc, subst, sym, ◌∙◌, Some}
use Rattle.std.specs.Prelude.{All}
use Rattle.jvm_definition.specs.Program.{line_in, successors}
use Rattle.jvm_type_inference.specs.Marks.{AreMarked, IsLeader}
use Rattle.jvm_type_inference.proofs.MarkLaws.{led-marked, put-marked}
use Rattle.jvm_type_inference.proofs.blocks.Marks.join.Goals as goal
use Rattle.jvm_type_inference.proofs.blocks.Marks.join.Goals.{then-goes_to, else-goes_to}

pub returns-clause-marked : goal.returns-clause-marked
returns-clause-marked c =
    let a = c.args in
    let m = a.code.now.method.now in
    let leaders = a.self.now.leaders.items in
    let before = a.self.now.before.items in
    let x = c.in-Some.x in
    let line = c.in-Some-line_at.line.now in
    let found : line_in m.lines x ≡ Some line = sym c.in-Some-line_at.ensures.found in
    let marked = subst (λ o. AreMarked m leaders before o a.at) c.in-Some.is c.requires.marked in
    elim c.if-goes_to.branch [
      | then-goes_to w ↦
          let new = w.put.new.self in
          let targets : c.as_slice.result.now ≡ successors line = c.as_slice.ensures ∙ c.in_ok-successors.ensures in
          subst (λ s. AreMarked m s.leaders.items s.before.items (Some a.at) (suc a.at)) (sym w.self-is)
          (put-marked m leaders before x a.at line found marked c.requires.there c.requires.within c.as_slice.result.now targets (c.goes_to.ensures w.if-goes_to.true) new.leaders.items new.before.items w.put.ensures.leaders w.put.ensures.before)
      | else-goes_to w ↦
          let new = w.lead.new.self in
          let targets : w.as_slice-else-goes_to.result.now ≡ successors line = w.as_slice-else-goes_to.ensures ∙ c.in_ok-successors.ensures in
          subst (λ s. AreMarked m s.leaders.items s.before.items (Some a.at) (suc a.at)) (sym w.self-is)
          (led-marked m leaders before x a.at line found marked new.leaders.items new.before.items w.lead.ensures.leads c.requires.there (subst (λ ts. All (IsLeader new.leaders.items) ts) targets w.lead.ensures.all))
    ]
