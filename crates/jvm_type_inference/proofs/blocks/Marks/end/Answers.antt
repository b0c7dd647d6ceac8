use Rattle.std.proofs.Common.{◌≡◌, length, subst, sym, ◌∙◌, Some, arith}
use Rattle.std.specs.Prelude.{All}
use Rattle.jvm_definition.specs.Program.{successors}
use Rattle.jvm_type_inference.specs.Marks.{AreMarked, IsLeader}
use Rattle.jvm_type_inference.proofs.MarkLaws.{all-blocks}
use Rattle.jvm_type_inference.proofs.SettleLaws.{table-ends}
use Rattle.jvm_type_inference.proofs.blocks.Marks.end.Goals as goal

pub returns-clause-parts : goal.returns-clause-parts
returns-clause-parts c =
    let a = c.args in
    let m = a.code.now.method.now in
    let leaders = a.self.leaders.items in
    let before = a.self.before.items in
    let new = c.lead.new.self in
    let line = c.in-Some-line_at.line.now in
    let size = c.requires.size in
    let marked = subst (λ o. AreMarked m leaders before o (length before)) c.in-Some.is c.requires.marked in
    let targets : c.as_slice.result.now ≡ successors line = c.as_slice.ensures ∙ c.in_ok-successors.ensures in
    all-blocks m leaders before c.in-Some.x (length before) line (sym c.in-Some-line_at.ensures.found) marked new.leaders.items new.before.items c.lead.ensures.leads
    (λ y h. table-ends m a.code.now.starts.items c.requires.table y (omega (arith, h, size)))
    (subst (λ ts. All (IsLeader new.leaders.items) ts) targets c.lead.ensures.all)
