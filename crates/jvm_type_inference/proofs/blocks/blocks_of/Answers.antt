use Rattle.std.proofs.Common.{◌≡◌, ◌+◌, suc, length, subst, sym, ◌∙◌, Some, None, add-one, arith}
use Rattle.jvm_definition.specs.Program.{line_in}
use Rattle.jvm_type_inference.specs.Marks.{AreMarked}
use Rattle.jvm_type_inference.proofs.CallLaws.{none-there}
use Rattle.jvm_type_inference.proofs.MarkLaws.{next-none}
use Rattle.jvm_type_inference.proofs.blocks.blocks_of.Goals as goal
use Rattle.jvm_type_inference.proofs.blocks.blocks_of.Goals.{then-has_line+in_ok-join, else-has_line}

pub loop-at-preserved : goal.loop-at-preserved
loop-at-preserved c =
    let m = c.args.code.now.method.now in
    let count = length c.args.code.now.starts.items in
    let l = c.loop-at in
    elim c.if-has_line.branch [
      | then-has_line+in_ok-join w ↦
          let new = w.join.new.self in
          let marked = subst (λ n. AreMarked m new.leaders.items new.before.items (Some l.at) n) (sym (add-one l.at)) w.in_ok-join.ensures.marked in
          subst (λ o. AreMarked m c.if-has_line.marks.leaders.items c.if-has_line.marks.before.items o (l.at + 1) × (length c.if-has_line.marks.before.items ≡ count)) (sym w.latest-is)
          (subst (λ s. AreMarked m s.leaders.items s.before.items (Some l.at) (l.at + 1) × (length s.before.items ≡ count)) (sym w.marks-is) (marked, w.in_ok-join.ensures.size ∙ l.invariant.1))
      | else-has_line w ↦
          let none : line_in m.lines l.at ≡ None = none-there (line_in m.lines l.at) (sym c.has_line.ensures.found ∙ w.if-has_line.false) in
          let next = next-none m l.marks.leaders.items l.marks.before.items l.latest l.at none l.invariant.0 in
          let marked = subst (λ n. AreMarked m l.marks.leaders.items l.marks.before.items l.latest n) (sym (add-one l.at)) next in
          subst (λ o. AreMarked m c.if-has_line.marks.leaders.items c.if-has_line.marks.before.items o (l.at + 1) × (length c.if-has_line.marks.before.items ≡ count)) (sym w.latest-is)
          (subst (λ s. AreMarked m s.leaders.items s.before.items l.latest (l.at + 1) × (length s.before.items ≡ count)) (sym w.marks-is) (marked, l.invariant.1))
    ]

pub end-requires-clause-marked : goal.end-requires-clause-marked
end-requires-clause-marked c =
    let l = c.loop-at in
    let size = l.invariant.1 in
    let ends : l.at ≡ length l.marks.before.items = omega (arith, size, c.loop-at-test.false, l.auto.at-end, c.len-at-end.ensures, c.args.code.now.starts.ok.0) in
    subst (λ n. AreMarked c.args.code.now.method.now l.marks.leaders.items l.marks.before.items l.latest n) ends l.invariant.0
