use Rattle.std.proofs.Common.{◌≡◌, ℕ, suc, ◌+◌, ◌++◌, [], ◌∷◌, List, sym, ap, ◌∙◌, append_assoc, arith}
use Rattle.class_definition.specs.declared.line.Line.{Line}
use Rattle.class_definition.specs.declared.op.Op.TheVariants.{Give}
use Rattle.stackmap_prune.specs.Code.{returns_at}
use Rattle.stackmap_prune.proofs.CodeLaws.{returns-pushed}
use Rattle.stackmap_prune.proofs.pruning.push_returns.Goals as goal

pub loop-i-preserved : goal.loop-i-preserved
loop-i-preserved c =
    let old = c.args.lines.now.items in
    let i = c.loop-i.i in
    let one : List Line = record { at = c.args.at + i; op = Give c.args.name } ∷ [] in
    let next : suc i ≡ i + 1 = omega arith in
    c.in_ok-push.ensures.items
    ∙ (ap (λ (x : List Line). x ++ one) c.loop-i.invariant
    ∙ (append_assoc old (returns_at c.args.name c.args.at i) one
    ∙ (ap (λ (x : List Line). old ++ x) (sym (returns-pushed c.args.name c.args.at i)) ∙ ap (λ (n : ℕ). old ++ returns_at c.args.name c.args.at n) next)))
