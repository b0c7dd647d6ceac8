use Rattle.std.proofs.Common.{◌∷◌, [], ◌++◌, sym, ap, ◌∙◌}
use Rattle.jvm_definition.specs.declared.kind.Kind.TheVariants.{Top}
use Rattle.stackmap_table.specs.Shortest.{trimmed_locals}
use Rattle.stackmap_table.proofs.PrefixLaws.{same-is, not-same}
use Rattle.stackmap_table.proofs.TrimLaws.{trim-top, trim-known}
use Rattle.stackmap_table.proofs.table.trimmed.Goals as goal

pub returns-then-not-is_same : goal.returns-then-not-is_same
returns-then-not-is_same c =
    let last = c.in-Some.last.now in
    let others = c.in-Some.others.now in
    let is = c.in-Some.ensures.cases.0 in
    is ∙ (sym (trim-known others last (not-same last Top (sym c.is_same.ensures ∙ c.if-not-is_same.true))) ∙ (ap trimmed_locals (sym is) ∙ c.loop-last.invariant))

pub loop-last-preserved : goal.loop-last-preserved
loop-last-preserved c =
    let last = c.in-Some.last.now in
    let others = c.in-Some.others.now in
    sym (ap trimmed_locals c.in-Some.ensures.cases.0 ∙ (ap (λ k. trimmed_locals (others ++ k ∷ [])) (same-is last Top (sym c.is_same.ensures ∙ c.if-not-is_same.false)) ∙ trim-top others)) ∙ c.loop-last.invariant
