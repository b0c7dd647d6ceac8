use Rattle.std.proofs.Common.{◌≡◌, ◌++◌, ◌+◌, OnOk, List, [], ◌∷◌, ap, subst, ◌∙◌}
use Rattle.jvm_definition.specs.declared.branch_name.BranchName.TheVariants.{Goto}
use Rattle.emit_steps.specs.declared.step.Step.{Step}
use Rattle.emit_steps.specs.declared.step.Step.TheVariants.{Skips}
use Rattle.trampoline.specs.Trees.{reached_code, tree}
use Rattle.trampoline.proofs.TreeLemmas.{tree-made, halves-appended}
use Rattle.trampoline.proofs.trees.+append_tree.Goals as goal

pub returns-in_ok-push-in_default : goal.returns-in_ok-push-in_default
returns-in_ok-push-in_default n c =
    let starts = c.args.starts.now in
    let old = c.args.code.now.items in
    let below = c.split_at.result.0.now in
    let from = c.split_at.result.1.now in
    let first = c.first_of.result in
    let e1 : c.append_reached.new.code.items ≡ old ++ reached_code first (c.tree_steps.result + 1) = c.in_ok-append_reached-in_default.ensures in
    let e2 : c.append_tree.new.code.items ≡ c.append_reached.new.code.items ++ tree below = c.in_ok-append_tree-in_default.ensures in
    let e3 : c.push-in_default.new.self.items ≡ c.append_tree.new.code.items ++ (Skips Goto c.tree_steps-in_default.result ∷ []) = c.in_ok-push-in_default.ensures.items in
    let all : c.push-in_default.new.self.items ++ tree from ≡ old ++ tree starts =
    ap (λ (l : List Step). l ++ tree from) (e3 ∙ ap (λ (l : List Step). l ++ (Skips Goto c.tree_steps-in_default.result ∷ [])) (e2 ∙ ap (λ (l : List Step). l ++ tree below) e1))
    ∙ halves-appended old (tree below) (tree from) first c.tree_steps.result c.tree_steps-in_default.result c.tree_steps.ensures.value c.tree_steps-in_default.ensures.value
    ∙ ap (λ (l : List Step). old ++ l) (tree-made starts below from first c.in_default.len_at_least c.split_at.ensures.front c.split_at.ensures.back c.first_of.ensures)
    in
    subst (λ (l : List Step). OnOk c.append_tree-in_default.result (c.append_tree-in_default.new.code.items ≡ l)) all c.append_tree-in_default.ensures
