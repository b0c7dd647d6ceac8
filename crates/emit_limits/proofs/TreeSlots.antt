-- The methods that choose push the starts of parts, and a few words more.
use Rattle.std.proofs.Common.{ℕ, zero, suc, ◌+◌, ◌-◌, ◌/◌, ◌≤◌, Bool, true, false, List, [], ◌∷◌, ◌++◌, length, take, drop, arith}
use Rattle.std.proofs.lemmas.List.{length-take, length-drop}
use Rattle.jvm_definition.specs.declared.branch_name.BranchName.TheVariants.{Goto}
use Rattle.emit_steps.specs.declared.step.Step.{Step}
use Rattle.emit_steps.specs.declared.step.Step.TheVariants.{Skips, Leaves}
use Rattle.trampoline.specs.declared.start.Start.{Start}
use Rattle.trampoline.specs.Trees.{reached_code, first_of, halves_code, tree_of, tree}
use Rattle.trampoline.specs.Choosers.{chosen_code, class_chooser, main_chooser, missing_method}
use Rattle.emit_assembly.specs.Assembling.{slots_of}
use Rattle.emit_limits.proofs.StepSlots.{taken, slots-taken, taken-append, word-slots}

halves-slots : (first : ℕ) (below from : List Step) → taken (halves_code first below from) ≤ 1 + taken below + taken from
halves-slots first below from =
    let reached = reached_code first (length below + 1) in
    omega (
      arith,
      taken-append (reached ++ below) (Skips Goto (length from) ∷ from),
      taken-append reached below,
      word-slots first,
    )

tree-slots : (levels : ℕ) (starts : List Start) → taken (tree_of levels starts) ≤ length starts - 1
tree-slots zero starts = omega arith
tree-slots (suc levels) [] = omega arith
tree-slots (suc levels) (s ∷ []) = omega arith
tree-slots (suc levels) (s ∷ t ∷ starts) =
    let all = s ∷ t ∷ starts in
    let half = length all / 2 in
    omega (
      arith,
      halves-slots (first_of (drop half all)) (tree_of levels (take half all)) (tree_of levels (drop half all)),
      tree-slots levels (take half all),
      tree-slots levels (drop half all),
      length-take half all,
      length-drop half all,
    )

chosen-slots : (starts : List Start) → taken (chosen_code starts) ≤ length starts - 1
chosen-slots starts = omega (arith, taken-append (tree starts) (Leaves 0 ∷ []), tree-slots (length starts) starts)

pub class-few : (starts : List Start) (first end : ℕ) → slots_of (class_chooser starts first end) ≤ length starts + 4
class-few starts first end =
    omega (arith, slots-taken (class_chooser starts first end), chosen-slots starts, word-slots first, word-slots end)

pub main-few : (starts : List Start) (missing : ℕ) → slots_of (main_chooser starts missing) ≤ length starts + 4
main-few starts missing =
    omega (arith, slots-taken (main_chooser starts missing), chosen-slots starts, word-slots (first_of starts))

pub missing-few : (metered : Bool) → slots_of (missing_method metered) ≤ 4
missing-few true = omega (arith, slots-taken (missing_method true))
missing-few false = omega (arith, slots-taken (missing_method false))
