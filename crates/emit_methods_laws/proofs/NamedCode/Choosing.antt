-- The methods that choose.
use Rattle.std.proofs.Common.{◌≡◌, ℕ, zero, suc, ◌+◌, ◌/◌, Bool, true, false, List, [], ◌∷◌, ◌++◌, All, length, take, drop, refl}
use Rattle.std.proofs.lemmas.List.Elements.{All-head, All-take, All-drop}
use Rattle.jvm_definition.specs.declared.branch_name.BranchName.TheVariants.{Goto}
use Rattle.emit_steps.specs.declared.step.Step.{Step}
use Rattle.emit_steps.specs.declared.step.Step.TheVariants.{Skips, Leaves}
use Rattle.trampoline.specs.declared.start.Start.{Start}
use Rattle.trampoline.specs.Trees.{reached_code, first_of, tree_of, tree}
use Rattle.trampoline.specs.Choosers.{address_code, within_code, strayed_code, chosen_code, class_chooser, main_chooser, missing_method}
use Rattle.emit_methods_laws.specs.Naming.{fields_of}
use Rattle.emit_methods_laws.proofs.NamedCode.Steps.{Well, WellOf, well-append}

module _ (calls : ℕ → Bool) (class : ℕ) where
  abbrev Named : List Step → Type 0
  Named code = Well calls class false code

  joined : (xs ys : List Step) → Named xs → Named ys → Named (xs ++ ys)
  joined xs ys h k = well-append calls class false xs ys h k

  abbrev pub IsCalled : Start → Type 0
  IsCalled start = calls start.method ≡ true

  tree-well : (levels : ℕ) (starts : List Start) → All IsCalled starts → Named (tree_of levels starts)
  tree-well zero starts all = refl
  tree-well (suc levels) [] all = refl
  tree-well (suc levels) (s ∷ []) all = rw (All-head IsCalled s [] all) refl
  tree-well (suc levels) (s ∷ t ∷ rest) all =
      let starts = s ∷ t ∷ rest in
      let half = length starts / 2 in
      let lower = tree_of levels (take half starts) in
      let upper = tree_of levels (drop half starts) in
      let test = reached_code (first_of (drop half starts)) (length lower + 1) in
      joined (test ++ lower) (Skips Goto (length upper) ∷ upper)
      (joined test lower refl (tree-well levels (take half starts) (All-take IsCalled half starts all)))
      (tree-well levels (drop half starts) (All-drop IsCalled half starts all))

  chosen : (starts : List Start) → All IsCalled starts → Named (chosen_code starts)
  chosen starts all = joined (tree starts) (Leaves 0 ∷ []) (tree-well (length starts) starts all) refl

  pub class-well : (starts : List Start) (first end : ℕ) → All IsCalled starts → Named (class_chooser starts first end)
  class-well starts first end all = joined (address_code ++ within_code first end) (chosen_code starts) refl (chosen starts all)

  pub main-well : (starts : List Start) (missing : ℕ) → All IsCalled starts → calls missing ≡ true → Named (main_chooser starts missing)
  main-well starts missing all is =
      joined (address_code ++ strayed_code (first_of starts) missing) (chosen_code starts) (rw is refl) (chosen starts all)

  pub missing-well : (metered : Bool) → WellOf (fields_of metered) calls class false (missing_method metered)
  missing-well true = refl
  missing-well false = refl
