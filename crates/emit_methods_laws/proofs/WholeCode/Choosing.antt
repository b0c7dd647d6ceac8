-- The methods that choose.
use Rattle.std.proofs.Common.{◌≡◌, ℕ, zero, suc, ◌+◌, ◌*◌, ◌/◌, ◌<◌, ◌≤◌, Bool, true, false, List, [], ◌∷◌, ◌++◌, All, length, take, drop, refl, arith}
use Rattle.std.specs.List.{list_all}
use Rattle.std.proofs.lemmas.List.{length-take, length-drop}
use Rattle.jvm_definition.specs.declared.branch_name.BranchName.TheVariants.{Goto}
use Rattle.emit_steps.specs.declared.step.Step.TheVariants.{Skips, Leaves}
use Rattle.emit_steps.specs.Widths.{size}
use Rattle.emit_spans.proofs.BodyLemmas.{size-append}
use Rattle.trampoline.specs.declared.start.Start.{Start}
use Rattle.trampoline.specs.Trees.{first_of, tree_of, tree}
use Rattle.trampoline.specs.Choosers.{address_code, within_code, strayed_code, chosen_code, class_chooser, main_chooser, missing_method}
use Rattle.emit_assembly.specs.declared.references.References.{References}
use Rattle.emit_assembly.specs.Assembling.{has_method}
use Rattle.emit_types_laws.specs.Judging.{is_no_switch}
use Rattle.emit_types_laws.specs.Methods.{IsBody, ClassChooserTyped, MainChooserTyped, owes_beginning, owes_nothing}
use Rattle.emit_limits.proofs.StepSizes.{word-bytes}
use Rattle.emit_methods_laws.specs.Naming.{fields_of}
use Rattle.emit_methods_laws.specs.Whole.{CanBeMethod}
use Rattle.emit_methods_laws.proofs.NamedCode.Choosing.{class-well, main-well, missing-well}
use Rattle.emit_methods_laws.proofs.WholeCode.Operations.{no-switch-append}
use Rattle.emit_methods_laws.proofs.WholeCode.Bodies.{body-can-be}
use Rattle.emit_methods_laws.proofs.WholeCode.Programs.{of_nothing, takes-nothing, are-starts}

-- ---- trees

tree-of-small : (levels : ℕ) (starts : List Start) → 0 < length starts → size (tree_of levels starts) + 10 ≤ 13 * length starts
tree-of-small zero starts some = omega (arith, some)
tree-of-small (suc levels) [] some = absurd (omega (arith, some))
tree-of-small (suc levels) (s ∷ []) some = omega arith
tree-of-small (suc levels) (s ∷ t ∷ rest) some =
    let starts = s ∷ t ∷ rest in
    let half = length starts / 2 in
    let lower = tree_of levels (take half starts) in
    let upper = tree_of levels (drop half starts) in
    let first = length-take half starts in
    let second = length-drop half starts in
    omega (
      arith,
      first,
      second,
      word-bytes (first_of (drop half starts)),
      size-append lower (Skips Goto (length upper) ∷ upper),
      tree-of-small levels (take half starts) (omega (arith, first)),
      tree-of-small levels (drop half starts) (omega (arith, second)),
    )

tree-small : (starts : List Start) → size (tree starts) ≤ 13 * length starts
tree-small [] = omega arith
tree-small (s ∷ starts) = omega (arith, tree-of-small (length (s ∷ starts)) (s ∷ starts) (omega arith))

tree-plain : (levels : ℕ) (starts : List Start) → list_all is_no_switch (tree_of levels starts) ≡ true
tree-plain zero starts = refl
tree-plain (suc levels) [] = refl
tree-plain (suc levels) (s ∷ []) = refl
tree-plain (suc levels) (s ∷ t ∷ rest) =
    let starts = s ∷ t ∷ rest in
    let half = length starts / 2 in
    let upper = tree_of levels (drop half starts) in
    no-switch-append (tree_of levels (take half starts)) (Skips Goto (length upper) ∷ upper) (tree-plain levels (take half starts))
    (tree-plain levels (drop half starts))

-- ---- methods

chosen-plain : (starts : List Start) → list_all is_no_switch (chosen_code starts) ≡ true
chosen-plain starts = no-switch-append (tree starts) (Leaves 0 ∷ []) (tree-plain (length starts) starts) refl

chosen-small : (starts : List Start) → size (chosen_code starts) ≤ 13 * length starts + 5
chosen-small starts = omega (arith, size-append (tree starts) (Leaves 0 ∷ []), tree-small starts)

module _ (r : References) (fields : 38 ≤ length r.fields) where
  called : (m : ℕ) → has_method r m ≡ true → has_method r m ≡ true
  called m is = is

  abbrev IsCalled : Start → Type 0
  IsCalled s = has_method r s.method ≡ true

  pub class-can-be : ClassChooserTyped of_nothing → (starts : List Start) (first end : ℕ) → length starts ≤ 2048 → All IsCalled starts
      → CanBeMethod r (class_chooser starts first end)
  class-can-be typed starts first end few all =
      let front = address_code ++ within_code first end in
      let bytes = size-append front (chosen_code starts) in
      body-can-be r 38 fields (has_method r) called 0 false of_nothing owes_beginning [] 1 (class_chooser starts first end)
      (typed starts first end (are-starts starts)) (omega arith)
      (omega (arith, bytes, word-bytes first, word-bytes end, chosen-small starts, few))
      (no-switch-append front (chosen_code starts) refl (chosen-plain starts)) (class-well (has_method r) 0 starts first end all)

  pub main-can-be : MainChooserTyped of_nothing → (starts : List Start) (missing : ℕ) → length starts ≤ 2048 → All IsCalled starts
      → has_method r missing ≡ true → CanBeMethod r (main_chooser starts missing)
  main-can-be typed starts missing few all is =
      let front = address_code ++ strayed_code (first_of starts) missing in
      let bytes = size-append front (chosen_code starts) in
      body-can-be r 38 fields (has_method r) called 0 false of_nothing owes_beginning [] 1 (main_chooser starts missing)
      (typed starts missing (takes-nothing missing) (are-starts starts)) (omega arith)
      (omega (arith, bytes, word-bytes (first_of starts), chosen-small starts, few))
      (no-switch-append front (chosen_code starts) refl (chosen-plain starts)) (main-well (has_method r) 0 starts missing all is)

pub missing-can-be : (r : References) (metered : Bool) → fields_of metered ≤ length r.fields
    → IsBody of_nothing owes_nothing [] 1 (missing_method metered) → CanBeMethod r (missing_method metered)
missing-can-be r true have typed =
    body-can-be r 39 have (has_method r) (λ m is. is) 0 false of_nothing owes_nothing [] 1 (missing_method true) typed (omega arith) (omega arith) refl
    (missing-well (has_method r) 0 true)
missing-can-be r false have typed =
    body-can-be r 38 have (has_method r) (λ m is. is) 0 false of_nothing owes_nothing [] 1 (missing_method false) typed (omega arith) (omega arith) refl
    (missing-well (has_method r) 0 false)
