-- What trees and choosers weigh.
use Rattle.std.proofs.Common.{◌≡◌, ℕ, zero, suc, ◌+◌, ◌/◌, ◌≤◌, Bool, true, false, ◌&&◌, List, [], ◌∷◌, ◌++◌, length, take, drop, refl, arith}
use Rattle.std.proofs.lemmas.List.{length-take-le, length-drop}
use Rattle.std.proofs.lemmas.List.Sums.{sum_by-cons, sum_by-take-drop}
use Rattle.jvm_definition.specs.declared.branch_name.BranchName.TheVariants.{Goto}
use Rattle.jvm_definition.specs.declared.instruction.Instruction.{Instruction}
use Rattle.jvm_definition.specs.declared.instruction.Instruction.TheVariants.{Array, Branch, Put, Call, CharAt, TableSwitch, LookupSwitch, NewArray}
use Rattle.emit_steps.specs.declared.step.Step.{Step}
use Rattle.emit_steps.specs.declared.step.Step.TheVariants.{Does, Skips, Leaves, Selects}
use Rattle.trampoline.specs.declared.start.Start.{Start}
use Rattle.trampoline.specs.Trees.{first_of, reached_code, halves_code, tree_of, tree}
use Rattle.trampoline.specs.Choosers.{address_code, within_code, unaligned_code, chosen_code, class_chooser, main_chooser, missing_method}
use Rattle.emit_paths_laws.specs.Paths.{step_weight, weigh}
use Rattle.emit_paths_laws.proofs.Weighing.{weigh-both}
use Rattle.emit_paths_laws.specs.Classes.{reads, chars, switches, entries, puts}
use Rattle.trampoline_laws.specs.Weights.{only_compares, SparesComparing, SparesCalls, calls_weight, alters, beside_calls}

-- ---- steps that only compare

abbrev compares : Step → Bool
compares (Does instruction) = only_compares instruction
compares (Skips name k) = true
compares (Leaves target) = true
compares (Selects s) = false

abbrev all_compare : List Step → Bool
all_compare [] = true
all_compare (s ∷ code) = compares s && all_compare code

both-true : (a b : Bool) → (a && b) ≡ true → (a ≡ true) × (b ≡ true)
both-true true b h = (refl, h)
both-true false b h = absurd (cc)

module _ (weight : Instruction → ℕ) (spares : SparesComparing weight) where
  step-light : (s : Step) → compares s ≡ true → step_weight weight s ≡ 0
  step-light (Does instruction) h = spares instruction h
  step-light (Skips name k) h = spares (Branch name 0) refl
  step-light (Leaves target) h = spares (Branch Goto 0) refl
  step-light (Selects s) h = absurd (cc)

  light : (code : List Step) → all_compare code ≡ true → weigh weight code ≡ 0
  light [] h = refl
  light (s ∷ code) h =
      let parts = both-true (compares s) (all_compare code) h in
      let first = step-light s parts.0 in
      let rest = light code parts.1 in
      omega (arith, first, rest)

  -- ---- trees

  halves-weigh : (first : ℕ) (below from : List Step) → weigh weight (halves_code first below from) ≡ weigh weight below + weigh weight from
  halves-weigh first below from =
      let test = light (reached_code first (length below + 1)) refl in
      let jump = step-light (Skips Goto (length from)) refl in
      let whole = weigh-both weight (reached_code first (length below + 1)) (below ++ Skips Goto (length from) ∷ from) in
      let rest = weigh-both weight below (Skips Goto (length from) ∷ from) in
      omega (arith, test, jump, whole, rest)

  tree-weighs : (n : ℕ) (starts : List Start) → length starts ≤ n → weigh weight (tree_of n starts) ≡ calls_weight weight starts
  tree-weighs zero [] few = refl
  tree-weighs zero (s ∷ starts) few = absurd (omega (arith, few))
  tree-weighs (suc n) [] few = refl
  tree-weighs (suc n) (s ∷ []) few = omega (arith, sum_by-cons (λ (r : Start). weight (Call r.method)) s [])
  tree-weighs (suc n) (s ∷ t ∷ rest) few =
      let starts : List Start = s ∷ t ∷ rest in
      let half = length starts / 2 in
      let below : List Start = take half starts in
      let from : List Start = drop half starts in
      let below_length = length-take-le half starts (omega arith) in
      let from_length = length-drop half starts in
      let below_weighs = tree-weighs n below (omega (arith, below_length, few)) in
      let from_weighs = tree-weighs n from (omega (arith, from_length, few)) in
      let both = halves-weigh (first_of from) (tree_of n below) (tree_of n from) in
      let sums = sum_by-take-drop (λ (r : Start). weight (Call r.method)) starts half in
      omega (arith, below_weighs, from_weighs, both, sums)

  pub tree-weight : (starts : List Start) → weigh weight (tree starts) ≡ calls_weight weight starts
  tree-weight starts = tree-weighs (length starts) starts (omega arith)

  -- ---- choosers

  chosen-weight : (starts : List Start) → weigh weight (chosen_code starts) ≡ calls_weight weight starts
  chosen-weight starts =
      let rest = light (Leaves 0 ∷ []) refl in
      let both = weigh-both weight (tree starts) (Leaves 0 ∷ []) in
      let first = tree-weight starts in
      omega (arith, rest, both, first)

  pub class-weight : (first end : ℕ) (starts : List Start) → weigh weight (class_chooser starts first end) ≡ calls_weight weight starts
  class-weight first end starts =
      let front = light (address_code ++ within_code first end) refl in
      let both = weigh-both weight (address_code ++ within_code first end) (chosen_code starts) in
      let rest = chosen-weight starts in
      omega (arith, front, both, rest)

  pub main-weight : (missing : ℕ) (starts : List Start) → weigh weight (main_chooser starts missing) ≡ weight (Call missing) + calls_weight weight starts
  main-weight missing starts =
      let tests = address_code ++ unaligned_code 3 ++ reached_code (first_of starts) 2 in
      let front = light tests refl in
      let anew = step-light (Leaves 0) refl in
      let both = weigh-both weight tests (Does (Call missing) ∷ Leaves 0 ∷ chosen_code starts) in
      let rest = chosen-weight starts in
      omega (arith, front, anew, both, rest)

  pub missing-weight : (metered : Bool) → weigh weight (missing_method metered) ≡ 0
  missing-weight true = light (missing_method true) refl
  missing-weight false = light (missing_method false) refl

-- ---- what is counted

pub no-calls-weight : (weight : Instruction → ℕ) (starts : List Start) → SparesCalls weight → calls_weight weight starts ≡ 0
no-calls-weight weight [] spares = refl
no-calls-weight weight (s ∷ starts) spares =
    let first = spares s.method in
    let rest = no-calls-weight weight starts spares in
    omega (arith, first, rest, sum_by-cons (λ (r : Start). weight (Call r.method)) s starts)

pub reads-spare : SparesComparing reads
reads-spare (Array name) h = absurd (cc)
reads-spare _ h = refl

pub chars-spare : SparesComparing chars
chars-spare CharAt h = absurd (cc)
chars-spare _ h = refl

pub switches-spare : SparesComparing switches
switches-spare (TableSwitch s) h = absurd (cc)
switches-spare (LookupSwitch s) h = absurd (cc)
switches-spare _ h = refl

pub alters-spare : SparesComparing alters
alters-spare (Array name) h = absurd (cc)
alters-spare (Put f kind) h = absurd (cc)
alters-spare (NewArray kind) h = absurd (cc)
alters-spare _ h = refl

pub writes-spare : (f : ℕ) → SparesComparing (puts f)
writes-spare f (Put g kind) h = absurd (cc)
writes-spare f _ h = refl

pub entries-spare : (is_span : ℕ → Bool) → SparesComparing (entries is_span)
entries-spare is_span (Call m) h = absurd (cc)
entries-spare is_span _ h = refl

pub beside-spares : (weight : Instruction → ℕ) → SparesComparing weight → SparesComparing (beside_calls weight)
beside-spares weight spares (Call m) h = refl
beside-spares weight spares i h = spares i h
