-- Code that can be the code of a method.
use Rattle.std.proofs.Common.{◌≡◌, ℕ, ◌+◌, ◌<◌, ◌≤◌, ◌^◌, Bool, true, false, nat_le, nat_lt, List, [], ◌∷◌, ◌++◌, length, length-append, refl, arith}
use Rattle.std.specs.Prelude.{◌&&◌, ◌==◌, Option, is_some}
use Rattle.std.specs.List.{list_all, flat_map}
use Rattle.std.proofs.lemmas.Bool.{and_from, and_parts, eqb-true, false≢true, lt-ltb, le-leb, ltb-true}
use Rattle.jvm_definition.specs.declared.kind.Kind.{Kind}
use Rattle.jvm_definition.specs.declared.linked_line.LinkedLine.{LinkedLine}
use Rattle.jvm_definition.specs.Program.{Program, line_in, instruction_targets}
use Rattle.jvm_definition.specs.Typing.{TypeFrame}
use Rattle.emit_steps.specs.declared.step.Step.{Step}
use Rattle.emit_steps.specs.declared.step.Step.TheVariants.{Does, Skips, Leaves, Selects}
use Rattle.emit_steps.specs.Widths.{width, size}
use Rattle.emit_steps.specs.Placing.{laid, placed_instruction}
use Rattle.emit_steps.specs.Switches.{switches_are_placed}
use Rattle.emit_assembly.specs.declared.references.References.{References}
use Rattle.emit_assembly.specs.Assembling.{step_has_operation, have_operations, can_be_assembled, targets_are_lines, is_method}
use Rattle.emit_types_laws.specs.Judging.{Rules, is_no_switch}
use Rattle.emit_types_laws.specs.Methods.{IsBody, taking}
use Rattle.emit_methods_laws.specs.Naming.{step_names_well_of, all_well_of}
use Rattle.emit_methods_laws.specs.Whole.{CanBeMethod}
use Rattle.emit_methods_laws.proofs.WholeCode.Targets.{passes, passes-are-lines, targets-are-lines}
use Rattle.emit_methods_laws.proofs.WholeCode.Operations.{HasMethods, front-bytes, no-padding, named, operations, reaches-from}

pub can-be : (r : References) (code : List Step) → 0 < length code → size code ≤ 65535 → have_operations r code ≡ true
    → switches_are_placed 0 code ≡ true → targets_are_lines (laid 0 code) ≡ true → CanBeMethod r code
can-be r code some small operates placed lines =
    and_from (can_be_assembled r code) (is_method code)
    (and_from (nat_lt (size code) (2 ^ 32) && have_operations r code) (switches_are_placed 0 code)
    (and_from (nat_lt (size code) (2 ^ 32)) (have_operations r code) (lt-ltb (size code) (2 ^ 32) (omega (arith, small))) operates) placed)
    (and_from (nat_lt 0 (length code) && nat_le (size code) 65535) (targets_are_lines (laid 0 code))
    (and_from (nat_lt 0 (length code)) (nat_le (size code) 65535) (lt-ltb 0 (length code) some) (le-leb (size code) 65535 small)) lines)

module _ (r : References) (fields : ℕ) (have : fields ≤ length r.fields) (calls : ℕ → Bool) (called : HasMethods r calls) (class : ℕ) (gives : Bool) where
  -- ---- typed code without a switch

  pub body-can-be : (program : Program) (owes : ℕ → Option TypeFrame) (parameters : List Kind) (locals : ℕ) (code : List Step)
      → IsBody program owes parameters locals code → 0 < length code → size code < 2 ^ 15 → list_all is_no_switch code ≡ true
      → all_well_of fields calls class gives code ≡ true → CanBeMethod r code
  body-can-be program owes parameters locals code body some near plain is =
      let rules : Rules = record { program = program; owes = owes; more = 2 } in
      can-be r code some (omega (arith, near))
      (operations r fields have calls called class gives rules code body.types.body.frames [] body.types.body.types (omega arith) near plain is)
      (no-padding code 0 plain) (targets-are-lines rules code (taking parameters) body.types)

-- ---- code that goes straight on

-- a step that goes to no offset and over no step
abbrev pub goes_on : Step → Bool
goes_on (Does instruction) = length (instruction_targets instruction) == 0
goes_on (Skips name k) = false
goes_on (Leaves target) = false
goes_on (Selects s) = false

pub goes-on-append : (xs ys : List Step) → list_all goes_on xs ≡ true → list_all goes_on ys ≡ true → list_all goes_on (xs ++ ys) ≡ true
goes-on-append [] ys front back = back
goes-on-append (s ∷ xs) ys front back =
    let parts = and_parts (goes_on s) (list_all goes_on xs) front in
    and_from (goes_on s) (list_all goes_on (xs ++ ys)) parts.0 (goes-on-append xs ys parts.1 back)

pub goes-on-each : {A : Type 0} (F : A → List Step) → ((x : A) → list_all goes_on (F x) ≡ true) → (xs : List A)
    → list_all goes_on (flat_map F xs) ≡ true
goes-on-each F each [] = refl
goes-on-each F each (x ∷ xs) = goes-on-append (F x) (flat_map F xs) (each x) (goes-on-each F each xs)

no-switch-on : (code : List Step) → list_all goes_on code ≡ true → list_all is_no_switch code ≡ true
no-switch-on [] is = refl
no-switch-on (s ∷ code) is =
    let parts = and_parts (goes_on s) (list_all goes_on code) is in
    and_from (is_no_switch s) (list_all is_no_switch code) (by_step s parts.0) (no-switch-on code parts.1)
  where
    by_step : (s : Step) → goes_on s ≡ true → is_no_switch s ≡ true
    by_step (Does instruction) h = refl
    by_step (Skips name k) h = refl
    by_step (Leaves target) h = refl
    by_step (Selects s) h = h

no-targets : (lines : List LinkedLine) (code : List Step) (at : ℕ) → list_all goes_on code ≡ true
    → list_all (λ l. list_all (λ target. is_some (line_in lines target)) (instruction_targets l.instruction)) (laid at code) ≡ true
no-targets lines [] at is = refl
no-targets lines (s ∷ code) at is =
    let parts = and_parts (goes_on s) (list_all goes_on code) is in
    and_from (list_all (λ target. is_some (line_in lines target)) (instruction_targets (placed_instruction at s code))) _ (by_step s parts.0)
    (no-targets lines code (at + width s) parts.1)
  where
    none : (xs : List ℕ) → length xs ≡ 0 → list_all (λ target. is_some (line_in lines target)) xs ≡ true
    none [] e = refl
    none (x ∷ xs) e = absurd (omega (arith, e))

    by_step : (s : Step) → goes_on s ≡ true
        → list_all (λ target. is_some (line_in lines target)) (instruction_targets (placed_instruction at s code)) ≡ true
    by_step (Does i) h = none (instruction_targets i) (eqb-true (length (instruction_targets i)) 0 h)
    by_step (Skips name k) h = absurd (false≢true h)
    by_step (Leaves target) h = absurd (false≢true h)
    by_step (Selects s) h = absurd (false≢true h)

module _ (r : References) (fields : ℕ) (have : fields ≤ length r.fields) (calls : ℕ → Bool) (called : HasMethods r calls) (class : ℕ) (gives : Bool) where
  operates-on : (code : List Step) → list_all goes_on code ≡ true → all_well_of fields calls class gives code ≡ true → have_operations r code ≡ true
  operates-on [] on is = refl
  operates-on (s ∷ code) on is =
      let ons = and_parts (goes_on s) (list_all goes_on code) on in
      let names = and_parts (step_names_well_of fields calls class gives s) (all_well_of fields calls class gives code) is in
      and_from (step_has_operation r s code) (have_operations r code) (by_step s ons.0 names.0) (operates-on code ons.1 names.1)
    where
      by_step : (s : Step) → goes_on s ≡ true → step_names_well_of fields calls class gives s ≡ true → step_has_operation r s code ≡ true
      by_step (Does i) h n = named r fields have calls called class gives i h n
      by_step (Skips name k) h n = absurd (false≢true h)
      by_step (Leaves target) h n = refl
      by_step (Selects s) h n = absurd (false≢true h)

  pub straight-can-be : (code : List Step) → list_all goes_on code ≡ true → 0 < length code → size code ≤ 65535
      → all_well_of fields calls class gives code ≡ true → CanBeMethod r code
  straight-can-be code on some small is =
      can-be r code some small (operates-on code on is) (no-padding code 0 (no-switch-on code on)) (no-targets (laid 0 code) code 0 on)

-- ---- code that passes over some of its own steps

pub passes-append : (xs ys : List Step) → passes xs ≡ true → passes ys ≡ true → passes (xs ++ ys) ≡ true
passes-append [] ys front back = back
passes-append (Does i ∷ xs) ys front back =
    let parts = and_parts (length (instruction_targets i) == 0) (passes xs) front in
    and_from (length (instruction_targets i) == 0) (passes (xs ++ ys)) parts.0 (passes-append xs ys parts.1 back)
passes-append (Skips name k ∷ xs) ys front back =
    let parts = and_parts (nat_lt k (length xs)) (passes xs) front in
    let below = ltb-true k (length xs) parts.0 in
    and_from (nat_lt k (length (xs ++ ys))) (passes (xs ++ ys)) (lt-ltb k (length (xs ++ ys)) (omega (arith, below, length-append xs ys)))
    (passes-append xs ys parts.1 back)
passes-append (Leaves target ∷ xs) ys front back = absurd (false≢true front)
passes-append (Selects s ∷ xs) ys front back = absurd (false≢true front)

-- code that goes straight on does
pub straight-passes : (code : List Step) → list_all goes_on code ≡ true → passes code ≡ true
straight-passes [] on = refl
straight-passes (Does i ∷ code) on =
    let parts = and_parts (length (instruction_targets i) == 0) (list_all goes_on code) on in
    and_from (length (instruction_targets i) == 0) (passes code) parts.0 (straight-passes code parts.1)
straight-passes (Skips name k ∷ code) on = absurd (false≢true on)
straight-passes (Leaves target ∷ code) on = absurd (false≢true on)
straight-passes (Selects s ∷ code) on = absurd (false≢true on)

no-switch-passed : (code : List Step) → passes code ≡ true → list_all is_no_switch code ≡ true
no-switch-passed [] is = refl
no-switch-passed (Does i ∷ code) is = no-switch-passed code (and_parts (length (instruction_targets i) == 0) (passes code) is).1
no-switch-passed (Skips name k ∷ code) is = no-switch-passed code (and_parts (nat_lt k (length code)) (passes code) is).1
no-switch-passed (Leaves target ∷ code) is = absurd (false≢true is)
no-switch-passed (Selects s ∷ code) is = absurd (false≢true is)

module _ (r : References) (fields : ℕ) (have : fields ≤ length r.fields) (calls : ℕ → Bool) (called : HasMethods r calls) (class : ℕ) (gives : Bool) where
  operates-passed : (code : List Step) → passes code ≡ true → size code < 2 ^ 15 → all_well_of fields calls class gives code ≡ true
      → have_operations r code ≡ true
  operates-passed [] is near well = refl
  operates-passed (Does i ∷ code) is near well =
      let parts = and_parts (length (instruction_targets i) == 0) (passes code) is in
      let names = and_parts (step_names_well_of fields calls class gives (Does i)) (all_well_of fields calls class gives code) well in
      and_from (step_has_operation r (Does i) code) (have_operations r code) (named r fields have calls called class gives i parts.0 names.0)
      (operates-passed code parts.1 (omega (arith, near)) names.1)
  operates-passed (Skips name k ∷ code) is near well =
      let parts = and_parts (nat_lt k (length code)) (passes code) is in
      let below = ltb-true k (length code) parts.0 in
      and_from (step_has_operation r (Skips name k) code) (have_operations r code)
      (reaches-from code k (omega (arith, below)) (omega (arith, near, front-bytes code k)))
      (operates-passed code parts.1 (omega (arith, near)) well)
  operates-passed (Leaves target ∷ code) is near well = absurd (false≢true is)
  operates-passed (Selects s ∷ code) is near well = absurd (false≢true is)

  pub passing-can-be : (code : List Step) → passes code ≡ true → 0 < length code → size code < 2 ^ 15
      → all_well_of fields calls class gives code ≡ true → CanBeMethod r code
  passing-can-be code is some near well =
      can-be r code some (omega (arith, near)) (operates-passed code is near well) (no-padding code 0 (no-switch-passed code is))
      (passes-are-lines code is)
