-- Code whose steps all fit is code of a method.
use Rattle.std.proofs.Common.{◌≡◌, ℕ, suc, ◌+◌, ◌^◌, ◌≤◌, ◌<◌, ◌⊎◌, inl, inr, Bool, true, false, ◌&&◌, nat_le, nat_lt, List, [], ◌∷◌, length, get_or, drop, refl, sym, ap, ◌∙◌, add-one, lt-ltb, leb-true, arith}
use Rattle.std.specs.List.{list_all}
use Rattle.std.proofs.lemmas.Bool.{and_parts, cases_Bool}
use Rattle.jvm_definition.specs.declared.instruction.Instruction.{Instruction}
use Rattle.jvm_definition.specs.declared.instruction.Instruction.TheVariants as instructions
use Rattle.jvm_definition.specs.declared.linked_line.LinkedLine.{LinkedLine}
use Rattle.jvm_definition.specs.Program.{instruction_targets}
use Rattle.emit_steps.specs.declared.step.Step.{Step}
use Rattle.emit_steps.specs.declared.step.Step.TheVariants.{Does, Skips, Leaves, Selects}
use Rattle.emit_steps.specs.Widths.{width, bytes_before, size}
use Rattle.emit_steps.specs.Placing.{placed_instruction, laid}
use Rattle.emit_steps.specs.Switches.{needs_no_padding, switches_are_placed}
use Rattle.emit_steps.proofs.Offsets.{rest-begins}
use Rattle.emit_assembly.specs.declared.references.References.{References}
use Rattle.emit_assembly.specs.Assembling.{has_operation, switch_has_operation, step_has_operation, have_operations, can_be_assembled, is_method}
use Rattle.emit_assembly.specs.Operations.{is_start, step_fits, first_fits, steps_fit}

-- ---- truths in another order

with-true : (a b : Bool) → (a && b) ≡ ((a && true) && (b && true))
with-true true true = refl
with-true true false = refl
with-true false b = refl

alone : (a : Bool) → a ≡ (a && true)
alone true = refl
alone false = refl

turned-round : (a b c : Bool) → (a && b && c) ≡ ((b && a) && c)
turned-round true true c = refl
turned-round true false c = refl
turned-round false true c = refl
turned-round false false c = refl

sorted : (a b c x y z : Bool) → (((a && b) && c) && ((x && y) && z)) ≡ (((a && x) && (b && y)) && (c && z))
sorted false b c x y z = refl
sorted true false c true y z = refl
sorted true false c false y z = refl
sorted true true false true true z = refl
sorted true true false true false z = refl
sorted true true false false y z = refl
sorted true true true x y z = refl

-- ---- one step

no-targets : (r : References) (i : Instruction) → has_operation r i ≡ true → instruction_targets i ≡ []
no-targets r (instructions.Branch name target) form = absurd cc
no-targets r (instructions.TableSwitch s) form = absurd cc
no-targets r (instructions.LookupSwitch s) form = absurd cc
no-targets r _ form = refl

does-so : (r : References) (i : Instruction) (f : ℕ → Bool) → has_operation r i ≡ ((has_operation r i && true) && list_all f (instruction_targets i))
does-so r i f = by (cases_Bool (has_operation r i))
  where
    by : (has_operation r i ≡ true) ⊎ (has_operation r i ≡ false) → has_operation r i ≡ ((has_operation r i && true) && list_all f (instruction_targets i))
    by (inl form) = form ∙ sym (ap (λ ts. (has_operation r i && true) && list_all f ts) (no-targets r i form) ∙ ap (λ b. (b && true) && true) form)
    by (inr none) = none ∙ sym (ap (λ b. (b && true) && list_all f (instruction_targets i)) none)

step-so : (r : References) (code : List Step) (at : ℕ) (s : Step) (others : List Step) → step_fits r code at s others ≡ ((step_has_operation r s others && needs_no_padding at s) && list_all (is_start code) (instruction_targets (placed_instruction at s others)))
step-so r code at (Does instruction) others = does-so r instruction (is_start code)
step-so r code at (Skips name k) others = with-true (step_has_operation r (Skips name k) others) (is_start code (at + 3 + bytes_before others k))
step-so r code at (Leaves target) others = alone (is_start code target)
step-so r code at (Selects s) others = turned-round (needs_no_padding at (Selects s)) (switch_has_operation s) (list_all (is_start code) (instruction_targets (placed_instruction at (Selects s) others)))

-- ---- all steps

abbrev pub lines_start : List Step → List LinkedLine → Bool
lines_start code lines = list_all (λ l. list_all (is_start code) (instruction_targets l.instruction)) lines

steps-so : (r : References) (code : List Step) (at : ℕ) (others : List Step) → steps_fit r code at others ≡ ((have_operations r others && switches_are_placed at others) && lines_start code (laid at others))
steps-so r code at [] = refl
steps-so r code at (s ∷ others) =
    (λ i. step-so r code at s others i && steps-so r code (at + width s) others i)
    ∙ sorted (step_has_operation r s others) (needs_no_padding at s) (list_all (is_start code) (instruction_targets (placed_instruction at s others))) (have_operations r others) (switches_are_placed (at + width s) others) (lines_start code (laid (at + width s) others))

module _ (r : References) (code : List Step) where
  pub is-code : (nat_lt 0 (length code) && nat_le (size code) 65535) ≡ true → steps_fit r code 0 code ≡ (can_be_assembled r code && is_method code)
  is-code h =
      let few : size code ≤ 65535 = leb-true (size code) 65535 (and_parts (nat_lt 0 (length code)) (nat_le (size code) 65535) h).1 in
      let low : nat_lt (size code) (2 ^ 32) ≡ true = lt-ltb (size code) (2 ^ 32) (omega arith) in
      let have = have_operations r code in
      let placed = switches_are_placed 0 code in
      let starts = lines_start code (laid 0 code) in
      steps-so r code 0 code ∙ sym (λ i. ((low i && have) && placed) && (h i && starts))

  no-method : (can : Bool) (b starts : Bool) → b ≡ false → false ≡ (can && (b && starts))
  no-method true b starts long = sym (ap (λ x. x && starts) long)
  no-method false b starts long = refl

  pub no-code : (nat_lt 0 (length code) && nat_le (size code) 65535) ≡ false → false ≡ (can_be_assembled r code && is_method code)
  no-code h = no-method (can_be_assembled r code) (nat_lt 0 (length code) && nat_le (size code) 65535) (lines_start code (laid 0 code)) h

-- ---- the step that is next

module _ (r : References) (code : List Step) (i at : ℕ) (s : Step) (h : i < length code) (is : s ≡ get_or code i s) where
  pub first-is : first_fits r code at (drop i code) ≡ step_fits r code at s (drop (suc i) code)
  first-is = ap (first_fits r code at) (rest-begins code i s h is)

  steps-begin : steps_fit r code at (drop i code) ≡ (step_fits r code at s (drop (suc i) code) && steps_fit r code (at + width s) (drop (suc i) code))
  steps-begin = ap (steps_fit r code at) (rest-begins code i s h is)

  -- it fits, so the steps behind it decide
  pub next-left : (end : ℕ) → end ≡ at + width s → first_fits r code at (drop i code) ≡ true → (all : Bool) → steps_fit r code at (drop i code) ≡ all → steps_fit r code end (drop (i + 1) code) ≡ all
  next-left end ends fits all so =
      (λ j. steps_fit r code (ends j) (drop (add-one i j) code))
      ∙ sym (ap (λ b. b && steps_fit r code (at + width s) (drop (suc i) code)) (sym first-is ∙ fits))
      ∙ sym steps-begin
      ∙ so
