-- The methods that choose.
use Rattle.std.proofs.Common.{◌≡◌, ℕ, ◌+◌, ◌%◌, ◌^◌, ◌==◌, ◌<◌, ◌≤◌, not, Bool, true, false, if◌then◌else◌, inl, inr, List, [], ◌∷◌, ◌++◌, length, None, refl, ap, ◌∙◌, sym, arith}
use Rattle.std.proofs.lemmas.Bool.{lt-ltb, le-ltb, cases_lt, ltb-false, ltb-true, eqb-true, eq-eqb}
use Rattle.run_definition.specs.Words.{IsWord}
use Rattle.mips_definition.specs.Effect.{fetch_fault, pc_align_fault}
use Rattle.jvm_definition.specs.declared.branch_name.BranchName.TheVariants.{Goto}
use Rattle.jvm_definition.specs.declared.value.Value.TheVariants.{Int as int}
use Rattle.jvm_definition.specs.declared.local_kind.LocalKind.TheVariants as local_kinds
use Rattle.jvm_definition.specs.declared.instruction.Instruction.TheVariants.{Store, Call, FaultHost}
use Rattle.jvm_definition.specs.Program.{Program}
use Rattle.jvm_definition.specs.Effect.{Workspace, with_operands, pushes, gives, faults, enters}
use Rattle.emit_steps.specs.declared.step.Step.{Step}
use Rattle.emit_steps.specs.declared.step.Step.TheVariants.{Does, Skips, Leaves}
use Rattle.emit_steps.specs.Outcomes.{Outcome, stopped, beyond, after_instruction, outcome, outcome_from}
use Rattle.emit_layout.specs.FieldNumbers.{pc_field}
use Rattle.emit_instructions.specs.Access.{push_word}
use Rattle.trampoline.specs.declared.start.Start.{Start}
use Rattle.trampoline.specs.Trees.{reached_code, first_of, tree}
use Rattle.emit_steps.specs.Returning.{returns}
use Rattle.trampoline.specs.Choosers.{load_address, address_code, unaligned_code, below_code, chosen_code, class_chooser, main_chooser, missing_code}
use Rattle.trampoline_laws.specs.Choosing.{is_below, chosen, Rise, IsMethod, AreMethods, IsWithin, IsReached}
use Rattle.trampoline_laws.specs.Coming.{Stops, Calls, begins_anew, with_address, stray_fault, with_stray}
use Rattle.trampoline_laws.proofs.ChoiceLaws.Tests.{below-low, high-below, reached, below, unaligned}
use Rattle.trampoline_laws.proofs.ChoiceLaws.Passing.{IsWay, more, passed, executed}
use Rattle.trampoline_laws.proofs.ChoiceLaws.Trees.{Follows, tree-follows, entered}

-- ---- what the tests say of an address

within-from : (x first end : ℕ) → end < 2 ^ 31 → IsWithin first end x → is_below x first ≡ false
within-from x first end low h =
    let less : x < 2 ^ 31 = omega (arith, h.2) in
    let low_first : first < 2 ^ 31 = omega (arith, h.1, h.2) in
    below-low x first less low_first ∙ le-ltb x first h.1

within-to : (x first end : ℕ) → end < 2 ^ 31 → IsWithin first end x → is_below x end ≡ true
within-to x first end low h =
    let less : x < 2 ^ 31 = omega (arith, h.2) in
    below-low x end less low ∙ lt-ltb x end h.2

-- what is not below an address with signs is not below it
not-below : (x first : ℕ) → IsWord x → first < 2 ^ 31 → is_below x first ≡ false → (first ≤ x) × (x < 2 ^ 31)
not-below x first word low is = elim (cases_lt x (2 ^ 31)) [
  | inl l ↦ (ltb-false x first (sym (below-low x first l low) ∙ is), l)
  | inr h ↦ (let no = sym (high-below x first word h low) ∙ is in cc)
]

first-low : (starts : List Start) → 1 ≤ length starts → Rise starts → first_of starts < 2 ^ 31
first-low [] some rise = absurd (omega (arith, some))
first-low (s ∷ starts) some rise = rise.1

reached-from : (x : ℕ) (starts : List Start) → 1 ≤ length starts → Rise starts → IsReached starts x → is_below x (first_of starts) ≡ false
reached-from x starts some rise h =
    below-low x (first_of starts) h.2 (first-low starts some rise) ∙ le-ltb x (first_of starts) h.1

-- ---- the tree, and the method anew

anew-way : IsWay begins_anew
anew-way = record { passed = λ n u. refl; grown = λ n u. refl }

-- what stands behind the tree
abbrev anew : List Step
anew = Leaves 0 ∷ []

module _ (program : Program) (words x : ℕ) (w : Workspace) (is : w.fields pc_field ≡ int x) where
  abbrev v : Workspace
  v = with_address w x

  -- the address is put into local variable 0
  put : (code : List Step) → outcome program words (address_code ++ code) w ≡ executed 2 (outcome program words code v)
  put code = ap (λ value. after_instruction w (pushes w value w.operands) (outcome_from program words (Does (Store local_kinds.Int 0) ∷ code) 0)) is

  -- behind the test of the two low bits
  aligned : (b : Bool) (over : ℕ) (code : List Step) → (x % 4 == 0) ≡ b → outcome program words (address_code ++ unaligned_code over ++ code) w ≡ executed 6 (outcome_from program words code (if not b then over else 0) v)
  aligned b over code test =
      put (unaligned_code over ++ code)
      ∙ ap (λ o. executed 2 o) (unaligned program words x code v refl over)
      ∙ ap (λ t. executed 6 (outcome_from program words code (if not t then over else 0) v)) test

  chosen-follows : (starts : List Start) → 1 ≤ length starts → length starts ≤ 2048 → Rise starts → AreMethods program starts → IsWord x → Follows program words 11 (chosen starts x) (tree starts) v
  chosen-follows starts some few rise methods word =
      tree-follows program words (length starts) 11 x starts v (omega arith) some few rise methods word refl

  -- ---- the chooser of a class

  module _ (starts : List Start) (first end : ℕ) where
    -- behind the test of the lower bound
    above : (b : Bool) → (x % 4 == 0) ≡ true → is_below x first ≡ b → outcome program words (class_chooser starts first end) w ≡ executed 9 (outcome_from program words (below_code end 1 ++ returns ∷ chosen_code starts) (if b then 3 else 0) v)
    above b low test =
        aligned true 6 (below_code first 3 ++ below_code end 1 ++ returns ∷ chosen_code starts) low
        ∙ ap (λ o. executed 6 o) (below program words x (below_code end 1 ++ returns ∷ chosen_code starts) v refl first 3)
        ∙ ap (λ t. executed 9 (outcome_from program words (below_code end 1 ++ returns ∷ chosen_code starts) (if t then 3 else 0) v)) test

    -- and behind that of the upper one
    inside : (b : Bool) → (x % 4 == 0) ≡ true → is_below x first ≡ false → is_below x end ≡ b → outcome program words (class_chooser starts first end) w ≡ executed 12 (outcome_from program words (returns ∷ chosen_code starts) (if b then 1 else 0) v)
    inside b low from test =
        above false low from
        ∙ ap (λ o. executed 9 o) (below program words x (returns ∷ chosen_code starts) v refl end 1)
        ∙ ap (λ t. executed 12 (outcome_from program words (returns ∷ chosen_code starts) (if t then 1 else 0) v)) test

    pub class-returns : first < 2 ^ 31 → end < 2 ^ 31 → IsWord x → (IsWithin first end x → ⊥) → Stops program words 12 (class_chooser starts first end) w v (gives None v)
    class-returns low_first low_end word outside = by_test (x % 4 == 0) (is_below x first) (is_below x end) refl refl refl
      where
        by_test : (a b c : Bool) → (x % 4 == 0) ≡ a → is_below x first ≡ b → is_below x end ≡ c → Stops program words 12 (class_chooser starts first end) w v (gives None v)
        by_test false b c e f g = record { turns = 6; step = 12; comes = aligned false 6 (below_code first 3 ++ below_code end 1 ++ returns ∷ chosen_code starts) e; in_time = omega arith }
        by_test true true c e f g = record { turns = 9; step = 12; comes = above true e f; in_time = omega arith }
        by_test true false false e f g = record { turns = 12; step = 12; comes = inside false e f g; in_time = omega arith }
        by_test true false true e f g =
            let from = not-below x first word low_first f in
            absurd (outside (eqb-true (x % 4) 0 e, from.0, ltb-true x end (sym (below-low x end from.1 low_end) ∙ g)))

    pub class-calls : 1 ≤ length starts → length starts ≤ 2048 → Rise starts → AreMethods program starts → end < 2 ^ 31 → IsWithin first end x → Calls program words 45 (class_chooser starts first end) w v (chosen starts x) 12 begins_anew
    class-calls some few rise methods low within =
        let t = chosen-follows starts some few rise methods (omega (arith, within.2)) in
        record {
          turns = more 12 t.turns;
          step = more 13 t.step;
          turns_behind = t.turns_behind + 1;
          comes = inside true (eq-eqb (x % 4) 0 within.0) (within-from x first end low within) (within-to x first end low within) ∙ ap (λ o. executed 12 (beyond o)) (t.comes anew);
          in_time = omega (arith, t.in_time);
          step_is = t.step_is anew;
          goes_on = λ u. ap (λ o. passed 13 o) (t.goes_on anew 1 u begins_anew anew-way refl);
          behind_in_time = omega (arith, t.behind_in_time);
        }

  -- ---- the chooser of the whole program

  module _ (starts : List Start) (missing : ℕ) where
    abbrev strays : List Step
    strays = Does (Call missing) ∷ Leaves 0 ∷ chosen_code starts

    -- behind the test against the first start
    among : (b : Bool) → (x % 4 == 0) ≡ true → is_below x (first_of starts) ≡ b → outcome program words (main_chooser starts missing) w ≡ executed 9 (outcome_from program words strays (if not b then 2 else 0) v)
    among b low test =
        aligned true 3 (reached_code (first_of starts) 2 ++ strays) low
        ∙ ap (λ o. executed 6 o) (reached program words x strays v refl (first_of starts) 2)
        ∙ ap (λ t. executed 9 (outcome_from program words strays (if not t then 2 else 0) v)) test

    pub main-calls : 1 ≤ length starts → length starts ≤ 2048 → Rise starts → AreMethods program starts → IsReached starts x → Calls program words 42 (main_chooser starts missing) w v (chosen starts x) 12 begins_anew
    main-calls some few rise methods within =
        let t = chosen-follows starts some few rise methods (omega (arith, within.2)) in
        record {
          turns = more 9 t.turns;
          step = more 11 t.step;
          turns_behind = t.turns_behind + 1;
          comes = among false (eq-eqb (x % 4) 0 within.0) (reached-from x starts some rise within) ∙ ap (λ o. executed 9 (passed 2 o)) (t.comes anew);
          in_time = omega (arith, t.in_time);
          step_is = t.step_is anew;
          goes_on = λ u. ap (λ o. passed 11 o) (t.goes_on anew 1 u begins_anew anew-way refl);
          behind_in_time = omega (arith, t.behind_in_time);
        }

    pub main-strays : 1 ≤ length starts → Rise starts → IsMethod program missing → IsWord x → (IsReached starts x → ⊥) → Calls program words 9 (main_chooser starts missing) w v missing 1 begins_anew
    main-strays some rise method word outside = by_test (x % 4 == 0) (is_below x (first_of starts)) refl refl
      where
        call : outcome program words strays v ≡ stopped 0 0 v (enters missing [] v)
        call = entered program words missing (Leaves 0 ∷ chosen_code starts) v method

        comes_by : (n : ℕ) → n ≤ 9 → outcome program words (main_chooser starts missing) w ≡ stopped n 9 v (enters missing [] v) → Calls program words 9 (main_chooser starts missing) w v missing 1 begins_anew
        comes_by n few comes = record {
          turns = n;
          step = 9;
          turns_behind = 1;
          comes = comes;
          in_time = few;
          step_is = refl;
          goes_on = λ u. refl;
          behind_in_time = omega arith;
        }

        by_test : (a b : Bool) → (x % 4 == 0) ≡ a → is_below x (first_of starts) ≡ b → Calls program words 9 (main_chooser starts missing) w v missing 1 begins_anew
        by_test false b e f =
            comes_by 6 (omega arith) (aligned false 3 (reached_code (first_of starts) 2 ++ strays) e ∙ ap (λ o. executed 6 (passed 3 o)) call)
        by_test true true e f =
            comes_by 9 (omega arith) (among true e f ∙ ap (λ o. executed 9 o) call)
        by_test true false e f =
            let from = not-below x (first_of starts) word (first-low starts some rise) f in
            absurd (outside (eqb-true (x % 4) 0 e, from.0, from.1))

  -- ---- outside all code

  -- what stands behind the test of the two low bits
  abbrev kinds : List Step
  kinds = push_word fetch_fault ∷ Skips Goto 1 ∷ push_word pc_align_fault ∷ load_address ∷ load_address ∷ Does FaultHost ∷ returns ∷ []

  -- the end of a run, by whether the address is a multiple of 4
  abbrev kind_by : Bool → ℕ
  kind_by b = if b then fetch_fault else pc_align_fault

  abbrev stopped_by : ℕ → Bool → Outcome
  stopped_by n b = stopped n 11 (with_operands v (int x ∷ int x ∷ int (kind_by b) ∷ w.operands)) (faults (record { kind = kind_by b; pc = x; value = x }))

  pub stray-faults : Stops program words 10 missing_code w (with_stray w x) (faults (stray_fault x))
  stray-faults = by_test (x % 4 == 0) refl
    where
      by_test : (b : Bool) → (x % 4 == 0) ≡ b → Stops program words 10 missing_code w (with_stray w x) (faults (stray_fault x))
      by_test true e = record { turns = 10; step = 11; comes = aligned true 2 kinds e ∙ ap (stopped_by 10) (sym e); in_time = omega arith }
      by_test false e = record { turns = 9; step = 11; comes = aligned false 2 kinds e ∙ ap (stopped_by 9) (sym e); in_time = omega arith }
