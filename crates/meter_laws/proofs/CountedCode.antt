-- What code comes to that takes turns off a meter.
use Rattle.std.proofs.Common.{◌≡◌, ℕ, ◌+◌, ◌-◌, ◌%◌, ◌^◌, ◌<◌, ◌≤◌, int_lt, Bool, true, false, not, if◌then◌else◌, List, [], ◌∷◌, ◌++◌, ap, ◌∙◌, arith, lit≤}
use Rattle.std.proofs.lemmas.Int.{ints}
use Rattle.run_definition.specs.Words.{signed_of}
use Rattle.jvm_definition.specs.declared.branch_name.BranchName.{BranchName}
use Rattle.jvm_definition.specs.declared.branch_name.BranchName.TheVariants.{IfIcmpge, Goto}
use Rattle.jvm_definition.specs.declared.int_arithmetic.IntArithmetic.TheVariants.{Isub}
use Rattle.jvm_definition.specs.declared.value.Value.{Value}
use Rattle.jvm_definition.specs.declared.value.Value.TheVariants.{Int as int}
use Rattle.jvm_definition.specs.Program.{Program}
use Rattle.jvm_definition.specs.Effect.{Workspace, with_operands, with_field, faults, chooses, branches}
use Rattle.emit_steps.specs.declared.step.Step.{Step}
use Rattle.emit_steps.specs.declared.step.Step.TheVariants.{Skips}
use Rattle.emit_steps.specs.Outcomes.{Outcome, ended, stopped, later, beyond, outcome, outcome_from, after_branch}
use Rattle.emit_instructions.specs.Access.{push_word, get_field, put_field, arithmetic}
use Rattle.emit_instructions.specs.Faulting.{fault_code}
use Rattle.meter.specs.Guards.{left_field, spent_kind, counted_code, likely_guard}
use Rattle.meter_laws.specs.Laws.{StopsSpent}
use Rattle.meter_laws.specs.Meters.{HasLeft, leaving, spent_fault, with_spent}

-- code comes to its end within twelve instructions, where so many turns are left
pub record Paid (program : Program) (words : ℕ) (code : List Step) (w : Workspace) (left : ℕ) : Type 0 where
  pub turns : ℕ
  pub some : 1 ≤ turns
  pub in_time : turns ≤ 12
  pub comes : outcome program words code w ≡ ended turns (leaving left w)

-- ---- the test of the meter

enough : (a k : ℕ) → a < 2 ^ 31 → k ≤ 2 → k ≤ a → not (int_lt (signed_of a) (signed_of k)) ≡ true
enough a k small few least = grind (arith, ints)

too-few : (a k : ℕ) → a < 2 ^ 31 → k ≤ 2 → a < k → not (int_lt (signed_of a) (signed_of k)) ≡ false
too-few a k small few less = grind (arith, ints)

less-some : (a k : ℕ) → a < 2 ^ 31 → k ≤ 2 → k ≤ a → (a + (2 ^ 32 - k)) % 2 ^ 32 ≡ a - k
less-some a k small few least = omega arith

module _ (program : Program) (words : ℕ) (w : Workspace) (a : ℕ) (has : HasLeft a w) where
  -- behind the test
  abbrev paying : ℕ → List Step → List Step
  paying k rest = get_field left_field ∷ push_word k ∷ arithmetic Isub ∷ put_field left_field ∷ rest

  abbrev tested : ℕ → ℕ → List Step → List Step
  tested k at rest = fault_code spent_kind at 0 ++ paying k rest

  abbrev over : List Value → Workspace
  over operands = with_operands w operands

  abbrev after : ℕ → List Value → Workspace
  after n operands = with_field w left_field (int n) operands

  pays : (k : ℕ) (rest : List Step) (operands : List Value) → k ≤ 2 → k ≤ a
      → outcome program words (paying k rest) (over operands) ≡ later (later (later (later (outcome program words rest (after (a - k) operands)))))
  pays k rest operands few least =
      ap (λ v. later (outcome program words (push_word k ∷ arithmetic Isub ∷ put_field left_field ∷ rest) (over (v ∷ operands)))) has.0
      ∙ ap (λ n. later (later (later (later (outcome program words rest (after n operands)))))) (less-some a k has.1 few least)

  abbrev chosen : ℕ → ℕ → List Step → List Value → Bool → Outcome
  chosen k at rest operands t =
      later (later (after_branch (over (int k ∷ int a ∷ operands)) (chooses t (over (int k ∷ int a ∷ operands)) operands)
      (outcome_from program words (tested k at rest) 0) (outcome_from program words (tested k at rest) 4)))

  looks : (k at : ℕ) (rest : List Step) (operands : List Value)
      → outcome program words (counted_code k at ++ rest) (over operands) ≡ chosen k at rest operands (not (int_lt (signed_of a) (signed_of k)))
  looks k at rest operands =
      ap (λ v. later (outcome program words (push_word k ∷ Skips IfIcmpge 4 ∷ tested k at rest) (over (v ∷ operands)))) has.0

  -- the test is passed
  pub counted-paid : (k at : ℕ) (rest : List Step) (operands : List Value) → k ≤ 2 → k ≤ a
      → outcome program words (counted_code k at ++ rest) (over operands)
      ≡ later (later (later (beyond (beyond (beyond (beyond (later (later (later (later (outcome program words rest (after (a - k) operands))))))))))))
  counted-paid k at rest operands few least =
      looks k at rest operands
      ∙ ap (chosen k at rest operands) (enough a k has.1 few least)
      ∙ ap (λ o. later (later (later (beyond (beyond (beyond (beyond o))))))) (pays k rest operands few least)

  -- it is not
  pub counted-spent : (k at : ℕ) (rest : List Step) (operands : List Value) → k ≤ 2 → a < k
      → outcome program words (counted_code k at ++ rest) (over operands)
      ≡ stopped 6 6 (over (int 0 ∷ int at ∷ int spent_kind ∷ operands)) (faults (spent_fault at))
  counted-spent k at rest operands few less =
      looks k at rest operands ∙ ap (chosen k at rest operands) (too-few a k has.1 few less)

  pub code-paid : (k at : ℕ) → k ≤ 2 → k ≤ a → outcome program words (counted_code k at) w ≡ ended 7 (leaving (a - k) w)
  code-paid k at few least = counted-paid k at [] w.operands few least

  pub code-spent : (k at : ℕ) → k ≤ 2 → a < k
      → outcome program words (counted_code k at) w ≡ stopped 6 6 (with_spent w at) (faults (spent_fault at))
  code-spent k at few less = counted-spent k at [] w.operands few less

  -- ---- one count

  pub one-paid : (k at : ℕ) → k ≤ 2 → k ≤ a → Paid program words (counted_code k at) w (a - k)
  one-paid k at few least = record { turns = 7; some = lit≤ tt; in_time = lit≤ tt; comes = code-paid k at few least }

  pub one-spent : (k at : ℕ) → k ≤ 2 → a < k → StopsSpent program words (counted_code k at) w at
  one-spent k at few less = record {
    turns = 6;
    step = 6;
    some = lit≤ tt;
    in_time = lit≤ tt;
    comes = code-spent k at few less;
  }

  -- ---- by a test

  -- two turns where it is passed, and otherwise one
  abbrev pub turns_by : Bool → ℕ
  turns_by taken = if not taken then 1 else 2

  module _ (test : BranchName) (at : ℕ) (operands : List Value) where
    abbrev ways : List Step
    ways = counted_code 1 at ++ Skips Goto 11 ∷ counted_code 2 at

    by-test : (t : Bool) → branches test (over operands) ≡ chooses t (over operands) w.operands
        → outcome program words (likely_guard test at) (over operands)
        ≡ after_branch (over operands) (chooses t (over operands) w.operands) (outcome_from program words ways 0) (outcome_from program words ways 12)
    by-test t is = ap (λ e. after_branch (over operands) e (outcome_from program words ways 0) (outcome_from program words ways 12)) is

    -- so many steps are passed over
    abbrev past : Outcome → Outcome
    past o = beyond (beyond (beyond (beyond (beyond (beyond (beyond (beyond (beyond (beyond (beyond (beyond o)))))))))))

    likely-paid : (t : Bool) → branches test (over operands) ≡ chooses t (over operands) w.operands → turns_by t ≤ a
        → outcome program words (likely_guard test at) (over operands) ≡ ended (if t then 8 else 9) (after (a - turns_by t) w.operands)
    likely-paid true is least = by-test true is ∙ ap (λ o. later (past o)) (counted-paid 2 at [] w.operands (lit≤ tt) least)
    likely-paid false is least = by-test false is ∙ ap later (counted-paid 1 at (Skips Goto 11 ∷ counted_code 2 at) w.operands (lit≤ tt) least)

    likely-spent : (t : Bool) → branches test (over operands) ≡ chooses t (over operands) w.operands → a < turns_by t
        → outcome program words (likely_guard test at) (over operands)
        ≡ stopped 7 (if t then 19 else 7) (with_spent w at) (faults (spent_fault at))
    likely-spent true is less = by-test true is ∙ ap (λ o. later (past o)) (counted-spent 2 at [] w.operands (lit≤ tt) less)
    likely-spent false is less = by-test false is ∙ ap later (counted-spent 1 at (Skips Goto 11 ∷ counted_code 2 at) w.operands (lit≤ tt) less)

  -- a register is pushed, and tested
  module _ (test : BranchName) (at : ℕ) (first : Step) (m : ℕ)
      (comes : (code : List Step) → outcome program words (first ∷ code) w ≡ later (outcome program words code (over (int m ∷ w.operands)))) where
    abbrev one : Workspace
    one = over (int m ∷ w.operands)

    pub of-one-paid : (taken : Bool) → branches test one ≡ chooses taken one w.operands → turns_by taken ≤ a
        → Paid program words (first ∷ likely_guard test at) w (a - turns_by taken)
    of-one-paid true is least = record {
      turns = 9;
      some = lit≤ tt;
      in_time = lit≤ tt;
      comes = comes (likely_guard test at) ∙ ap later (likely-paid test at (int m ∷ w.operands) true is least);
    }
    of-one-paid false is least = record {
      turns = 10;
      some = lit≤ tt;
      in_time = lit≤ tt;
      comes = comes (likely_guard test at) ∙ ap later (likely-paid test at (int m ∷ w.operands) false is least);
    }

    pub of-one-spent : (taken : Bool) → branches test one ≡ chooses taken one w.operands → a < turns_by taken
        → StopsSpent program words (first ∷ likely_guard test at) w at
    of-one-spent true is less = record {
      turns = 8;
      step = 20;
      some = lit≤ tt;
      in_time = lit≤ tt;
      comes = comes (likely_guard test at) ∙ ap later (likely-spent test at (int m ∷ w.operands) true is less);
    }
    of-one-spent false is less = record {
      turns = 8;
      step = 8;
      some = lit≤ tt;
      in_time = lit≤ tt;
      comes = comes (likely_guard test at) ∙ ap later (likely-spent test at (int m ∷ w.operands) false is less);
    }

  -- two registers are
  module _ (test : BranchName) (at : ℕ) (first second : Step) (m n : ℕ)
      (comes : (code : List Step) → outcome program words (first ∷ second ∷ code) w ≡ later (later (outcome program words code (over (int n ∷ int m ∷ w.operands))))) where
    abbrev both : Workspace
    both = over (int n ∷ int m ∷ w.operands)

    pub of-two-paid : (taken : Bool) → branches test both ≡ chooses taken both w.operands → turns_by taken ≤ a
        → Paid program words (first ∷ second ∷ likely_guard test at) w (a - turns_by taken)
    of-two-paid true is least = record {
      turns = 10;
      some = lit≤ tt;
      in_time = lit≤ tt;
      comes = comes (likely_guard test at) ∙ ap (λ o. later (later o)) (likely-paid test at (int n ∷ int m ∷ w.operands) true is least);
    }
    of-two-paid false is least = record {
      turns = 11;
      some = lit≤ tt;
      in_time = lit≤ tt;
      comes = comes (likely_guard test at) ∙ ap (λ o. later (later o)) (likely-paid test at (int n ∷ int m ∷ w.operands) false is least);
    }

    pub of-two-spent : (taken : Bool) → branches test both ≡ chooses taken both w.operands → a < turns_by taken
        → StopsSpent program words (first ∷ second ∷ likely_guard test at) w at
    of-two-spent true is less = record {
      turns = 9;
      step = 21;
      some = lit≤ tt;
      in_time = lit≤ tt;
      comes = comes (likely_guard test at) ∙ ap (λ o. later (later o)) (likely-spent test at (int n ∷ int m ∷ w.operands) true is less);
    }
    of-two-spent false is less = record {
      turns = 9;
      step = 9;
      some = lit≤ tt;
      in_time = lit≤ tt;
      comes = comes (likely_guard test at) ∙ ap (λ o. later (later o)) (likely-spent test at (int n ∷ int m ∷ w.operands) false is less);
    }
