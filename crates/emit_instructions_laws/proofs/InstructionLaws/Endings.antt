-- How the last steps of an instruction's code end.
use Rattle.std.proofs.Common.{◌≡◌, ℕ, suc, ◌+◌, ◌==◌, ◌<◌, ◌≤◌, Bool, true, false, not, if◌then◌else◌, Option, Some, None, List, [], ◌∷◌, ◌++◌, refl, ap, subst, sym, ◌∙◌, arith, lit<, lit≤}
use Rattle.run_definition.specs.Words.{IsWord}
use Rattle.run_definition.specs.Turn.{moves, ends, «fault»}
use Rattle.run_definition.specs.declared.fault.Fault.{Fault}
use Rattle.mips_definition.specs.Effect.{overflow_fault, trap_fault}
use Rattle.mips_definition.specs.Step.{advanced, result_effect}
use Rattle.mips_definition.specs.Traps.{trap_by}
use Rattle.delay_slots.specs.Turns.{done_by}
use Rattle.block_builder.specs.Registers.{Register, general}
use Rattle.jvm_definition.specs.declared.branch_name.BranchName.{BranchName}
use Rattle.jvm_definition.specs.declared.branch_name.BranchName.TheVariants.{Ifge}
use Rattle.jvm_definition.specs.declared.value.Value.{Value}
use Rattle.jvm_definition.specs.declared.value.Value.TheVariants.{Int as int}
use Rattle.jvm_definition.specs.Effect.{Workspace, with_operands, with_local, with_field, branches, chooses, faults}
use Rattle.emit_steps.specs.declared.step.Step.{Step}
use Rattle.emit_steps.specs.declared.step.Step.TheVariants.{Skips}
use Rattle.emit_steps.specs.Outcomes.{ended, stopped, later, beyond, outcome_from, after_branch}
use Rattle.emit_layout.specs.FieldNumbers.{register_field}
use Rattle.emit_instructions.specs.Access.{put_register, keeps}
use Rattle.emit_instructions.specs.Computing.{chosen_code}
use Rattle.emit_instructions.specs.Faulting.{fault_code, unless_code}
use Rattle.emit_simulation_laws.specs.Holding.{with_value}
use Rattle.emit_simulation_laws.specs.Behind.{IsDone}
use Rattle.emit_simulation_laws.proofs.GuestFollows.CodeLaws.{CodeLaws}
use Rattle.emit_instructions_laws.specs.Instructions.{most_turns}
use Rattle.emit_instructions_laws.proofs.InstructionLaws.Running.{puts, chooses-one}
use Rattle.emit_instructions_laws.proofs.InstructionLaws.Results.{result-follows, fault-follows}
use Rattle.emit_instructions_laws.proofs.InstructionLaws.Settings.{Setting, Lies, Followed, Gives, comes, Leads, laters, laters-ended, laters-stopped}

module _ (laws : CodeLaws) (x : Setting) (code : List Step) (lies : Lies x code) where
  pub ends-with : (d n k m : ℕ) → d < 32 → IsWord n → 1 ≤ m → m ≤ 50 → k ≤ 50
      → comes x code x.before.operands ≡ laters k (ended m (with_value x.bank d (int n) x.before x.before.operands)) → Gives x code d n
  ends-with d n k m below word some few front is =
      result-follows laws x.site x.order x.bank x.known x.at x.before x.state x.held d n (k + m) code lies below word
      (is ∙ laters-ended k m (with_value x.bank d (int n) x.before x.before.operands)) (omega arith) (omega arith)

  -- what would go to register 0 is lost
  pub lost-put : (d n m : ℕ) → d < 32 → (d == 0) ≡ true → IsWord n → 1 ≤ m → m ≤ 50 → comes x code x.before.operands ≡ ended m x.before
      → Gives x code d n
  lost-put d n m below none word some few is =
      ends-with d n 0 m below word some few (lit≤ tt)
      (is ∙ ap
      (λ b. ended m
      (if b then x.before else if keeps x.bank d then with_local x.before d (int n) x.before.operands else with_field x.before (register_field d)
      (int n) x.before.operands))
      (sym none))

  -- a word goes to a register: the guest's result
  pub result-put : (d given result k : ℕ) → d < 32 → IsWord given → given ≡ result → k ≤ 50
      → Leads x code (put_register x.bank d ∷ []) k (int given ∷ x.before.operands) → Gives x code d result
  result-put d given result k below word same few leads =
      subst (λ v. Gives x code d v) same
      (ends-with d given k 1 below word (lit≤ tt) (lit≤ tt) few
      (leads ∙ ap (laters k) (puts x.site.program x.site.words x.bank x.known x.before x.state x.held d given x.before.operands)))

  -- a test chooses 1 or 0
  pub choice-put : (test : BranchName) (t answer : Bool) (d k : ℕ) (operands : List Value) → d < 32 → t ≡ answer → k ≤ 50
      → branches test (with_operands x.before operands) ≡ chooses t (with_operands x.before operands) x.before.operands
      → Leads x code (chosen_code x.bank test d) k operands → Gives x code d (if answer then 1 else 0)
  choice-put test t answer d k operands below same few tests leads =
      subst (λ b. Gives x code d (if b then 1 else 0)) same
      (by_test t
      (leads ∙ ap (laters k)
      (chooses-one x.site.program x.site.words x.bank x.known x.before x.state x.held test t d operands x.before.operands tests)))
    where
      by_test : (b : Bool)
          → comes x code x.before.operands ≡ laters k (ended (if b then 3 else 4)
          (with_value x.bank d (int (if b then 1 else 0)) x.before x.before.operands))
          → Gives x code d (if b then 1 else 0)
      by_test true is = ends-with d 1 k 3 below (lit< tt) (lit≤ tt) (lit≤ tt) few is
      by_test false is = ends-with d 0 k 4 below (lit< tt) (lit≤ tt) (lit≤ tt) few is

  -- nothing is done
  pub nothing-done : (n : ℕ) → 1 ≤ n → n ≤ most_turns → comes x code x.before.operands ≡ ended n x.before
      → Followed x [] code (moves (advanced x.state))
  nothing-done n some few is =
      laws.end_follows x.site x.order x.at 1 most_turns n code x.before x.before (λ u. IsDone x.bank x.known [] x.before u (advanced x.state)) lies is
      some few
      (record {
        state = record { held = x.held; kept = record { fields_kept = λ r some below kept. refl; operands_kept = refl } };
        goal = record { pc_kept = refl; goal_kept = refl };
      })

  stops-with : (written : List Register) (ending : Fault) (k : ℕ) (v : Workspace) → k ≤ 50
      → comes x code x.before.operands ≡ laters k (stopped 4 4 v (faults ending)) → Followed x written code (ends («fault» ending))
  stops-with written ending k v few is =
      fault-follows laws x.site x.order x.bank x.known x.at x.before x.state x.held written ending (k + 4) (k + 4) v code lies
      (is ∙ laters-stopped k 4 4 v (faults ending)) (omega arith)

  -- ---- a test passes, or there is a fault

  module _ (test : BranchName) (kind word : ℕ) (rest : List Step) (operands below : List Value) where
    abbrev unless : List Step
    unless = fault_code kind x.state.pc word ++ rest

    passes-over : (n : ℕ) (v : Workspace) → branches test (with_operands x.before operands) ≡ chooses true (with_operands x.before operands) below
        → comes x rest below ≡ ended n v → comes x (Skips test 4 ∷ unless) operands ≡ ended (suc n) v
    passes-over n v is goes_on =
        ap
        (λ e. after_branch (with_operands x.before operands) e (outcome_from x.site.program x.site.words unless 0)
        (outcome_from x.site.program x.site.words unless 4))
        is
        ∙ ap (λ o. later (beyond (beyond (beyond (beyond o))))) goes_on

    abbrev stop : Workspace
    stop = with_operands x.before (int word ∷ int x.state.pc ∷ int kind ∷ below)

    stops-there : branches test (with_operands x.before operands) ≡ chooses false (with_operands x.before operands) below
        → comes x (Skips test 4 ∷ unless) operands ≡ stopped 4 4 stop (faults (record { kind = kind; pc = x.state.pc; value = word }))
    stops-there is =
        ap
        (λ e. after_branch (with_operands x.before operands) e (outcome_from x.site.program x.site.words unless 0)
        (outcome_from x.site.program x.site.words unless 4))
        is

  -- a sum or difference goes to a register, or overflows
  pub checked-put : (overflows : Bool) (d given k word : ℕ) (operands : List Value) (result : Option ℕ) → d < 32 → IsWord given
      → (if overflows then None else Some given) ≡ result → k ≤ 50
      → branches Ifge (with_operands x.before operands) ≡ chooses (not overflows) (with_operands x.before operands) (int given ∷ x.before.operands)
      → Leads x code (Skips Ifge 4 ∷ (fault_code overflow_fault x.state.pc word ++ put_register x.bank d ∷ [])) k operands
      → Followed x (general d ∷ []) code (done_by (result_effect x.state word d result) x.state)
  checked-put overflows d given k word operands result below is_word same few tests leads =
      subst (λ r. Followed x (general d ∷ []) code (done_by (result_effect x.state word d r) x.state)) same (by_test overflows tests)
    where
      by_test : (b : Bool)
          → branches Ifge (with_operands x.before operands) ≡ chooses (not b) (with_operands x.before operands) (int given ∷ x.before.operands)
          → Followed x (general d ∷ []) code (done_by (result_effect x.state word d (if b then None else Some given)) x.state)
      by_test true is =
          stops-with (general d ∷ []) (record { kind = overflow_fault; pc = x.state.pc; value = word }) k
          (stop Ifge overflow_fault word (put_register x.bank d ∷ []) operands (int given ∷ x.before.operands)) few
          (leads ∙ ap (laters k) (stops-there Ifge overflow_fault word (put_register x.bank d ∷ []) operands (int given ∷ x.before.operands) is))
      by_test false is =
          ends-with d given k 2 below is_word (lit≤ tt) (lit≤ tt) few
          (leads ∙ ap (laters k)
          (passes-over Ifge overflow_fault word (put_register x.bank d ∷ []) operands (int given ∷ x.before.operands) 1
          (with_value x.bank d (int given) x.before x.before.operands) is
          (puts x.site.program x.site.words x.bank x.known x.before x.state x.held d given x.before.operands)))

  -- nothing is done, or there is a trap's fault
  pub trap-done : (test : BranchName) (passes holds : Bool) (k word : ℕ) (operands : List Value) → not passes ≡ holds → k ≤ 50
      → branches test (with_operands x.before operands) ≡ chooses passes (with_operands x.before operands) x.before.operands
      → Leads x code (unless_code test x.state.pc word) k operands → Followed x [] code (done_by (trap_by holds word x.state) x.state)
  trap-done test passes holds k word operands same few tests leads =
      subst (λ b. Followed x [] code (done_by (trap_by b word x.state) x.state)) same (by_test passes tests)
    where
      by_test : (b : Bool) → branches test (with_operands x.before operands) ≡ chooses b (with_operands x.before operands) x.before.operands
          → Followed x [] code (done_by (trap_by (not b) word x.state) x.state)
      by_test true is =
          nothing-done (k + 1) (omega arith) (omega arith)
          (leads ∙ ap (laters k) (passes-over test trap_fault word [] operands x.before.operands 0 x.before is refl) ∙ laters-ended k 1 x.before)
      by_test false is =
          stops-with [] (record { kind = trap_fault; pc = x.state.pc; value = word }) k (stop test trap_fault word [] operands x.before.operands) few
          (leads ∙ ap (laters k) (stops-there test trap_fault word [] operands x.before.operands is))

  -- a fault
  pub fault-done : (written : List Register) (kind value : ℕ)
      → comes x code x.before.operands ≡ comes x (fault_code kind x.state.pc value) x.before.operands
      → Followed x written code (ends («fault» (record { kind = kind; pc = x.state.pc; value = value })))
  fault-done written kind value is =
      fault-follows laws x.site x.order x.bank x.known x.at x.before x.state x.held written (record { kind = kind; pc = x.state.pc; value = value }) 3
      3 (with_operands x.before (int value ∷ int x.state.pc ∷ int kind ∷ x.before.operands)) code lies is (lit≤ tt)
