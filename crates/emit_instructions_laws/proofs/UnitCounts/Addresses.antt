-- Each address to which a unit leads is a word.
use Rattle.std.proofs.Common.{◌≡◌, ℕ, ◌+◌, ◌%◌, ◌^◌, ◌<◌, ◌==◌, Bool, true, false, if◌then◌else◌, None, unwrap_or, inl, inr, ap, subst, sym, arith, eq-eqb}
use Rattle.std.proofs.lemmas.Bool.{cases_eq, ne_eqb}
use Rattle.run_definition.specs.Words.{IsWord, signed_of}
use Rattle.run_definition.specs.Turn.{Turn, leaves, asks, exit}
use Rattle.mips_decode.specs.Encoding.{word_of}
use Rattle.mips_definition.specs.State.{State, register}
use Rattle.mips_definition.specs.Effect.{Effect, goes_on, branches, skips_slot, faults, calls, fetch_fault, branch_in_slot_fault}
use Rattle.mips_definition.specs.Targets.{branch_target}
use Rattle.mips_definition.specs.Branches.{after_slot, equal_taken, zero_taken, sign_taken}
use Rattle.mips_definition.specs.Step.{effect, into_slot, question_of, after_call, faulted}
use Rattle.mips_definition.specs.declared.inst.Inst.{Inst}
use Rattle.mips_definition.specs.declared.inst.Inst.TheVariants as inst
use Rattle.mips_decode.proofs.Steps.{Keeps, Keeps-effect}
use Rattle.delay_slots.specs.declared.unit.Unit.{Unit}
use Rattle.delay_slots.specs.declared.unit.Unit.TheVariants as units
use Rattle.delay_slots.specs.Turns.{done, done_by, skips, then_slot, last_turn, unit_turns}
use Rattle.delay_slots.specs.Units.{is_branch}
use Rattle.delay_slots.proofs.TurnLemmas.{IsNoBranch, no_branch}
use Rattle.emit_simulation_laws.specs.Lawful.{IsTransfer, IsLawful}
use Rattle.emit_instructions_laws.specs.Steps.{LeadsToWords}
use Rattle.emit_instructions_laws.proofs.UnitCounts.Ways.{Goes, goal_of, branch-goes}

-- ---- an instruction that is no branch

module _ (s : State) (next : IsWord (unwrap_or s.pending ((s.pc + 4) % 2 ^ 32))) where
  call-leads : (leaving : Bool) → LeadsToWords (if leaving then leaves (question_of s) (exit (signed_of (register s 4))) else asks (question_of s) (after_call s))
  call-leads true = tt
  call-leads false = λ answer. next

  effect-leads : (e : Effect) → IsNoBranch e → Keeps s e → LeadsToWords (done_by e s)
  effect-leads (goes_on t) plain kept = subst IsWord (sym (ap (λ (u : State). unwrap_or u.pending ((u.pc + 4) % 2 ^ 32)) kept)) next
  effect-leads (branches t target) plain kept = absurd plain
  effect-leads (skips_slot t) plain kept = absurd plain
  effect-leads (faults kind value) plain kept = tt
  effect-leads calls plain kept = call-leads (register s 2 == 1)

  done-leads : (i : Inst) → is_branch i ≡ false → LeadsToWords (done i s)
  done-leads i plain = effect-leads (effect i (word_of i) s) (no_branch i (word_of i) s plain) (Keeps-effect i (word_of i) s)

-- ---- goals of branches

one-of : (b : Bool) (m n : ℕ) → IsWord m → IsWord n → IsWord (if b then m else n)
one-of true m n h k = h
one-of false m n h k = k

module _ (x : State) (words : (r : ℕ) → 0 < r → r < 32 → IsWord (x.registers r)) where
  register-word : (r : ℕ) → r < 32 → IsWord (register x r)
  register-word r below =
      elim (cases_eq r 0) [
        | inl same ↦ subst (λ b. IsWord (if b then 0 else x.registers r)) (sym (eq-eqb r 0 same)) (omega arith)
        | inr other ↦ subst (λ b. IsWord (if b then 0 else x.registers r)) (sym (ne_eqb r 0 other)) (words r (omega (arith, other)) below)
      ]

  branch-word : (taken : Bool) (imm : ℕ) → IsWord (if taken then branch_target x.pc imm else after_slot x)
  branch-word taken imm = one-of taken (branch_target x.pc imm) (after_slot x) (omega arith) (omega arith)

  goal-word : (i : Inst) → IsTransfer i → IsWord (goal_of i x)
  goal-word (inst.JumpRegister rs) is = register-word rs is.fields.reads.0
  goal-word (inst.JumpAndLinkRegister rs rd) is = register-word rs is.fields.reads.0
  goal-word (inst.Jump name index) is = omega arith
  goal-word (inst.BranchEqual name rs rt imm) is = branch-word (equal_taken name (register x rs) (register x rt)) imm
  goal-word (inst.BranchZero name rs imm) is = branch-word (zero_taken name (signed_of (register x rs))) imm
  goal-word (inst.BranchSign name rs imm) is = branch-word (sign_taken name (signed_of (register x rs))) imm
  goal-word _ is = omega arith

  -- ---- every unit

  branch-leads : (i : Inst) → IsTransfer i → (second : State → Turn State) → ((t : State) → LeadsToWords (second (into_slot t (goal_of i x)))) → LeadsToWords (last_turn (then_slot (done i x) second))
  branch-leads i is second leads = by_way (branch-goes i x is.is_one)
    where
      by_way : Goes x (skips i x) (goal_of i x) (done i x) → LeadsToWords (last_turn (then_slot (done i x) second))
      by_way (inl comes) =
          subst (λ (d : Turn State). LeadsToWords (last_turn (then_slot d second))) (sym comes.last_is) (leads comes.linked_state)
      by_way (inr passes) =
          subst (λ (d : Turn State). LeadsToWords (last_turn (then_slot d second))) (sym passes.last_is) (omega arith)

  pub unit-leads : (unit : Unit) → IsLawful unit → x.pending ≡ None → LeadsToWords (last_turn (unit_turns unit x))
  unit-leads unit is free = by_unit unit is
    where
      next : IsWord (unwrap_or x.pending ((x.pc + 4) % 2 ^ 32))
      next = subst (λ p. IsWord (unwrap_or p ((x.pc + 4) % 2 ^ 32))) (sym free) (omega arith)

      by_unit : (unit : Unit) → IsLawful unit → LeadsToWords (last_turn (unit_turns unit x))
      by_unit (units.Plain i) is = done-leads x next i is.0.is_none
      by_unit (units.Branch i slot) is =
          branch-leads i is.0 (done slot) (λ t. done-leads (into_slot t (goal_of i x)) (goal-word i is.0) slot is.1.is_none)
      by_unit (units.SlotMissing i) is = branch-leads i is (λ s. faulted s fetch_fault s.pc) (λ t. tt)
      by_unit (units.SlotIsBranch i word) is = branch-leads i is.0 (λ s. faulted s branch_in_slot_fault word) (λ t. tt)
      by_unit units.Call is = call-leads x next (register x 2 == 1)
      by_unit (units.Trap kind value) is = tt
