-- Where the turns of a unit lead.
use Rattle.std.proofs.Common.{◌≡◌, ℕ, ◌+◌, ◌%◌, ◌^◌, ◌==◌, ◌&&◌, nat_le, nat_lt, Bool, true, false, if◌then◌else◌, ◌⊎◌, inl, inr, None, unwrap_or, refl, ap, subst, sym, ◌∙◌, arith}
use Rattle.std.proofs.lemmas.Bool.{and_from, cases_lt, eq-eqb, le-leb, lt-ltb, true≢false}
use Rattle.std.specs.Bool.{⊤}
use Rattle.run_definition.specs.Words.{signed_of}
use Rattle.run_definition.specs.Turn.{Turn, leaves, asks, exit}
use Rattle.mips_decode.specs.Encoding.{word_of}
use Rattle.mips_definition.specs.State.{State, register}
use Rattle.mips_definition.specs.Branches.{equal_likely, equal_taken, zero_likely, zero_taken, sign_likely, sign_taken, sign_linked, jump_linked, with_return_link, branch_effect}
use Rattle.mips_definition.specs.Effect.{Effect, goes_on, branches, skips_slot, faults, calls, fetch_fault, branch_in_slot_fault}
use Rattle.mips_definition.specs.Step.{effect, question_of, after_call, into_slot, faulted}
use Rattle.mips_definition.specs.Targets.{branch_target, jump_target}
use Rattle.mips_definition.specs.declared.inst.Inst.{Inst}
use Rattle.mips_definition.specs.declared.inst.Inst.TheVariants as inst
use Rattle.mips_definition.specs.declared.names.branch_sign_name.BranchSignName.{BranchSignName}
use Rattle.mips_definition.specs.declared.names.branch_sign_name.BranchSignName.TheVariants.{Bltz, Bgez, Bltzal, Bgezal, Bltzl, Bgezl, Bltzall, Bgezall}
use Rattle.mips_decode.proofs.Steps.{Keeps, Keeps-effect}
use Rattle.delay_slots.specs.declared.unit.Unit.{Unit as Word}
use Rattle.delay_slots.specs.declared.unit.Unit.TheVariants as units
use Rattle.delay_slots.specs.Turns.{done, done_by, then_slot, unit_turns, last_turn}
use Rattle.delay_slots.specs.Units.{is_branch}
use Rattle.delay_slots.proofs.TurnLemmas.{IsNoBranch, no_branch}
use Rattle.emit_instructions.specs.Branching.{behind_slot}
use Rattle.emit_instructions.specs.Units.{next_address}
use Rattle.word_emitter.specs.Pieces.{is_likely}
use Rattle.word_emitter.specs.Exits.{has}
use Rattle.emit_simulation_laws.specs.Lawful.{IsLawful}
use Rattle.emit_spans.specs.declared.span_words.SpanWords.{SpanWords}
use Rattle.emit_spans.specs.Neighbours.{address}
use Rattle.emit_spans.specs.Parts.{extent}
use Rattle.emit_paths_laws.specs.Guest.{is_register_jump}
use Rattle.emit_spans_laws.specs.Resuming.{GoesOut, IsOutside, jumps_by_register}
use Rattle.emit_spans_laws.proofs.SpanCodeLaws.Joining.{Reaches}

-- a branch goes to its target or behind its slot, a jump to its target, and one by a register anywhere
abbrev pub GoalIs : Inst → ℕ → ℕ → Type 0
GoalIs (inst.BranchSign name rs imm) at pc = (pc ≡ branch_target at imm) ⊎ (pc ≡ behind_slot at)
GoalIs (inst.BranchEqual name rs rt imm) at pc = (pc ≡ branch_target at imm) ⊎ (pc ≡ behind_slot at)
GoalIs (inst.BranchZero name rs imm) at pc = (pc ≡ branch_target at imm) ⊎ (pc ≡ behind_slot at)
GoalIs (inst.Jump name index) at pc = pc ≡ jump_target at index
GoalIs (inst.JumpRegister rs) at pc = ⊤
GoalIs (inst.JumpAndLinkRegister rs rd) at pc = ⊤
GoalIs _ at pc = ⊥

-- where the unit of a word at an address leads: where the slot faults, a likely branch alone leads on
abbrev pub LeadsTo : Word → ℕ → ℕ → Type 0
LeadsTo (units.Plain i) at pc = pc ≡ next_address at
LeadsTo (units.Branch i slot) at pc = GoalIs i at pc
LeadsTo (units.SlotMissing i) at pc = (is_likely i ≡ true) × (pc ≡ behind_slot at)
LeadsTo (units.SlotIsBranch i word) at pc = (is_likely i ≡ true) × (pc ≡ behind_slot at)
LeadsTo units.Call at pc = pc ≡ next_address at
LeadsTo (units.Trap kind value) at pc = ⊥

-- each state that a turn leads to stands at an address of which something is said
abbrev pub Leads : (ℕ → Type 0) → Turn State → Type 0
Leads P turn = Reaches (λ (t : State). P t.pc) turn

-- ---- what is no branch leads to the pending target, or to the next word

module _ (s : State) (P : ℕ → Type 0) (goes : P (unwrap_or s.pending ((s.pc + 4) % 2 ^ 32))) where
  call-leads : (leaving : Bool) → Leads P (if leaving then leaves (question_of s) (exit (signed_of (register s 4))) else asks (question_of s)
      (after_call s))
  call-leads true = tt
  call-leads false = λ a. goes

  effect-leads : (e : Effect) → IsNoBranch e → Keeps s e → Leads P (done_by e s)
  effect-leads (goes_on t) plain kept = subst P (sym (ap (λ (u : State). unwrap_or u.pending ((u.pc + 4) % 2 ^ 32)) kept)) goes
  effect-leads (branches t goal) plain kept = absurd plain
  effect-leads (skips_slot t) plain kept = absurd plain
  effect-leads (faults kind value) plain kept = tt
  effect-leads calls plain kept = call-leads (register s 2 == 1)

  pub done-leads : (i : Inst) → is_branch i ≡ false → Leads P (done i s)
  done-leads i plain = effect-leads (effect i (word_of i) s) (no_branch i (word_of i) s plain) (Keeps-effect i (word_of i) s)

-- ---- branches

sign-pc : (name : BranchSignName) (x : State) → (sign_linked name x).pc ≡ x.pc
sign-pc Bltz x = refl
sign-pc Bgez x = refl
sign-pc Bltzal x = refl
sign-pc Bgezal x = refl
sign-pc Bltzl x = refl
sign-pc Bgezl x = refl
sign-pc Bltzall x = refl
sign-pc Bgezall x = refl

module _ (x : State) (second : State → Turn State) (P : ℕ → Type 0) where
  branch-leads : (likely taken : Bool) (t : State) (imm : ℕ) → t.pc ≡ x.pc
      → ((target : ℕ) → (target ≡ branch_target x.pc imm) ⊎ (target ≡ behind_slot x.pc) → Leads P (second (into_slot t target)))
      → (likely ≡ true → P (behind_slot x.pc)) → Leads P (last_turn (then_slot (done_by (branch_effect likely taken x t imm) x) second))
  branch-leads false true t imm same into passes = into (branch_target x.pc imm) (inl refl)
  branch-leads false false t imm same into passes = into (behind_slot x.pc) (inr refl)
  branch-leads true true t imm same into passes = into (branch_target x.pc imm) (inl refl)
  branch-leads true false t imm same into passes = subst P (sym (ap (λ pc. (pc + 8) % 2 ^ 32) same)) (passes refl)

  transfer-leads : (i : Inst) → is_branch i ≡ true
      → ((t : State) (target : ℕ) → GoalIs i x.pc target → Leads P (second (into_slot t target)))
      → (is_likely i ≡ true → P (behind_slot x.pc)) → Leads P (last_turn (then_slot (done i x) second))
  transfer-leads (inst.BranchEqual name rs rt imm) one into passes =
      branch-leads (equal_likely name) (equal_taken name (register x rs) (register x rt)) x imm refl (into x) passes
  transfer-leads (inst.BranchZero name rs imm) one into passes =
      branch-leads (zero_likely name) (zero_taken name (signed_of (register x rs))) x imm refl (into x) passes
  transfer-leads (inst.BranchSign name rs imm) one into passes =
      branch-leads (sign_likely name) (sign_taken name (signed_of (register x rs))) (sign_linked name x) imm (sign-pc name x)
      (into (sign_linked name x)) passes
  transfer-leads (inst.Jump name index) one into passes = into (jump_linked name x) (jump_target x.pc index) refl
  transfer-leads (inst.JumpRegister rs) one into passes = into x (register x rs) tt
  transfer-leads (inst.JumpAndLinkRegister rs rd) one into passes = into (with_return_link x rd) (register x rs) tt
  transfer-leads _ one into passes = absurd (true≢false (sym one))

likely-goal : (i : Inst) (at : ℕ) → is_likely i ≡ true → GoalIs i at (behind_slot at)
likely-goal (inst.BranchSign name rs imm) at likely = inr refl
likely-goal (inst.BranchEqual name rs rt imm) at likely = inr refl
likely-goal (inst.BranchZero name rs imm) at likely = inr refl
likely-goal _ at likely = absurd (true≢false (sym likely))

pub unit-leads : (unit : Word) (x : State) → IsLawful unit → x.pending ≡ None
    → Reaches (λ (t : State). LeadsTo unit x.pc t.pc) (last_turn (unit_turns unit x))
unit-leads (units.Plain i) x is free =
    done-leads x (λ pc. pc ≡ next_address x.pc) (ap (λ p. unwrap_or p ((x.pc + 4) % 2 ^ 32)) free) i is.0.is_none
unit-leads units.Call x is free =
    done-leads x (λ pc. pc ≡ next_address x.pc) (ap (λ p. unwrap_or p ((x.pc + 4) % 2 ^ 32)) free) (inst.Syscall 0) refl
unit-leads (units.Trap kind value) x is free = tt
unit-leads (units.Branch i slot) x is free =
    transfer-leads x (done slot) (GoalIs i x.pc) i is.0.is_one
    (λ t target goal. done-leads (into_slot t target) (GoalIs i x.pc) goal slot is.1.is_none)
    (likely-goal i x.pc)
unit-leads (units.SlotMissing i) x is free =
    transfer-leads x (λ s. faulted s fetch_fault s.pc) (λ pc. (is_likely i ≡ true) × (pc ≡ behind_slot x.pc)) i is.is_one (λ t target goal. tt)
    (λ likely. (likely, refl))
unit-leads (units.SlotIsBranch i word) x is free =
    transfer-leads x (λ s. faulted s branch_in_slot_fault word) (λ pc. (is_likely i ≡ true) × (pc ≡ behind_slot x.pc)) i is.0.is_one
    (λ t target goal. tt) (λ likely. (likely, refl))

-- ---- where a unit leads that does not go where a register says, the words are aligned as its own

module _ (start at pc : ℕ) (aligned : start % 4 ≡ 0) (alike : at % 4 ≡ start % 4) where
  past-aligned : pc ≡ behind_slot at → pc % 4 ≡ 0
  past-aligned is = omega (arith, aligned, alike, is)

  next-aligned : pc ≡ next_address at → pc % 4 ≡ 0
  next-aligned is = omega (arith, aligned, alike, is)

  branch-aligned : (imm : ℕ) → (pc ≡ branch_target at imm) ⊎ (pc ≡ behind_slot at) → pc % 4 ≡ 0
  branch-aligned imm (inl is) = omega (arith, aligned, alike, is)
  branch-aligned imm (inr is) = past-aligned is

  goal-aligned : (i : Inst) → GoalIs i at pc → (is_register_jump i ≡ true) ⊎ (pc % 4 ≡ 0)
  goal-aligned (inst.BranchSign name rs imm) goal = inr (branch-aligned imm goal)
  goal-aligned (inst.BranchEqual name rs rt imm) goal = inr (branch-aligned imm goal)
  goal-aligned (inst.BranchZero name rs imm) goal = inr (branch-aligned imm goal)
  goal-aligned (inst.Jump name index) goal = inr (omega (arith, goal))
  goal-aligned (inst.JumpRegister rs) goal = inl refl
  goal-aligned (inst.JumpAndLinkRegister rs rd) goal = inl refl
  goal-aligned _ goal = absurd goal

  pub unit-aligned : (unit : Word) → LeadsTo unit at pc → (jumps_by_register unit ≡ true) ⊎ (pc % 4 ≡ 0)
  unit-aligned (units.Plain i) leads = inr (next-aligned leads)
  unit-aligned (units.Branch i slot) leads = goal-aligned i leads
  unit-aligned (units.SlotMissing i) leads = inr (past-aligned leads.1)
  unit-aligned (units.SlotIsBranch i word) leads = inr (past-aligned leads.1)
  unit-aligned units.Call leads = inr (next-aligned leads)
  unit-aligned (units.Trap kind value) leads = absurd leads

-- an address at which no word of the span stands, though it is aligned as they are
module _ (span : SpanWords) (pc : ℕ) where
  outside : span.start % 4 ≡ 0 → pc % 4 ≡ 0 → has (extent span) pc ≡ false → IsOutside span pc
  outside aligned alike none =
      elim (cases_lt pc (address span span.first)) [
        | inl below ↦ inl below
        | inr above ↦ elim (cases_lt pc (address span span.end)) [
          | inr past ↦ inr (omega (arith, past))
          | inl before ↦
              let low : nat_le (address span span.first) pc ≡ true = le-leb (address span span.first) pc (omega (arith, above)) in
              let high : nat_lt pc (address span span.end) ≡ true = lt-ltb pc (address span span.end) before in
              let rest : (pc % 4 == address span span.first % 4) ≡ true = eq-eqb (pc % 4) (address span span.first % 4) (omega (arith, aligned, alike)) in
              absurd (true≢false (sym (and_from (nat_le (address span span.first) pc && nat_lt pc (address span span.end))
              (pc % 4 == address span span.first % 4) (and_from (nat_le (address span span.first) pc) (nat_lt pc (address span span.end)) low high) rest)
              ∙ none))
        ]
      ]

  pub goes-out : (unit : Word) (at : ℕ) → at % 4 ≡ span.start % 4 → LeadsTo unit at pc → has (extent span) pc ≡ false → GoesOut span unit pc
  goes-out unit at alike leads none = λ aligned.
      elim (unit-aligned span.start at pc aligned alike unit leads) [
        | inl jumps ↦ inl jumps
        | inr here ↦ inr (outside aligned here none)
      ]
