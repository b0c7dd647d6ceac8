-- Where a delay slot leads: to the target that is pending.
use Rattle.std.proofs.Common.{◌≡◌, ℕ, ◌+◌, ◌%◌, ◌^◌, ◌==◌, Bool, true, false, if◌then◌else◌, Some, unwrap_or, ap, ◌∙◌}
use Rattle.std.specs.Bool.{⊤}
use Rattle.run_definition.specs.Answer.{Answer}
use Rattle.run_definition.specs.Turn.{Turn, moves, ends, leaves, asks, exit}
use Rattle.run_definition.specs.Words.{signed_of}
use Rattle.mips_decode.specs.Encoding.{word_of}
use Rattle.mips_definition.specs.State.{State, register}
use Rattle.mips_definition.specs.Effect.{Effect, goes_on, branches, skips_slot, faults, calls}
use Rattle.mips_definition.specs.Step.{effect, question_of, after_call}
use Rattle.mips_definition.specs.declared.inst.Inst.{Inst}
use Rattle.mips_decode.proofs.Steps.{Keeps, Keeps-effect}
use Rattle.delay_slots.specs.Turns.{done, done_by}
use Rattle.delay_slots.specs.Units.{is_branch}
use Rattle.delay_slots.proofs.TurnLemmas.{IsNoBranch, no_branch}

-- each state that a turn leads to stands there
abbrev pub GoesTo : ℕ → Turn State → Type 0
GoesTo target (moves t) = t.pc ≡ target
GoesTo target (asks q next) = (a : Answer) → (next a).pc ≡ target
GoesTo target (ends e) = ⊤
GoesTo target (leaves q e) = ⊤

module _ (s : State) (target : ℕ) (pending : s.pending ≡ Some target) where
  call-goes : (leaving : Bool) → GoesTo target (if leaving then leaves (question_of s) (exit (signed_of (register s 4))) else asks (question_of s) (after_call s))
  call-goes true = tt
  call-goes false = λ a. ap (λ p. unwrap_or p ((s.pc + 4) % 2 ^ 32)) pending

  effect-goes : (e : Effect) → IsNoBranch e → Keeps s e → GoesTo target (done_by e s)
  effect-goes (goes_on t) plain kept =
      ap (λ (u : State). unwrap_or u.pending ((u.pc + 4) % 2 ^ 32)) kept ∙ ap (λ p. unwrap_or p ((s.pc + 4) % 2 ^ 32)) pending
  effect-goes (branches t goal) plain kept = absurd plain
  effect-goes (skips_slot t) plain kept = absurd plain
  effect-goes (faults kind value) plain kept = tt
  effect-goes calls plain kept = call-goes (register s 2 == 1)

  pub slot-goes : (i : Inst) → is_branch i ≡ false → GoesTo target (done i s)
  slot-goes i plain = effect-goes (effect i (word_of i) s) (no_branch i (word_of i) s plain) (Keeps-effect i (word_of i) s)
