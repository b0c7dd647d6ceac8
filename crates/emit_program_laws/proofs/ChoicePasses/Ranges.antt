-- Addresses of words, and what the guest does elsewhere.
use Rattle.std.proofs.Common.{◌≡◌, ℕ, ◌+◌, ◌*◌, ◌%◌, ◌==◌, ◌<◌, ◌≤◌, ◌⊎◌, inl, inr, Bool, true, false, if◌then◌else◌, List, length, Option, None, refl, ap, sym, ◌∙◌, arith}
use Rattle.std.proofs.lemmas.Bool.{cases_lt, eqb-true}
use Rattle.std.proofs.lemmas.Option.{none-some, slice_get-get_or}
use Rattle.std.proofs.Math.ListN.{get_or}
use Rattle.run_definition.specs.Turn.{ends, asks, «fault»}
use Rattle.mips_definition.specs.State.{State}
use Rattle.mips_definition.specs.Effect.{fetch_fault, pc_align_fault}
use Rattle.mips_definition.specs.Step.{executed, faulted, instruction_turn, loader_question, after_loader, turn}
use Rattle.delay_slots.specs.Turns.{HasRange}
use Rattle.trampoline_laws.specs.Choosing.{IsWithin}
use Rattle.trampoline_laws.specs.Coming.{stray_fault}
use Rattle.emit_program_laws.specs.Standing.{IsStray}

pub within-or-not : (first end x : ℕ) → IsWithin first end x ⊎ (IsWithin first end x → ⊥)
within-or-not first end x = by_case (cases_lt 0 (x % 4)) (cases_lt x first) (cases_lt x end)
  where
    by_case : (0 < x % 4) ⊎ (x % 4 ≤ 0) → (x < first) ⊎ (first ≤ x) → (x < end) ⊎ (end ≤ x) → IsWithin first end x ⊎ (IsWithin first end x → ⊥)
    by_case (inl a) b c = inr (λ h. omega (arith, a, h.0))
    by_case (inr a) (inl b) c = inr (λ h. omega (arith, b, h.1))
    by_case (inr a) (inr b) (inr c) = inr (λ h. omega (arith, c, h.2))
    by_case (inr a) (inr b) (inl c) = inl (omega (arith, a), b, c)

-- a word of a range can be fetched
pub can-fetch : (code : ℕ → Option ℕ) (start : ℕ) (words : List ℕ) (i : ℕ) → HasRange code start words → i < length words → code (start + 4 * i) ≡ None → ⊥
can-fetch code start words i range less none =
    none-some (get_or words i 0) (sym none ∙ range.there i less ∙ slice_get-get_or words i 0 less)

pub guest-strays : (t : State) → t.begun ≡ true → IsStray t.code t.pc → turn t ≡ ends («fault» (stray_fault t.pc))
guest-strays t begun stray =
    ap (λ b. if b then instruction_turn t else asks (loader_question t) (after_loader t)) begun ∙ by_test (t.pc % 4 == 0) refl
  where
    no-word : IsStray t.code t.pc → t.pc % 4 ≡ 0 → t.code t.pc ≡ None
    no-word (inl apart) low = absurd (apart low)
    no-word (inr none) low = none

    by_test : (b : Bool) → (t.pc % 4 == 0) ≡ b → (if b then executed t (t.code t.pc) else faulted t pc_align_fault t.pc) ≡ ends («fault» (record { kind = if b then fetch_fault else pc_align_fault; pc = t.pc; value = t.pc }))
    by_test true e = ap (executed t) (no-word stray (eqb-true (t.pc % 4) 0 e))
    by_test false e = refl
