-- One turn of a machine over a server, from what the machine did: it moved on or ended without a call, or passed on what `serve` gave.
use Rattle.std.proofs.Common.{◌≡◌, ℕ, ℤ, List, Some, None, Ok, Err, sym, subst, refl}
use Rattle.run_definition.specs.Question.{Question}
use Rattle.run_definition.specs.Answer.{Answer, answered}
use Rattle.run_definition.specs.Turn.{Turn, moves, ends, leaves, asks, End, outcome_of}
use Rattle.nv_events.specs.Serving.{Serves, Turns}
use Rattle.run_definition.specs.declared.io_fault.IoFault.{IoFault}
use Rattle.run_definition.specs.declared.outcome.Outcome.TheVariants.{Waiting}

module _ {S V : Type 0} (goes : V → Question → Answer → V → Type 0) (held fell : V → Question → V → Type 0) where
  pub turns_moves : (x : Turn S) (t old new : S) (v : V) → x ≡ moves t → new ≡ t → Turns goes held fell x old new v v (Ok None)
  turns_moves x t old new v e h =
      subst (λ (y : Turn S). Turns goes held fell y old new v v (Ok None)) (sym e) (h, refl)

  pub turns_ends : (x : Turn S) (end : End) (old new : S) (v : V) → x ≡ ends end → new ≡ old → Turns goes held fell x old new v v (Ok (Some (outcome_of end)))
  turns_ends x end old new v e h =
      subst (λ (y : Turn S). Turns goes held fell y old new v v (Ok (Some (outcome_of end)))) (sym e) (refl, h, refl)

  pub turns_leaves : (x : Turn S) (q : Question) (end : End) (old new : S) (v : V) → x ≡ leaves q end → new ≡ old → Turns goes held fell x old new v v (Ok (Some (outcome_of end)))
  turns_leaves x q end old new v e h =
      subst (λ (y : Turn S). Turns goes held fell y old new v v (Ok (Some (outcome_of end)))) (sym e) (refl, h, refl)

  -- an answer, after which the state is the next one by the answer's value and patch
  pub turns_asks : {C : Type 0} (put_at : C → ℕ → ℕ → C) (x : Turn S) (q : Question) (next : Answer → S) (old new : S) (v w : V) (c d : C) (value : ℤ) → x ≡ asks q next → Serves goes held fell put_at q v w c d (Ok (Some value)) → ((patch : List ℕ) → d ≡ answered put_at c q patch → new ≡ next (record { value = value; patch = patch })) → Turns goes held fell x old new v w (Ok None)
  turns_asks put_at x q next old new v w c d value e served h =
      subst (λ (y : Turn S). Turns goes held fell y old new v w (Ok None)) (sym e) (record { value = value; patch = served.0 }, served.1, served.2, h served.0 served.3)

  pub turns_waits : {C : Type 0} (put_at : C → ℕ → ℕ → C) (x : Turn S) (q : Question) (next : Answer → S) (old new : S) (v w : V) (c d : C) → x ≡ asks q next → Serves goes held fell put_at q v w c d (Ok None) → (d ≡ c → new ≡ old) → Turns goes held fell x old new v w (Ok (Some Waiting))
  turns_waits put_at x q next old new v w c d e served h =
      subst (λ (y : Turn S). Turns goes held fell y old new v w (Ok (Some Waiting))) (sym e) (refl, served.0, h served.1)

  pub turns_falls : {C : Type 0} (put_at : C → ℕ → ℕ → C) (x : Turn S) (q : Question) (next : Answer → S) (old new : S) (v w : V) (c d : C) (broke : IoFault) → x ≡ asks q next → Serves goes held fell put_at q v w c d (Err broke) → Turns goes held fell x old new v w (Err broke)
  turns_falls put_at x q next old new v w c d broke e served =
      subst (λ (y : Turn S). Turns goes held fell y old new v w (Err broke)) (sym e) served.0
