-- How a server goes over questions and answers.
use Rattle.std.proofs.Common.{◌≡◌, ℕ, zero, suc, List, [], ◌∷◌, ◌++◌, length, Some, slice_get, refl, subst, arith}
use Rattle.run_definition.specs.Question.{Question}
use Rattle.run_definition.specs.Answer.{Answer}
use Rattle.nv_events.specs.Serving.{Leads}
use Rattle.nv_events.specs.Laws.{LeadsOverBoth}

module _ {V : Type 0} (goes : V → Question → Answer → V → Type 0) where
  pub leads_join : LeadsOverBoth goes
  leads_join u v w [] rs [] more h first next =
      subst (λ (x : V). Leads goes x rs more w) first next
  leads_join u v w (q ∷ qs) rs [] more h first next = absurd (omega arith)
  leads_join u v w [] rs (a ∷ given) more h first next = absurd first
  leads_join u v w (q ∷ qs) rs (a ∷ given) more h first next =
      (first.0, first.1, leads_join first.0 v w qs rs given more (omega arith) first.2 next)

  -- further questions change nothing in what the first ones led to
  pub leads_over : (v w : V) (qs rs : List Question) (given : List Answer) → Leads goes v qs given w → Leads goes v (qs ++ rs) given w
  leads_over v w qs rs [] led = led
  leads_over v w [] rs (a ∷ given) led = absurd led
  leads_over v w (q ∷ qs) rs (a ∷ given) led =
      (led.0, led.1, leads_over led.0 w qs rs given led.2)

pub question_at_end : (qs rs : List Question) (q : Question) (n : ℕ) → length qs ≡ n → slice_get (qs ++ q ∷ rs) n ≡ Some q
question_at_end [] rs q zero h = refl
question_at_end [] rs q (suc n) h = absurd (omega arith)
question_at_end (p ∷ qs) rs q zero h = absurd (omega arith)
question_at_end (p ∷ qs) rs q (suc n) h =
    question_at_end qs rs q n (omega arith)
