-- A run over servers, of which each has parts and at most one fault, is a run over the parts.
use Rattle.std.proofs.Common.{◌≡◌, List, [], ◌∷◌, Option, Some, Err, ap, subst}
use Rattle.run_definition.specs.Question.{Question}
use Rattle.run_definition.specs.Answer.{Answer}
use Rattle.nv_events.specs.Serving.{Causes, Leads, StopsAt, none_counted}
use Rattle.run_definition.specs.declared.io_fault.IoFault.{IoFault}
use Rattle.run_definition.specs.declared.outcome.Outcome.{Outcome}
use Rattle.unix_definition.specs.Unix.{unix}
use Rattle.unix_calls.specs.Serving.{Fell, Goes, Parts}
use Rattle.unix_calls.specs.Failing.{failed_calls}
use Rattle.unix_calls.proofs.FailLemmas.{fault-is}

-- One call, from parts to parts: answered by the definition, or failed by the outside.
abbrev pub Answers : Parts → Question → Answer → Parts → Type 0
Answers p q a r = Goes (λ s. unix s q) q.room p a r

abbrev pub FailsBy : IoFault → Parts → Question → Parts → Type 0
FailsBy fault p q r = Fell fault (λ s. unix s q) q.number q.room p r

module _ {V : Type 0} (part : V → Parts) (failed : V → Option IoFault) where
  abbrev pub goes : V → Question → Answer → V → Type 0
  goes v q a w = Answers (part v) q a (part w)

  abbrev pub fell : V → Question → V → Type 0
  fell v q w = (fault : IoFault) × (failed w ≡ Some fault) × FailsBy fault (part v) q (part w)

  pub leads-parts : (v w : V) (qs : List Question) (given : List Answer) → Leads goes v qs given w → Leads Answers (part v) qs given (part w)
  leads-parts v w qs [] led = ap part led
  leads-parts v w [] (a ∷ given) led = absurd led
  leads-parts v w (q ∷ qs) (a ∷ given) led = (part led.0, led.1, leads-parts led.0 w qs given led.2)

  pub stops-parts : (fault : IoFault) (v w : V) (qs : List Question) (given : List Answer)
      → Causes {A = Outcome} none_counted (failed_calls (failed w)) (Err fault) → StopsAt goes fell v qs given w
      → StopsAt Answers (FailsBy fault) (part v) qs given (part w)
  stops-parts fault v w qs given causes stop =
      let is = fault-is stop.4.0 fault (subst (λ f. Causes {A = Outcome} none_counted (failed_calls f) (Err fault)) stop.4.1 causes) in
      (stop.0, part stop.1, stop.2, leads-parts v stop.1 qs given stop.3, subst (λ f. FailsBy f (part stop.1) stop.0 (part w)) is stop.4.2)
