-- Where a run waits.
use Rattle.std.proofs.Common.{◌≡◌, ℕ, zero, suc, [], ◌∷◌, Option, Some, None, refl, ap, subst, sym}
use Rattle.run_definition.specs.Question.{Question}
use Rattle.run_definition.specs.Answer.{Answer}
use Rattle.run_definition.specs.Turn.{Turn, moves, ends, leaves, asks}
use Rattle.run_definition.specs.Run.{Run, asking, run_of}
use Rattle.run_definition.specs.declared.outcome.Outcome.TheVariants.{Waiting}
use Rattle.nv_events.proofs.RunLaws.{given, turned, run_of-suc}
use Rattle.nv_events.proofs.Progress.{end_not_waiting}
use Rattle.run_simulation_laws.specs.Runs.{WaitsAt}

module _ {S K : Type 0} (turn : S → Turn S) (reply : K → Question → Option (Answer × K)) where
  -- a question before a run that waits
  asked-before : (q : Question) (r : Run S K) → WaitsAt turn reply r → WaitsAt turn reply (asking q r)
  asked-before q r w = record {
    question = w.question;
    before = q ∷ w.before;
    last_is = ap (λ qs. q ∷ qs) w.last_is;
    next = w.next;
    asks_it = w.asks_it;
    unanswered = w.unanswered;
  }

  given-waits : (got : Option (Answer × K)) (q : Question) (next : Answer → S) (s : S) (k : K) (go : S → K → Run S K) → turn s ≡ asks q next → reply k q ≡ got → ((t : S) (l : K) → (go t l).outcome ≡ Waiting → WaitsAt turn reply (go t l)) → (given got q next s k go).outcome ≡ Waiting → WaitsAt turn reply (given got q next s k go)
  given-waits None q next s k go asks_it none h waits =
      record { question = q; before = []; last_is = refl; next = next; asks_it = asks_it; unanswered = none }
  given-waits (Some got) q next s k go asks_it is h waits =
      asked-before q (go (next got.0) got.1) (h (next got.0) got.1 waits)

  turned-waits : (x : Turn S) (s : S) (k : K) (go : S → K → Run S K) → turn s ≡ x → ((t : S) (l : K) → (go t l).outcome ≡ Waiting → WaitsAt turn reply (go t l)) → (turned reply x s k go).outcome ≡ Waiting → WaitsAt turn reply (turned reply x s k go)
  turned-waits (moves t) s k go is h waits = h t k waits
  turned-waits (ends e) s k go is h waits = absurd (end_not_waiting e waits)
  turned-waits (leaves q e) s k go is h waits = absurd (end_not_waiting e waits)
  turned-waits (asks q next) s k go is h waits = given-waits (reply k q) q next s k go is refl h waits

  pub waits-where : (n : ℕ) (s : S) (k : K) → (run_of turn reply n s k).outcome ≡ Waiting → WaitsAt turn reply (run_of turn reply n s k)
  waits-where zero s k waits = cc
  waits-where (suc n) s k waits =
      let first = run_of-suc turn reply n s k in
      subst (λ (r : Run S K). WaitsAt turn reply r) (sym first)
      (turned-waits (turn s) s k (run_of turn reply n) refl (waits-where n) (subst (λ (r : Run S K). r.outcome ≡ Waiting) first waits))
