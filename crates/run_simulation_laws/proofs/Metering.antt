-- A metered guest runs as the guest does, up to its meter.
use Rattle.std.proofs.Common.{◌≡◌, ◌≢◌, ℕ, zero, suc, ◌+◌, ◌<◌, ◌≤◌, List, [], ◌∷◌, Option, Some, None, refl, ap, sym, subst, ◌∙◌, arith}
use Rattle.run_definition.specs.Question.{Question}
use Rattle.run_definition.specs.Answer.{Answer}
use Rattle.run_definition.specs.Turn.{Turn, moves, ends, leaves, asks, End, outcome_of}
use Rattle.run_definition.specs.Run.{Run, stops, asking, run_of}
use Rattle.run_definition.specs.declared.outcome.Outcome.{Outcome}
use Rattle.run_definition.specs.declared.outcome.Outcome.TheVariants.{Exited, Faulted, Trapped, Waiting, Going}
use Rattle.nv_events.proofs.RunLaws.{given, turned, run_of-suc}
use Rattle.run_simulation_laws.specs.Meter.{with_meter, metered, IsMetered}
use Rattle.run_simulation_laws.specs.Runs.{SameRuns}
use Rattle.run_simulation_laws.proofs.Agreement.{agrees_longer, agrees_trans}
use Rattle.run_simulation_laws.proofs.Following.{end_is_over, waiting_is_over}

module _ {S K : Type 0} (turn : S → Turn S) (spent : S → End) (reply : K → Question → Option (Answer × K)) where
  stopped : {T : Type 0} (qs : List Question) (outcome : Outcome) (s : S) (t : T) (k : K) → outcome ≢ Going → IsMetered spent (stops qs outcome s k) (stops qs outcome t k)
  stopped qs outcome s t k over =
      record { questions = refl; system = refl; goes = λ still. absurd (over still); over = λ h. refl }

  asked_first : (q : Question) (r : Run S K) (m : Run (ℕ × S) K) → IsMetered spent r m → IsMetered spent (asking q r) (asking q m)
  asked_first q r m h =
      record { questions = ap (λ qs. q ∷ qs) h.questions; system = h.system; goes = h.goes; over = h.over }

  given_meter : (left : ℕ) (got : Option (Answer × K)) (q : Question) (next : Answer → S) (s : S) (k : K) (go : S → K → Run S K) (on : ℕ × S → K → Run (ℕ × S) K) → ((t : S) (l : K) → IsMetered spent (go t l) (on (left, t) l)) → IsMetered spent (given got q next s k go) (given got q (λ a. (left, next a)) (suc left, s) k on)
  given_meter left None q next s k go on h = stopped (q ∷ []) Waiting s (suc left, s) k waiting_is_over
  given_meter left (Some got) q next s k go on h = asked_first q _ _ (h (next got.0) got.1)

  turned_meter : (left : ℕ) (x : Turn S) (s : S) (k : K) (go : S → K → Run S K) (on : ℕ × S → K → Run (ℕ × S) K) → ((t : S) (l : K) → IsMetered spent (go t l) (on (left, t) l)) → IsMetered spent (turned reply x s k go) (turned reply (with_meter left x) (suc left, s) k on)
  turned_meter left (moves t) s k go on h = h t k
  turned_meter left (ends e) s k go on h = stopped [] (outcome_of e) s (suc left, s) k (end_is_over e)
  turned_meter left (leaves q e) s k go on h = stopped (q ∷ []) (outcome_of e) s (suc left, s) k (end_is_over e)
  turned_meter left (asks q next) s k go on h = given_meter left (reply k q) q next s k go on h

  pub metered_run : (n m : ℕ) (s : S) (k : K) → n < m → IsMetered spent (run_of turn reply n s k) (run_of (metered turn spent) reply m (n, s) k)
  metered_run n zero s k less = absurd (omega arith)
  metered_run zero (suc m) s k less =
      record { questions = refl; system = refl; goes = λ still. refl; over = λ h. absurd (h refl) }
  metered_run (suc n) (suc m) s k less =
      let by = turned_meter n (turn s) s k (run_of turn reply n) (run_of (metered turn spent) reply m) (λ t l. metered_run n m t l (omega arith)) in
      subst (λ r. IsMetered spent r (run_of (metered turn spent) reply (suc m) (suc n, s) k)) (sym (run_of-suc turn reply n s k)) (subst (λ r. IsMetered spent (turned reply (turn s) s k (run_of turn reply n)) r) (sym (run_of-suc (metered turn spent) reply m (suc n, s) k)) by)

  -- a metered run past its meter is over
  is_over_by : (outcome : Outcome) (other : Outcome) (end : End) → (outcome ≡ Going → other ≡ outcome_of end) → (outcome ≢ Going → other ≡ outcome) → other ≢ Going
  is_over_by Going other end spent_so over h = end_is_over end (sym (spent_so refl) ∙ h)
  is_over_by (Exited status) other end spent_so over h =
      let e : Exited status ≡ Going = sym (over (λ x. cc)) ∙ h in cc
  is_over_by (Faulted f) other end spent_so over h =
      let e : Faulted f ≡ Going = sym (over (λ x. cc)) ∙ h in cc
  is_over_by (Trapped c) other end spent_so over h =
      let e : Trapped c ≡ Going = sym (over (λ x. cc)) ∙ h in cc
  is_over_by Waiting other end spent_so over h =
      let e : Waiting ≡ Going = sym (over (λ x. cc)) ∙ h in cc

  pub metered_classes : {J : Type 0} (classes : J → Turn J) (allowance : ℕ → ℕ) (n m : ℕ) (s : S) (j : J) (k : K) → SameRuns (metered turn spent) classes reply allowance (n, s) j k → allowance (n + 1) ≤ m → IsMetered spent (run_of turn reply n s k) (run_of classes reply m j k)
  metered_classes classes allowance n m s j k same room =
      let r = run_of turn reply n s k in
      let meter = metered_run n (n + 1) s k (omega arith) in
      let forth = agrees_trans _ _ _ (same.forth (n + 1)) (agrees_longer classes reply (allowance (n + 1)) m j k room) in
      let over = forth.over (is_over_by r.outcome _ (spent r.last) meter.goes meter.over) in
      record {
        questions = over.0 ∙ meter.questions;
        system = over.2 ∙ meter.system;
        goes = λ still. over.1 ∙ meter.goes still;
        over = λ h. over.1 ∙ meter.over h;
      }
