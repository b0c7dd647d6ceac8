-- When runs agree.
use Rattle.std.proofs.Common.{◌≡◌, ℕ, ◌≤◌, List, [], ◌++◌, Option, ap, sym, ◌∙◌, append_assoc}
use Rattle.std.proofs.lemmas.List.{append-nil}
use Rattle.run_definition.specs.Question.{Question}
use Rattle.run_definition.specs.Answer.{Answer}
use Rattle.run_definition.specs.Turn.{Turn}
use Rattle.run_definition.specs.Run.{Run, run_of}
use Rattle.nv_events.specs.Parts.{after}
use Rattle.run_definition.specs.declared.outcome.Outcome.TheVariants.{Going}
use Rattle.nv_events.proofs.RunLaws.{questions_grow, run_of-ended}
use Rattle.run_simulation_laws.specs.Runs.{Agrees}

-- a run that has asked nothing and goes on agrees with each
pub agrees_nothing : {S T K : Type 0} (r : Run S K) (s : Run T K) → r.questions ≡ [] → r.outcome ≡ Going → Agrees r s
agrees_nothing r s e goes = record {
  questions = (s.questions, ap (λ qs. qs ++ s.questions) (sym e));
  over = λ h. absurd (h goes);
}

-- runs that have asked the same and stand the same way
pub agrees_alike : {S T K : Type 0} (r : Run S K) (s : Run T K) → s.questions ≡ r.questions → s.outcome ≡ r.outcome → s.system ≡ r.system → Agrees r s
agrees_alike r s e outcome system = record {
  questions = ([], e ∙ sym (append-nil r.questions));
  over = λ h. (e, outcome, system);
}

pub agrees_trans : {R S T K : Type 0} (r : Run R K) (s : Run S K) (t : Run T K) → Agrees r s → Agrees s t → Agrees r t
agrees_trans r s t first next =
    let a = first.questions in
    let b = next.questions in
    record {
      questions = (a.0 ++ b.0, b.1 ∙ ap (λ qs. qs ++ b.0) a.1 ∙ append_assoc r.questions a.0 b.0);
      over = λ h. let f = first.over h in let n = next.over (λ e. h (sym f.1 ∙ e)) in (n.0 ∙ f.0, n.1 ∙ f.1, n.2 ∙ f.2);
    }

pub agrees_after : {S T K : Type 0} (qs : List Question) (r : Run S K) (s : Run T K) → Agrees r s → Agrees (after qs r) (after qs s)
agrees_after qs r s a = record {
  questions = (a.questions.0, ap (λ rs. qs ++ rs) a.questions.1 ∙ sym (append_assoc qs r.questions a.questions.0));
  over = λ h. let o = a.over h in (ap (λ rs. qs ++ rs) o.0, o.1, o.2);
}

-- a run agrees with each longer run of its machine
pub agrees_longer : {S K : Type 0} (turn : S → Turn S) (reply : K → Question → Option (Answer × K)) (n m : ℕ) (s : S) (k : K) → n ≤ m → Agrees (run_of turn reply n s k) (run_of turn reply m s k)
agrees_longer turn reply n m s k h = record {
  questions = questions_grow turn reply n m s k h;
  over = λ stopped. let e = run_of-ended turn reply n m s k h stopped in (ap (λ r. r.questions) e, ap (λ r. r.outcome) e, ap (λ r. r.system) e);
}
