-- A machine whose turns are another's, seen so, runs as that does.
use Rattle.std.proofs.Common.{◌≡◌, ℕ, zero, suc, ◌+◌, ◌∷◌, Option, Some, None, refl, ap, sym, subst}
use Rattle.run_definition.specs.Question.{Question}
use Rattle.run_definition.specs.Answer.{Answer}
use Rattle.run_definition.specs.Turn.{Turn, moves, ends, leaves, asks}
use Rattle.run_definition.specs.Run.{Run, run_of}
use Rattle.nv_events.proofs.RunLaws.{given, turned, run_of-suc}
use Rattle.jvm_definition.specs.Step.{jvm_turn}
use Rattle.jvm_run_laws.specs.Relocation.{relocated}
use Rattle.jvm_run_laws.specs.Laws.{RunsAs, RunsDoNotSeePlaces}
use Rattle.jvm_run_laws.proofs.Turns.{seen_turn, turn-far}

module _ {S T K : Type 0} (seen : S → T) (reply : K → Question → Option (Answer × K)) where
  given-as : (got : Option (Answer × K)) (q : Question) (next : Answer → S) (s : S) (k : K) (go : S → K → Run S K) (on : T → K → Run T K) → ((s : S) (k : K) → RunsAs seen (go s k) (on (seen s) k)) → RunsAs seen (given got q next s k go) (given got q (λ a. seen (next a)) (seen s) k on)
  given-as None q next s k go on h =
      record { questions = refl; outcome = refl; system = refl; last = refl }
  given-as (Some got) q next s k go on h =
      let r = h (next got.0) got.1 in
      record {
        questions = ap (λ qs. q ∷ qs) r.questions;
        outcome = r.outcome;
        system = r.system;
        last = r.last;
      }

  turned-as : (x : Turn S) (s : S) (k : K) (go : S → K → Run S K) (on : T → K → Run T K) → ((s : S) (k : K) → RunsAs seen (go s k) (on (seen s) k)) → RunsAs seen (turned reply x s k go) (turned reply (seen_turn seen x) (seen s) k on)
  turned-as (moves t) s k go on h = h t k
  turned-as (ends e) s k go on h =
      record { questions = refl; outcome = refl; system = refl; last = refl }
  turned-as (leaves q e) s k go on h =
      record { questions = refl; outcome = refl; system = refl; last = refl }
  turned-as (asks q next) s k go on h = given-as (reply k q) q next s k go on h

  runs-as : (turn : S → Turn S) (other : T → Turn T) → ((s : S) → other (seen s) ≡ seen_turn seen (turn s)) → (n : ℕ) (s : S) (k : K) → RunsAs seen (run_of turn reply n s k) (run_of other reply n (seen s) k)
  runs-as turn other h zero s k =
      record { questions = refl; outcome = refl; system = refl; last = refl }
  runs-as turn other h (suc n) s k =
      let by = turned-as (turn s) s k (run_of turn reply n) (run_of other reply n) (runs-as turn other h n) in
      let first = subst (λ (x : Turn T). RunsAs seen (turned reply (turn s) s k (run_of turn reply n)) (turned reply x (seen s) k (run_of other reply n))) (sym (h s)) by in
      subst (λ (r : Run S K). RunsAs seen r (run_of other reply (suc n) (seen s) k)) (sym (run_of-suc turn reply n s k))
      (subst (λ (r : Run T K). RunsAs seen (turned reply (turn s) s k (run_of turn reply n)) r) (sym (run_of-suc other reply n (seen s) k)) first)

pub runs-far : {K : Type 0} (reply : K → Question → Option (Answer × K)) → RunsDoNotSeePlaces reply
runs-far reply program words n below s k =
    runs-as (relocated below) reply (jvm_turn program words) (jvm_turn program (below.used + words)) (turn-far below program words) n s k
