-- Runs of safe states.
use Rattle.std.proofs.Common.{◌≢◌, ℕ, zero, suc, Option, Some, None, sym, subst}
use Rattle.run_definition.specs.Question.{Question}
use Rattle.run_definition.specs.Answer.{Answer}
use Rattle.run_definition.specs.Turn.{Turn, moves, ends, leaves, asks, End, exit, «fault», trap, outcome_of}
use Rattle.run_definition.specs.Run.{Run, run_of}
use Rattle.run_definition.specs.declared.outcome.Outcome.TheVariants.{Trapped}
use Rattle.nv_events.proofs.RunLaws.{given, turned, run_of-suc}
use Rattle.jvm_definition.specs.Program.{Program}
use Rattle.jvm_definition.specs.Step.{JvmState, jvm_turn}
use Rattle.jvm_definition.specs.Typing.{AllTyped, IsLinked}
use Rattle.jvm_definition_laws.specs.Safety.{IsSafe}
use Rattle.jvm_definition_laws.proofs.StepLaws.{TurnIsSafe, safe_turn}

-- a run that leaves a safe state, and came to no step that no rule gives
pub record RunIsSafe {K : Type 0} (program : Program) (r : Run JvmState K) : Type 0 where
  pub last : IsSafe program r.last
  pub outcome : r.outcome ≢ Trapped 0

end_outcome : (e : End) → e ≢ trap 0 → outcome_of e ≢ Trapped 0
end_outcome (exit status) h = λ z. cc
end_outcome («fault» f) h = λ z. cc
end_outcome (trap k) h = λ z. h cc

given_safe : {K : Type 0} (program : Program) (got : Option (Answer × K)) (q : Question) (next : Answer → JvmState) (s : JvmState) (k : K) (more : JvmState → K → Run JvmState K) → IsSafe program s → ((a : Answer) → IsSafe program (next a)) → ((t : JvmState) (l : K) → IsSafe program t → RunIsSafe program (more t l)) → RunIsSafe program (given got q next s k more)
given_safe program None q next s k more safe h go = record { last = safe; outcome = λ z. cc }
given_safe program (Some got) q next s k more safe h go =
    let r = go (next got.0) got.1 (h got.0) in record { last = r.last; outcome = r.outcome }

turned_safe : {K : Type 0} (program : Program) (reply : K → Question → Option (Answer × K)) (x : Turn JvmState) (s : JvmState) (k : K) (more : JvmState → K → Run JvmState K) → IsSafe program s → TurnIsSafe program x → ((t : JvmState) (l : K) → IsSafe program t → RunIsSafe program (more t l)) → RunIsSafe program (turned reply x s k more)
turned_safe program reply (moves t) s k more safe h go = go t k h
turned_safe program reply (ends e) s k more safe h go = record { last = safe; outcome = end_outcome e h }
turned_safe program reply (leaves q e) s k more safe h go = record { last = safe; outcome = end_outcome e h }
turned_safe program reply (asks q next) s k more safe h go = given_safe program (reply k q) q next s k more safe h go

pub safe_run : {K : Type 0} (program : Program) (words : ℕ) (reply : K → Question → Option (Answer × K)) → AllTyped program → IsLinked program → (n : ℕ) (s : JvmState) (k : K) → IsSafe program s → RunIsSafe program (run_of (jvm_turn program words) reply n s k)
safe_run program words reply typed linked zero s k safe = record { last = safe; outcome = λ z. cc }
safe_run {K} program words reply typed linked (suc n) s k safe =
    let by_turn = turned_safe program reply (jvm_turn program words s) s k (run_of (jvm_turn program words) reply n) safe (safe_turn program words typed linked s safe) (safe_run program words reply typed linked n) in
    subst (λ (r : Run JvmState K). RunIsSafe program r) (sym (run_of-suc (jvm_turn program words) reply n s k)) by_turn
