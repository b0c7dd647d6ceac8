-- What a run over servers did, of which each has parts and at most one fault.
use Rattle.std.proofs.Common.{◌≡◌, ◌≢◌, ◌≤◌, ℕ, Option, None, Result, Ok, Err, ap, length, subst}
use Rattle.std.specs.Prelude.{IfErr, IfOk}
use Rattle.nv_events.specs.Serving.{Causes, RunsBy}
use Rattle.run_definition.specs.Question.{Question}
use Rattle.run_definition.specs.Turn.{Turn}
use Rattle.run_definition.specs.declared.io_fault.IoFault.{IoFault}
use Rattle.run_definition.specs.declared.outcome.Outcome.{Outcome}
use Rattle.run_definition.specs.declared.outcome.Outcome.TheVariants.{Waiting}
use Rattle.unix_calls.specs.Failing.{failed_calls}
use Rattle.unix_calls.specs.Playing.{Breaks, Plays}
use Rattle.unix_calls.specs.Serving.{Parts}
use Rattle.unix_calls.proofs.BreakLemmas.{breaks}
use Rattle.unix_calls.proofs.LeadsLemmas.{fell, goes, leads-parts, stops-parts}
use Rattle.unix_calls.proofs.PlayLemmas.{plays}

module _ {V S : Type 0} (part : V → Parts) (failed : V → Option IoFault) (turn : S → Turn S) (n : ℕ) (old new : S) (v w : V) where
  abbrev pub JoinedRuns : Result Outcome IoFault → Type 0
  JoinedRuns result = RunsBy (goes part failed) (λ (x : V) (q : Question) (y : V). ⊥) (fell part failed) turn n old new v w result

  pub run-plays : (result : Result Outcome IoFault) → result ≢ Ok Waiting → JoinedRuns result → length (part w).unix.ahead ≤ 4096
      → IfOk result (λ outcome. Plays turn n old new (part v) (part w) outcome)
  run-plays (Ok o) ends runs few =
      let over = runs.1 in
      let on : o ≢ Waiting = λ h. ends (ap Ok h) in
      plays turn n old new (part v) (part w) o runs.0 over.outcome over.last on over.used (leads-parts part failed v w _ runs.0 (over.leads on)) few
  run-plays (Err fault) ends runs few = tt

  pub run-breaks : (result : Result Outcome IoFault) → failed v ≡ None → Causes (failed_calls (failed v)) (failed_calls (failed w)) result
      → JoinedRuns result → length (part w).unix.ahead ≤ 4096 → IfErr result (λ fault. Breaks turn n old (part v) (part w) fault)
  run-breaks (Ok o) sound causes runs few = tt
  run-breaks (Err fault) sound causes runs few =
      let over = runs.1 in
      breaks turn n old fault (part v) (part w) runs.0 over.outcome over.used
      (stops-parts part failed fault v w _ runs.0
      (subst (λ f. Causes {A = Outcome} (failed_calls f) (failed_calls (failed w)) (Err fault)) sound causes) over.falls) few
