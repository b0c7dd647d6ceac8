-- What a run over the system, a source and two sinks did.
use Rattle.std.specs.Prelude.{◌≡◌, ℕ, List, [], ◌++◌, Option, Some, None}
use Rattle.run_definition.specs.Run.{Run, run_of}
use Rattle.run_definition.specs.Turn.{Turn}
use Rattle.run_definition.specs.declared.io_fault.IoFault.{IoFault}
use Rattle.run_definition.specs.declared.outcome.Outcome.{Outcome}
use Rattle.unix_definition.specs.System.{System, with_console}
use Rattle.unix_definition.specs.Unix.{reply}
use Rattle.unix_calls.specs.Held.{Held, system_of}
use Rattle.unix_calls.specs.Drawing.{known}
use Rattle.unix_calls.specs.Arriving.{run_arriving}
use Rattle.unix_calls.specs.Serving.{Parts}
use Rattle.unix_calls.specs.Stages.{ComesTo, StopsRun, Streams, stage_of}

-- The run of at most n turns over a system as it is held: over all that input has left, where that
-- is told, or else over pieces of it, one before each call.
abbrev pub run_over : {S : Type 0} → (S → Turn S) → ℕ → S → Held → Option (List ℕ) → List (List ℕ)
    → Run S System
run_over turn n s unix (Some rest) pieces = run_of turn reply n s (system_of unix rest [] [])
run_over turn n s unix None pieces = run_arriving turn n s (system_of unix [] [] []) pieces

abbrev pub streams : Parts → Streams
streams p = record { input = p.input; out = p.out; err = p.err }

-- A run of the definition ended so, with the machine and the system as they are now; the source
-- lost what the run read or what was read ahead, and the sinks gained what it wrote.
pub record PlaysRun {S : Type 0} (turn : S → Turn S) (run : Run S System) (now : S) (p r : Parts)
    (outcome : Outcome) : Type 0 where
  pub comes : ComesTo (stage_of turn run) (streams p) (streams r)
  pub is : run.outcome ≡ outcome
  pub last : run.last ≡ now
  pub system : run.system ≡ system_of r.unix (known r.input.told)
      run.system.console.output run.system.console.error_output

abbrev pub Plays : {S : Type 0} → (S → Turn S) → ℕ → S → S → Parts → Parts → Outcome → Type 0
Plays turn steps s now p r outcome =
    (pieces : List (List ℕ))
    × PlaysRun turn (run_over turn steps s p.unix p.input.told pieces) now p r outcome

-- The outside failed a call of the definition's run, and stopped it there.
abbrev pub Breaks : {S : Type 0} → (S → Turn S) → ℕ → S → Parts → Parts → IoFault → Type 0
Breaks turn steps s p r fault =
    (pieces : List (List ℕ))
    × StopsRun steps (λ n. stage_of turn (run_over turn n s p.unix p.input.told pieces)) fault
    (streams p) (streams r)

-- a system to which these were written before, and a run from there
abbrev pub behind : List ℕ → List ℕ → System → System
behind output error_output s = with_console s
    (record {
      rest = s.console.rest;
      output = output
          ++ s.console.output;
      error_output = error_output ++ s.console.error_output;
    })

abbrev pub run_behind : {S : Type 0} → List ℕ → List ℕ → Run S System → Run S System
run_behind output error_output r = record {
  questions = r.questions;
  outcome = r.outcome;
  last = r.last;
  system = behind output error_output r.system;
}
