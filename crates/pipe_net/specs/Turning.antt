-- What a turn of a stage does to its net.
use Rattle.std.specs.Prelude.{◌≡◌, ◌≢◌, ◌⊎◌, ◌≤◌, ◌<◌, ◌+◌, ◌-◌, ℕ, suc, true, false, List, [], ◌∷◌, ◌++◌, length, map, Option, Some, None, Result, Ok, Err, slice_get}
use Rattle.std.specs.Io.KnownBytes.{Appends, Consumes}
use Rattle.nv_outside.specs.Faults.{Rises}
use Rattle.nv_outside.specs.Seen.{Seen}
use Rattle.run_definition.specs.declared.io_fault.IoFault.{IoFault}
use Rattle.run_definition.specs.declared.io_fault.IoFault.TheVariants.{ReadFault, WriteFault}
use Rattle.run_definition.specs.declared.outcome.Outcome.{Outcome}
use Rattle.unix_calls.specs.Drawing.{known}
use Rattle.jvm_definition.specs.Step.{Loaded}
use Rattle.unix_pipe_laws.specs.Pipelines.{Pipeline, PipeNet, is_over_at, stands_ready}
use Rattle.unix_pipe_laws.specs.Turns.{PipeTurn, AllHappen, BringNothing, gained, run_turns}
use Rattle.unix_pipe_laws.specs.Stopping.{FailsTurn, last_stage}
use Rattle.jvm_machine.specs.Counting.{count_of}
use Rattle.pipe_net.specs.declared.net.Net.{Net}
use Rattle.pipe_net.specs.declared.net_fault.NetFault.{NetFault}
use Rattle.pipe_net.specs.declared.net_fault.NetFault.TheVariants.{Io, NoMemory}
use Rattle.pipe_net.specs.declared.stage.Stage.{Stage}
use Rattle.pipe_net.specs.declared.turn.Turn.{Turn}
use Rattle.pipe_net.specs.declared.turn.Turn.TheVariants.{Ran, Over, Blocked}
use Rattle.pipe_net.specs.Showing.{Shows}

-- ---- the counts of the outside

-- the counts of both parts of the outside are as they were
abbrev pub SameFaults : Seen (List ℕ) → Seen (List ℕ) → Seen (List ℕ) → Seen (List ℕ) → Type 0
SameFaults source source_now sink sink_now =
    (source_now.faults ≡ source.faults) × (sink_now.faults ≡ sink.faults)

-- A fault of the source or the sink comes only where its count rose, and no other; a turn and want of memory leave both as they were.
abbrev pub CountsFaults : Seen (List ℕ) → Seen (List ℕ) → Seen (List ℕ) → Seen (List ℕ)
    → Result Turn NetFault → Type 0
CountsFaults source source_now sink sink_now (Ok turn) = SameFaults source source_now sink sink_now
CountsFaults source source_now sink sink_now (Err (Io ReadFault)) =
    Rises source.faults source_now.faults × (sink_now.faults ≡ sink.faults)
CountsFaults source source_now sink sink_now (Err (Io WriteFault)) =
    (source_now.faults ≡ source.faults) × Rises sink.faults sink_now.faults
CountsFaults source source_now sink sink_now (Err NoMemory) =
    SameFaults source source_now sink sink_now

-- ---- how many instructions are left

-- how many the stages may still execute
abbrev pub left_of : ℕ → List Stage → ℕ
left_of bound [] = 0
left_of bound (x ∷ stages) = (bound - count_of x.jvm) + left_of bound stages

abbrev pub turns_left : Net → ℕ
turns_left net = left_of net.bound net.stages.items

-- a turn lowers it by as many as it made
abbrev pub LeavesTurns : ℕ → ℕ → Result Turn NetFault → Type 0
LeavesTurns old now (Ok (Ran k)) = old ≡ now + k
LeavesTurns old now (Ok Over) = now ≡ old
LeavesTurns old now (Ok Blocked) = now ≡ old
LeavesTurns old now (Err fault) = Unit {0}

-- ---- a turn that was made whole

-- the model's turns are all of one stage
abbrev pub AreOf : ℕ → List PipeTurn → Type 0
AreOf i [] = Unit {0}
AreOf i (t ∷ turns) = (t.stage ≡ i) × AreOf i turns

-- What a turn says of a stage, where it made so many turns of the model and this is the model behind them. Each of them could be made: before
-- it the stage was not over, and stood before no call that is not ready. So with Ran the number is the least of all that are named.
abbrev pub ComesTo : Pipeline Loaded → PipeNet Loaded → ℕ → ℕ → ℕ → Turn → Type 0
ComesTo p now i m n (Ran k) = (n ≡ k) × (1 ≤ k) × (k ≤ m)
    × ((k ≡ m) ⊎ ((is_over_at p now i ≡ true) ⊎ (stands_ready p now i ≡ false)))
ComesTo p now i m n Over = (n ≡ 0) × (is_over_at p now i ≡ true)
ComesTo p now i m n Blocked =
    (n ≡ 0) × (is_over_at p now i ≡ false) × (stands_ready p now i ≡ false)

-- the source lost a front part of what it had, and nothing to another stage than the first
pub record DrawsInput (i : ℕ) (source source_now : Seen (List ℕ)) : Type 0 where
  pub got : List ℕ
  pub first : Consumes source.told source_now.told got
  pub others : i ≢ 0 → source_now.told ≡ source.told

-- the sink took what the last stage wrote, and nothing of another one
pub record TakesOutput (p : Pipeline Loaded) (model now : PipeNet Loaded) (i : ℕ)
    (sink sink_now : Seen (List ℕ)) : Type 0 where
  pub last : suc i ≡ p.count
      → Appends sink.told sink_now.told (gained (model.stage i) (now.stage i))
  pub others : suc i ≢ p.count → sink_now.told ≡ sink.told

pub record MakesTurns (p : Pipeline Loaded) (model : PipeNet Loaded) (i m : ℕ) (turn : Turn)
    (new : Net) (source source_now sink sink_now : Seen (List ℕ)) : Type 0 where
  pub turns : List PipeTurn
  pub of_stage : AreOf i turns
  pub happen : AllHappen p model turns
  pub comes : ComesTo p (run_turns p model turns) i m (length turns) turn
  pub shows : Shows new (known source_now.told) p (run_turns p model turns)
  pub draws : DrawsInput i source source_now
  pub takes : TakesOutput p model (run_turns p model turns) i sink sink_now
  -- where the source tells its rest, all of it is there from the first
  pub told : (rest : List ℕ) → source.told ≡ Some rest → BringNothing turns

-- ---- a turn that failed

-- how each stage ended, and what it wrote to error output
abbrev pub outcomes_of : Net → List Outcome
outcomes_of net = map (λ x. x.outcome) net.stages.items

abbrev pub errors_of : Net → List (List ℕ)
errors_of net = map (λ x. x.errors.bytes.items) net.stages.items

-- a front part of these bytes
pub record IsPartOf (part all : List ℕ) : Type 0 where
  pub rest : List ℕ
  pub is : all ≡ part ++ rest

-- the fault of the outside, where it is one
abbrev pub outside_fault : NetFault → Option IoFault
outside_fault (Io fault) = Some fault
outside_fault NoMemory = None

-- These turns of the model were made, and stay made; one more could be made, and failed. The source lost and the sink took what the former do, and
-- of the latter only what was done of it.
pub record StopsIn (p : Pipeline Loaded) (model : PipeNet Loaded) (i m : ℕ) (fault : NetFault)
    (old new : Net) (source source_now sink sink_now : Seen (List ℕ)) : Type 0 where
  pub made : List PipeTurn
  pub failed : PipeTurn
  pub of_stage : AreOf i (made ++ failed ∷ [])
  pub happen : AllHappen p model (made ++ failed ∷ [])
  pub few : length made < m
  pub fails : FailsTurn (outside_fault fault) p (run_turns p model made)
      (run_turns p model (made ++ failed ∷ [])) i
      (λ net. gained (last_stage p model) (last_stage p net)) source source_now sink sink_now
  pub draws : DrawsInput i source source_now
  pub others : suc i ≢ p.count → sink_now.told ≡ sink.told
  -- where the source tells its rest, all of it is there from the first
  pub told : (rest : List ℕ) → source.told ≡ Some rest → BringNothing (made ++ failed ∷ [])
  -- no stage ended, and error output of the stage has what was written to it
  pub outcomes : outcomes_of new ≡ outcomes_of old
  pub errors : (j : ℕ) → j ≢ i → slice_get (errors_of new) j ≡ slice_get (errors_of old) j
  pub own_errors : (bytes : List ℕ) → slice_get (errors_of new) i ≡ Some bytes
      → IsPartOf ((run_turns p model made).stage i).system.console.error_output bytes

abbrev pub TurnGives : Pipeline Loaded → PipeNet Loaded → ℕ → ℕ → Net → Net → Seen (List ℕ)
    → Seen (List ℕ) → Seen (List ℕ) → Seen (List ℕ) → Result Turn NetFault → Type 0
TurnGives p model i m old new source source_now sink sink_now (Ok turn) =
    MakesTurns p model i m turn new source source_now sink sink_now
TurnGives p model i m old new source source_now sink sink_now (Err fault) =
    StopsIn p model i m fault old new source source_now sink sink_now
