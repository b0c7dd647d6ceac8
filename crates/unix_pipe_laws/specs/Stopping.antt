-- What the outside saw of a pipeline that was stopped: exactly what its stages' turns until then do.
use Rattle.std.specs.Prelude.{◌≡◌, ℕ, suc, ◌-◌, List, [], ◌∷◌, ◌++◌, Option, Some, None}
use Rattle.nv_outside.specs.Seen.{Seen, Takes}
use Rattle.run_definition.specs.declared.io_fault.IoFault.{IoFault}
use Rattle.run_definition.specs.declared.io_fault.IoFault.TheVariants.{ReadFault, WriteFault}
use Rattle.unix_calls.specs.Stages.{FailsBehind, LosesPart, LosesRead, Next, next_of, reads, writes}
use Rattle.unix_pipe_laws.specs.Stages.{PipeStage, input_left, output_of}
use Rattle.unix_pipe_laws.specs.Pipelines.{Pipeline, PipeNet, next_turn}
use Rattle.unix_pipe_laws.specs.Turns.{PipeTurn, AllHappen, BringNothing, net_at_start, run_turns}

-- what the next turn of a stage does
abbrev pub next_at : {S : Type 0} → Pipeline S → PipeNet S → ℕ → Next
next_at p net i = next_of (next_turn p net i)

abbrev pub last_stage : {S : Type 0} → Pipeline S → PipeNet S → PipeStage S
last_stage p net = net.stage (p.count - 1)

-- ---- a turn of stage i, from one net to another, that failed

-- The source failed a call of the first stage that reads: it lost a front part of what the call reads, and the sink took what was written
-- before, no more.
pub record FailsReading {S : Type 0} (p : Pipeline S) (now behind : PipeNet S) (i : ℕ)
    (written : PipeNet S → List ℕ) (source source_now sink sink_now : Seen (List ℕ)) : Type 0 where
  pub first : i ≡ 0
  pub call : next_at p now i ≡ reads
  pub input :
      LosesPart source source_now (input_left (now.stage 0)) (input_left (behind.stage 0))
  pub output : Takes sink sink_now (written now)

-- The sink failed a call of the last stage that writes: it took what was written before, and of what the call writes a front part, not all.
pub record FailsWriting {S : Type 0} (p : Pipeline S) (now behind : PipeNet S) (i : ℕ)
    (written : PipeNet S → List ℕ) (source source_now sink sink_now : Seen (List ℕ)) : Type 0 where
  pub last : suc i ≡ p.count
  pub call : next_at p now i ≡ writes
  pub input : LosesRead source source_now (input_left (now.stage 0))
  pub output : FailsBehind sink sink_now (written now) (written behind)

-- There was no memory for what a call of any stage writes: the source lost what was read before, and the sink took what was written.
pub record LacksMemory {S : Type 0} (p : Pipeline S) (now : PipeNet S) (i : ℕ)
    (written : PipeNet S → List ℕ) (source source_now sink sink_now : Seen (List ℕ)) : Type 0 where
  pub call : next_at p now i ≡ writes
  pub input : LosesRead source source_now (input_left (now.stage 0))
  pub output : Takes sink sink_now (written now)

-- the part that this fault is of failed, or, where there is none, memory ran out
abbrev pub FailsTurn : {S : Type 0} → Option IoFault → Pipeline S → PipeNet S → PipeNet S → ℕ
    → (PipeNet S → List ℕ) → Seen (List ℕ) → Seen (List ℕ) → Seen (List ℕ) → Seen (List ℕ)
    → Type 0
FailsTurn (Some ReadFault) p now behind i written source source_now sink sink_now =
    FailsReading p now behind i written source source_now sink sink_now
FailsTurn (Some WriteFault) p now behind i written source source_now sink sink_now =
    FailsWriting p now behind i written source source_now sink sink_now
FailsTurn None p now behind i written source source_now sink sink_now =
    LacksMemory p now i written source source_now sink sink_now

-- ---- a pipeline that was stopped

-- Its stages made turns, each of which could be made, and the next one, which could be made too, failed. Where the source tells what it has
-- left, all of that is there from the first.
pub record StopsInTurn {S : Type 0} (p : Pipeline S) (failure : Option IoFault)
    (source source_now sink sink_now : Seen (List ℕ)) : Type 0 where
  pub made : List PipeTurn
  pub failed : PipeTurn
  pub happen : AllHappen p (net_at_start p) (made ++ failed ∷ [])
  pub quiet : (rest : List ℕ) → source.told ≡ Some rest → BringNothing (made ++ failed ∷ [])
  pub fails : FailsTurn failure p (run_turns p (net_at_start p) made)
      (run_turns p (net_at_start p) (made ++ failed ∷ [])) failed.stage
      (λ net. output_of (last_stage p net)) source source_now sink sink_now
