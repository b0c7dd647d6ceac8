-- What a machine counts in a run: its turns.
use Rattle.std.specs.Prelude.{◌≡◌, ℕ, zero, suc, ◌+◌, ◌-◌, ◌^◌, ◌<◌, min, Option, Some, None, Result, Ok}
use Rattle.run_definition.specs.Question.{Question}
use Rattle.run_definition.specs.Answer.{Answer}
use Rattle.run_definition.specs.Turn.{Turn}
use Rattle.run_definition.specs.declared.io_fault.IoFault.{IoFault}
use Rattle.run_definition.specs.declared.outcome.Outcome.{Outcome}
use Rattle.run_definition.specs.declared.outcome.Outcome.TheVariants.{Going, Waiting}
use Rattle.nv_events.specs.Serving.{RunsBy}

-- so many more: a count stands still at the greatest u64
abbrev pub counted : ℕ → ℕ → ℕ
counted before n = min (before + n) (2 ^ 64 - 1)

-- the same where a machine tells its count
abbrev pub tells_more : Option ℕ → ℕ → Option ℕ
tells_more (Some before) n = Some (counted before n)
tells_more None n = None

-- After no turn a count is as it was, and after others so many more.
abbrev pub IsCounted : ℕ → Option ℕ → Option ℕ → Type 0
IsCounted zero before now = now ≡ before
IsCounted (suc n) before now = now ≡ tells_more before (suc n)

-- A run that does not reach its bound makes some turns that go on, and one that ends it, which is
-- counted too. If it waits, then after the others.
pub record EndsCounted {S V M : Type 0} (goes : V → Question → Answer → V → Type 0)
    (held fell : V → Question → V → Type 0) (turn : S → Turn S)
    (WaitsAfter : M → Option ℕ → Type 0) (bound : ℕ) (old new : S) (before now : Option ℕ)
    (machine : M) (v w : V) (result : Result Outcome IoFault) : Type 0 where
  pub made : ℕ
  pub within : made < bound
  -- where it stands after these
  pub state : S
  pub server : V
  pub count : Option ℕ
  pub goes_on : RunsBy goes held fell turn made old state v server (Ok Going)
  pub is_counted : IsCounted made before count
  -- and its last turn
  pub last : RunsBy goes held fell turn 1 state new server w result
  pub last_counted : now ≡ tells_more count 1
  pub waits : result ≡ Ok Waiting → WaitsAfter machine count
