-- Where a run over the system stands, and where the outside may stop it.
use Rattle.std.specs.Prelude.{◌≡◌, ◌⊎◌, ℕ, suc, ◌==◌, ◌<◌, ◌≤◌, if◌then◌else◌, List, [], ◌∷◌, ◌++◌, length, Some, unwrap_or}
use Rattle.std.specs.Io.KnownBytes.{Appends, Consumes}
use Rattle.nv_outside.specs.Faults.{Rises}
use Rattle.nv_outside.specs.Seen.{Seen, Takes}
use Rattle.run_definition.specs.Run.{Run}
use Rattle.run_definition.specs.Turn.{Turn, moves, ends, leaves, asks}
use Rattle.run_definition.specs.declared.io_fault.IoFault.{IoFault}
use Rattle.run_definition.specs.declared.io_fault.IoFault.TheVariants.{ReadFault, WriteFault}
use Rattle.unix_definition.specs.System.{System}
use Rattle.unix_calls.specs.Drawing.{AreBytes}

-- what the next turn of a run does: it makes a call that reads, or one that writes, or something else
pub data Next : Type 0 where
  reads : Next
  writes : Next
  goes_on : Next

abbrev pub next_of : {S : Type 0} → Turn S → Next
next_of (moves t) = goes_on
next_of (ends end) = goes_on
next_of (leaves q end) = goes_on
next_of (asks q next) = if q.number == 4 then reads else if q.number == 5 then writes else goes_on

-- where a run stands after some turns: what is left of its input, what it wrote to output and to
-- error output, and what its next turn does
pub record Stage : Type 0 where
  pub left : List ℕ
  pub output : List ℕ
  pub error_output : List ℕ
  pub next : Next

abbrev pub stage_of : {S : Type 0} → (S → Turn S) → Run S System → Stage
stage_of turn run = record {
  left = run.system.console.rest;
  output = run.system.console.output;
  error_output = run.system.console.error_output;
  next = next_of (turn run.last);
}

-- what is seen of the source of a run and of its two sinks
pub record Streams : Type 0 where
  pub input : Seen (List ℕ)
  pub out : Seen (List ℕ)
  pub err : Seen (List ℕ)

-- ---- a run that was not stopped

-- Input lost what a run read, and at most 4,096 bytes more that were read ahead: this is left of
-- what it had.
pub record LosesRead (old new : Seen (List ℕ)) (left : List ℕ) : Type 0 where
  pub got : List ℕ
  pub ahead : List ℕ
  pub lost : Consumes old.told new.told got
  pub is : left ≡ ahead ++ unwrap_or new.told []
  pub few : length ahead ≤ 4096
  pub sound : new.faults ≡ old.faults

-- a run came to this stage
pub record ComesTo (stage : Stage) (u v : Streams) : Type 0 where
  pub input : LosesRead u.input v.input stage.left
  pub out : Takes u.out v.out stage.output
  pub err : Takes u.err v.err stage.error_output

-- ---- a run that was stopped

-- one list is a rear part of another
abbrev pub IsRear : List ℕ → List ℕ → Type 0
IsRear rear all = (front : List ℕ) × (all ≡ front ++ rear)

-- Input failed in a call that reads: it lost a front part of what that reads, and no more.
pub record LosesPart (old new : Seen (List ℕ)) (before behind : List ℕ) : Type 0 where
  pub got : List ℕ
  pub lost : Consumes old.told new.told got
  -- of what was left before the call, where it tells that, it has a rear part
  pub has : (rest : List ℕ) → old.told ≡ Some rest → IsRear (unwrap_or new.told []) before
  -- and of what it has, bytes as they are, a rear part is left behind the call
  pub leaves : AreBytes (unwrap_or new.told []) → IsRear behind (unwrap_or new.told [])
  pub rises : Rises old.faults new.faults

-- A sink took all of one text, and of a further one, with which all is written, a front part, but
-- not all of it.
pub record FailsBehind (old new : Seen (List ℕ)) (first all : List ℕ) : Type 0 where
  pub part : List ℕ
  pub next : ℕ
  pub rest : List ℕ
  pub is : all ≡ first ++ part ++ next ∷ rest
  pub took : Appends old.told new.told (first ++ part)
  pub rises : Rises old.faults new.faults

abbrev pub OneFailsBehind : Stage → Stage → Streams → Streams → Type 0
OneFailsBehind before behind u v =
    (FailsBehind u.out v.out before.output behind.output × Takes u.err v.err before.error_output)
    ⊎ (Takes u.out v.out before.output
    × FailsBehind u.err v.err before.error_output behind.error_output)

-- Between two stages there is a call that the outside failed: input one that reads, and a sink one
-- that writes. Nothing further was read or written.
abbrev pub FailsCall : IoFault → Stage → Stage → Streams → Streams → Type 0
FailsCall ReadFault before behind u v =
    (before.next ≡ reads) × LosesPart u.input v.input before.left behind.left
    × Takes u.out v.out before.output × Takes u.err v.err before.error_output
FailsCall WriteFault before behind u v =
    (before.next ≡ writes) × LosesRead u.input v.input before.left
    × OneFailsBehind before behind u v

-- A run, which stands so after each number of turns, was stopped in a call of one of its turns.
pub record StopsRun (turns : ℕ) (stage : ℕ → Stage) (fault : IoFault) (u v : Streams) : Type 0 where
  pub made : ℕ
  pub within : made < turns
  pub fails : FailsCall fault (stage made) (stage (suc made)) u v
