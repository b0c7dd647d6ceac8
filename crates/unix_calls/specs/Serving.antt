-- What a call did, between the system's definition and what is seen of the source and the sinks.
-- `does` is the definition's call: the answer and the state after it.
use Rattle.std.specs.Prelude.{◌≡◌, ◌⊎◌, ℕ, ℤ, List, [], ◌++◌, Option, Some, None, Result, Ok, Err, IsTrue}
use Rattle.std.specs.Io.KnownBytes.{Consumes}
use Rattle.nv_outside.specs.declared.failed.Failed.{Failed}
use Rattle.nv_outside.specs.Faults.{Rises}
use Rattle.nv_outside.specs.Seen.{FailsIn, Seen, Takes}
use Rattle.run_definition.specs.declared.io_fault.IoFault.{IoFault}
use Rattle.run_definition.specs.declared.io_fault.IoFault.TheVariants.{ReadFault, WriteFault}
use Rattle.run_definition.specs.Memory.{patched}
use Rattle.run_definition.specs.Question.{Room}
use Rattle.run_definition.specs.Answer.{Answer, fits_room, room_place}
use Rattle.unix_definition.specs.System.{System, Console}
use Rattle.unix_calls.specs.Held.{Held, system_of, with_ahead}
use Rattle.unix_calls.specs.Drawing.{AreBytes, known}
use Rattle.unix_calls.specs.Reading.{ReadsUpTo}

-- What the code holds, and what is seen of the source and of the two sinks.
pub record Parts : Type 0 where
  pub unix : Held
  pub input : Seen (List ℕ)
  pub out : Seen (List ℕ)
  pub err : Seen (List ℕ)

abbrev pub parts : Held → Seen (List ℕ) → Seen (List ℕ) → Seen (List ℕ) → Parts
parts held input out err = record { unix = held; input = input; out = out; err = err }

-- The state of the system, where the source and both sinks tell theirs.
abbrev pub told_by : Held → Option (List ℕ) → Option (List ℕ) → Option (List ℕ) → Option System
told_by held None output error_output = None
told_by held (Some rest) None error_output = None
told_by held (Some rest) (Some output) None = None
told_by held (Some rest) (Some output) (Some error_output) =
    Some (system_of held rest output error_output)

-- A call was answered and no part failed: the source lost `got`, the sinks gained what the
-- definition writes, and the answer and what is held then are the definition's, whatever was
-- written before. The rest of input is what was read ahead, `got`, and what the source then tells.
pub record Goes (does : System → Answer × System) (room : Room) (p : Parts) (a : Answer) (r : Parts)
    : Type 0 where
  pub got : List ℕ
  pub output : List ℕ
  pub error_output : List ℕ
  pub fits : IsTrue (fits_room a.patch room)
  pub consumed : Consumes p.input.told r.input.told got
  pub sound : r.input.faults ≡ p.input.faults
  pub wrote : Takes p.out r.out output
  pub wrote_error : Takes p.err r.err error_output
  pub is : (before error_before : List ℕ)
      → does (system_of p.unix (got ++ known r.input.told) before error_before)
      ≡ (a, system_of r.unix (known r.input.told) (before ++ output) (error_before ++ error_output))

-- what the definition writes in a call
abbrev pub written_by : (System → Answer × System) → Held → List ℕ → Console
written_by does held rest = (does (system_of held rest [] [])).1.console

-- One sink failed before it had taken all that the definition writes to it, and the other was not
-- written to.
abbrev pub OneFails : Console → Parts → Parts → Type 0
OneFails written p r = (FailsIn p.out r.out written.output × (r.err ≡ p.err))
    ⊎ ((r.out ≡ p.out) × FailsIn p.err r.err written.error_output)

-- The source failed a call, which is call 4, a read: it lost a front part of what the call reads,
-- whatever follows, and nothing was written. Of what is held, only what was read ahead has changed,
-- of which nothing is left.
pub record FellReading (does : System → Answer × System) (number : ℕ) (room : Room)
    (p r : Parts) : Type 0 where
  pub call : number ≡ 4
  pub got : List ℕ
  pub consumed : Consumes p.input.told r.input.told got
  pub reads : (behind before error_before : List ℕ) → AreBytes behind
      → ReadsUpTo does room (system_of p.unix (got ++ behind) before error_before) behind
  pub rises : Rises p.input.faults r.input.faults
  pub out : r.out ≡ p.out
  pub err : r.err ≡ p.err
  pub same : r.unix ≡ with_ahead p.unix []

-- A sink failed a call, which is call 5, a write: nothing was read, and what is held is as before.
pub record FellWriting (does : System → Answer × System) (number : ℕ) (p r : Parts) : Type 0 where
  pub call : number ≡ 5
  pub input : r.input ≡ p.input
  pub sinks : OneFails (written_by does p.unix (known p.input.told)) p r
  pub same : r.unix ≡ p.unix

-- the part that this fault is of failed a call, and no other
abbrev pub Fell : IoFault → (System → Answer × System) → ℕ → Room → Parts → Parts → Type 0
Fell ReadFault does number room p r = FellReading does number room p r
Fell WriteFault does number room p r = FellWriting does number p r

-- What a call gave: an answer, whose bytes the memory then has, or a fault, after which some bytes
-- may stand in the room.
abbrev pub Serves : {C : Type 0} → (C → ℕ → ℕ → C) → (System → Answer × System) → ℕ → Room → Parts
    → Parts → C → C → Result ℤ IoFault → Type 0
Serves put_at does number room p r c d (Ok value) = (patch : List ℕ)
    × Goes does room p (record { value = value; patch = patch }) r
    × (d ≡ patched put_at c (room_place room) patch)
Serves put_at does number room p r c d (Err fault) = Fell fault does number room p r
    × ((patch : List ℕ) × IsTrue (fits_room patch room)
    × (d ≡ patched put_at c (room_place room) patch))

-- an answer as it was, and a failure as this fault
abbrev pub AsFault : IoFault → Result ℤ Failed → Result ℤ IoFault → Type 0
AsFault fault (Ok value) answer = answer ≡ Ok value
AsFault fault (Err e) answer = answer ≡ Err fault

-- the same answer, which is there
abbrev pub AsSome : Result ℤ IoFault → Result (Option ℤ) IoFault → Type 0
AsSome (Ok value) answer = answer ≡ Ok (Some value)
AsSome (Err fault) answer = answer ≡ Err fault
