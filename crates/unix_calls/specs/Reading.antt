-- What a read and a write of the code did, call by call. `does` is the definition's call.
use Rattle.std.specs.Prelude.{◌≡◌, ◌⊎◌, ℕ, ℤ, List, [], ◌++◌, Option, Result, Ok, Err, IsTrue}
use Rattle.std.specs.Io.KnownBytes.{Consumes}
use Rattle.nv_outside.specs.Seen.{FailsIn, Seen, Takes}
use Rattle.run_definition.specs.Memory.{patched}
use Rattle.run_definition.specs.Question.{Room}
use Rattle.run_definition.specs.Answer.{Answer, fits_room, room_place}
use Rattle.unix_definition.specs.Files.{GuestFiles}
use Rattle.unix_definition.specs.declared.opened.Opened.{Opened}
use Rattle.unix_definition.specs.System.{System, system_with_tables}
use Rattle.unix_definition.specs.Asked.{value_only}
use Rattle.unix_calls.specs.Drawing.{AreBytes, known}
use Rattle.unix_calls.specs.Stages.{IsRear}

-- a system with these files, descriptors and rest of input, of which a read gives at most so many bytes
abbrev pub with_input : System → ℕ → GuestFiles → Opened → List ℕ → System
with_input s most files opened rest = record s {
  most = most;
  files = files;
  opened = opened;
  console = record s.console { rest = rest };
}

-- how many bytes a read of input gives at most, files, descriptors, what was read ahead, and what the source tells
pub record Inputs : Type 0 where
  pub most : ℕ
  pub files : GuestFiles
  pub opened : Opened
  pub ahead : List ℕ
  pub rest : Option (List ℕ)

abbrev pub inputs : ℕ → GuestFiles → Opened → List ℕ → Option (List ℕ) → Inputs
inputs most files opened ahead rest = record {
  most = most;
  files = files;
  opened = opened;
  ahead = ahead;
  rest = rest;
}

pub record Reads {C : Type 0} (put_at : C → ℕ → ℕ → C) (does : System → Answer × System)
    (room : Room) (c d : C) (old new : Inputs) (value : ℤ) : Type 0 where
  pub got : List ℕ
  pub patch : List ℕ
  pub consumed : Consumes old.rest new.rest got
  pub fits : IsTrue (fits_room patch room)
  pub after : d ≡ patched put_at c (room_place room) patch
  pub is : (s : System)
      → does (with_input s old.most old.files old.opened (old.ahead ++ (got ++ known new.rest)))
      ≡ (
        record { value = value; patch = patch },
        with_input s old.most new.files new.opened (new.ahead ++ known new.rest),
      )

-- in this state the call is answered, and of these bytes, with which input ends, it leaves a rear
-- part: it reads all that stands before them
pub record ReadsUpTo (does : System → Answer × System) (room : Room) (s : System)
    (behind : List ℕ) : Type 0 where
  pub fits : IsTrue (fits_room (does s).0.patch room)
  pub leaves : IsRear (does s).1.console.rest behind

-- The source failed: what it lost, and all that was read ahead, the call reads, whatever follows.
pub record ReadsPart {C : Type 0} (put_at : C → ℕ → ℕ → C) (does : System → Answer × System)
    (room : Room) (c d : C) (old new : Inputs) : Type 0 where
  pub got : List ℕ
  pub patch : List ℕ
  pub consumed : Consumes old.rest new.rest got
  pub fits : IsTrue (fits_room patch room)
  pub after : d ≡ patched put_at c (room_place room) patch
  pub files : new.files ≡ old.files
  pub opened : new.opened ≡ old.opened
  pub none : new.ahead ≡ []
  pub reads : (s : System) (behind : List ℕ) → AreBytes behind → ReadsUpTo does room
      (with_input s old.most old.files old.opened (old.ahead ++ (got ++ behind))) behind

abbrev pub ReadGives : {C E : Type 0} → (C → ℕ → ℕ → C) → (System → Answer × System) → Room → C → C
    → Inputs → Inputs → Result ℤ E → Type 0
ReadGives put_at does room c d old new (Ok value) = Reads put_at does room c d old new value
ReadGives put_at does room c d old new (Err e) = ReadsPart put_at does room c d old new

-- a system that has written more
abbrev pub with_written : System → List ℕ → List ℕ → System
with_written s output error_output = record s {
  console = record s.console {
    output = s.console.output ++ output;
    error_output = s.console.error_output ++ error_output;
  };
}

-- files, descriptors, and what is seen of the sinks
pub record Outputs : Type 0 where
  pub files : GuestFiles
  pub opened : Opened
  pub out : Seen (List ℕ)
  pub err : Seen (List ℕ)

abbrev pub outputs : GuestFiles → Opened → Seen (List ℕ) → Seen (List ℕ) → Outputs
outputs files opened out err = record { files = files; opened = opened; out = out; err = err }

pub record Writes (does : System → Answer × System) (old new : Outputs) (value : ℤ) : Type 0 where
  pub output : List ℕ
  pub error_output : List ℕ
  pub wrote : Takes old.out new.out output
  pub wrote_error : Takes old.err new.err error_output
  pub is : (s : System) → does (system_with_tables s old.files old.opened)
      ≡ (value_only value, with_written (system_with_tables s new.files new.opened) output error_output)

-- one sink failed before it had taken all that was to be written to it, and the other was not
-- written to
pub record WritesPart (does : System → Answer × System) (old new : Outputs) : Type 0 where
  pub output : List ℕ
  pub error_output : List ℕ
  pub sinks : (FailsIn old.out new.out output × (new.err ≡ old.err))
      ⊎ ((new.out ≡ old.out) × FailsIn old.err new.err error_output)
  pub files : new.files ≡ old.files
  pub opened : new.opened ≡ old.opened
  pub is : (s : System) → (does (system_with_tables s old.files old.opened)).1.console
      ≡ (with_written s output error_output).console

abbrev pub WriteGives : {E : Type 0} → (System → Answer × System) → Outputs → Outputs → Result ℤ E
    → Type 0
WriteGives does old new (Ok value) = Writes does old new value
WriteGives does old new (Err e) = WritesPart does old new
