-- The tests of a read and of a write.
use Rattle.std.specs.Prelude.{◌≡◌, ℕ, ℤ, ◌<◌, Some, IsTrue, IsSome}
use Rattle.std.specs.Int.Signed.{mag}
use Rattle.run_definition.specs.Memory.{Memory, can_write, bytes_from}
use Rattle.run_definition.specs.Question.{room_at, asked_text_at}
use Rattle.run_definition.specs.Answer.{Answer}
use Rattle.run_definition.specs.declared.call.Call.{Call}
use Rattle.run_definition.specs.declared.text_place.TextPlace.TheVariants.{Counted}
use Rattle.unix_definition.specs.Files.{GuestFiles}
use Rattle.unix_definition.specs.declared.opened.Opened.{Opened}
use Rattle.unix_definition.specs.declared.description.Description.{Description}
use Rattle.unix_definition.specs.System.{System, system_with_tables}
use Rattle.unix_definition.specs.Asked.{value_only, bytes_of_text}
use Rattle.unix_definition.specs.Calls.{read, write, read_target, write_target}
use Rattle.unix_calls.specs.declared.access.Access.{Access}
use Rattle.unix_calls.specs.declared.access.Access.TheVariants.{Answered, Granted}

-- the definition's read and write of a call
abbrev pub read_of : Memory → Call → System → Answer × System
read_of m call s = read s call.a0 call.a2 (room_at m (Some (call.a1, call.a2)))

abbrev pub write_of : Memory → Call → System → Answer × System
write_of m call s = write s call.a0 call.a2 (asked_text_at m (Counted call.a1 call.a2))

-- the call is answered at once, by a number of 32 bits, and changes nothing
pub record IsAnswer (does : System → Answer × System) (opened : Opened) (value : ℤ) : Type 0 where
  pub is : (s : System) (files : GuestFiles) → does (system_with_tables s files opened)
      ≡ (value_only value, system_with_tables s files opened)
  pub small : mag value < 0x80000000

pub record MayReadAt (opened : Opened) (m : Memory) (call : Call) (d : ℕ)
    (description : Description) : Type 0 where
  pub is : (s : System) (files : GuestFiles) → read_of m call (system_with_tables s files opened)
      ≡ read_target (system_with_tables s files opened) d description call.a2 description.target
  pub within : d < 64
  pub few : call.a2 < 0x80000000
  pub room : IsTrue (can_write m call.a1 call.a2)

abbrev pub MayRead : Opened → Memory → Call → Access → Type 0
MayRead opened m call (Answered value) = IsAnswer (read_of m call) opened value
MayRead opened m call (Granted d description) = MayReadAt opened m call d description

pub record MayWriteAt (opened : Opened) (m : Memory) (call : Call) (d : ℕ)
    (description : Description) : Type 0 where
  pub is : (s : System) (files : GuestFiles) → write_of m call (system_with_tables s files opened)
      ≡ write_target (system_with_tables s files opened) d description
      (bytes_of_text (asked_text_at m (Counted call.a1 call.a2))) description.target
  pub within : d < 64
  pub few : call.a2 < 0x80000000
  pub readable : IsSome (bytes_from m call.a1 call.a2)

abbrev pub MayWrite : Opened → Memory → Call → Access → Type 0
MayWrite opened m call (Answered value) = IsAnswer (write_of m call) opened value
MayWrite opened m call (Granted d description) = MayWriteAt opened m call d description
