-- The answers of a command, and what its end is: an answer, or a stop.
use Rattle.std.specs.Prelude.{ℕ, Bool, true, false, List, [], Result, Ok, Err, string_bytes}
use Rattle.command_deeds.specs.declared.done.Done.{Done}
use Rattle.command_deeds.specs.declared.done.Done.TheVariants as done
use Rattle.command_deeds.specs.declared.ending.Ending.{Ending}
use Rattle.command_deeds.specs.declared.ending.Ending.TheVariants.{NoFile, Refused, Stopped}
use Rattle.command_deeds.specs.declared.stop.Stop.{Stop}
use Rattle.command_deeds.specs.declared.stop.Stop.TheVariants.{ReadFault, WriteFault, ShelfFault, NoMemory}

-- an answer, and the name that was asked for where it is that there is no such file
pub record CommandAnswer : Type 0 where
  pub done : Done
  pub name : List ℕ

abbrev pub says : Done → CommandAnswer
says done = record { done = done; name = [] }

-- there is no file of this name, which a word gives
abbrev pub lacks : ℕ → List ℕ → CommandAnswer
lacks word name = record { done = done.NoInput word; name = name }

abbrev pub done_of_stop : Stop → Done
done_of_stop ReadFault = done.ReadFault
done_of_stop WriteFault = done.WriteFault
done_of_stop ShelfFault = done.ShelfFault
done_of_stop NoMemory = done.NoMemory

-- an answer that says that the call was stopped
abbrev pub is_stop : Done → Bool
is_stop done.Good = false
is_stop (done.Exited status) = false
is_stop (done.Faulted f) = false
is_stop (done.Usage kind) = false
is_stop (done.NoInput word) = false
is_stop (done.ElfRefused f) = false
is_stop (done.ImageRefused f) = false
is_stop (done.ArgsTooLong n) = false
is_stop (done.FilesTooLarge n) = false
is_stop (done.AsmRefused f) = false
is_stop (done.ObjRefused f) = false
is_stop (done.ClassRefused class kind at) = false
is_stop (done.LinkRefused f) = false
is_stop (done.VerifyRefused f) = false
is_stop (done.FrameRefused f) = false
is_stop (done.FramesTooLarge class bytes) = false
is_stop (done.Piped stages) = false
is_stop (done.Trapped k) = false
is_stop done.Spent = false
is_stop done.ReadFault = true
is_stop done.WriteFault = true
is_stop done.ShelfFault = true
is_stop done.NoMemory = true

-- what an early end is: an answer or a stop
abbrev pub end_of : Ending → Result CommandAnswer Stop
end_of (NoFile word name) = Ok (lacks word (string_bytes name))
end_of (Refused done) = Ok (says done)
end_of (Stopped stop) = Err stop

-- what any end is
abbrev pub ended : Result Done Ending → Result CommandAnswer Stop
ended (Ok done) = Ok (says done)
ended (Err ending) = end_of ending

-- the answer that is given in the end
abbrev pub final : Result CommandAnswer Stop → CommandAnswer
final (Ok answer) = answer
final (Err stop) = says (done_of_stop stop)
