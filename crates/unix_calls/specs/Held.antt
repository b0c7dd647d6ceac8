-- What the code holds of the system between calls: all but the console, and the input that was read
-- ahead.
use Rattle.std.specs.Prelude.{ℕ, List, ◌++◌}
use Rattle.run_definition.specs.declared.order.Order.{Order}
use Rattle.unix_definition.specs.Files.{GuestFiles}
use Rattle.unix_definition.specs.declared.opened.Opened.{Opened}
use Rattle.unix_definition.specs.declared.heap.Heap.{Heap}
use Rattle.unix_definition.specs.System.{System}

pub record Held : Type 0 where
  pub files : GuestFiles
  pub blocks : ℕ
  pub opened : Opened
  pub heap : Heap
  pub args : List (List ℕ)
  pub moment : ℕ
  pub order : Order
  pub most : ℕ
  pub ahead : List ℕ

-- The system, where the source of input has this left and these were written. What was read ahead
-- comes first.
abbrev pub system_of : Held → List ℕ → List ℕ → List ℕ → System
system_of held rest output error_output = record {
  files = held.files;
  opened = held.opened;
  console = record { rest = held.ahead ++ rest; output = output; error_output = error_output };
  heap = held.heap;
  args = held.args;
  moment = held.moment;
  order = held.order;
  most = held.most;
}

-- only what was read ahead differs
abbrev pub with_ahead : Held → List ℕ → Held
with_ahead held ahead = record held { ahead = ahead }

-- a system with these files, descriptors and heap, at this moment
abbrev pub with_parts : System → GuestFiles → Opened → Heap → ℕ → System
with_parts s files opened heap moment = record s {
  files = files;
  opened = opened;
  heap = heap;
  moment = moment;
}

-- a read of input gives at most so many bytes
abbrev pub limited : Held → ℕ → Held
limited held most = record held { most = most }

-- only the arguments differ
abbrev pub with_args_held : Held → List (List ℕ) → Held
with_args_held held args = record held { args = args }
