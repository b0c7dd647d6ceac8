-- The state of the system that answers a program's calls, as plain data.
use Rattle.std.specs.Prelude.{ℕ, List}
use Rattle.unix_definition.specs.Files.{GuestFiles}
use Rattle.run_definition.specs.declared.order.Order.{Order}
use Rattle.unix_definition.specs.declared.opened.Opened.{Opened}
use Rattle.unix_definition.specs.declared.heap.Heap.{Heap}

-- What is left of input, and what was written to output and to error output.
pub record Console : Type 0 where
  pub rest : List ℕ
  pub output : List ℕ
  pub error_output : List ℕ

-- The files, what is open, the console, the heap, the arguments, the moment in seconds since 1970, the order of the bytes of words,
-- which the program's first call names, and how many bytes a read of input gives at most.
pub record System : Type 0 where
  pub files : GuestFiles
  pub opened : Opened
  pub console : Console
  pub heap : Heap
  pub args : List (List ℕ)
  pub moment : ℕ
  pub order : Order
  pub most : ℕ

-- A system with other files and descriptors, and one with another heap.
abbrev pub system_with_tables : System → GuestFiles → Opened → System
system_with_tables s files opened = record s { files = files; opened = opened }

abbrev pub system_with_heap : System → Heap → System
system_with_heap s heap = record s { heap = heap }

abbrev pub with_console : System → Console → System
with_console s console = record s { console = console }

abbrev pub with_order : System → Order → System
with_order s order = record s { order = order }

abbrev pub with_most : System → ℕ → System
with_most s most = record s { most = most }
