-- What is held with other parts.
use Rattle.std.specs.Prelude.{ℕ, List}
use Rattle.run_definition.specs.declared.order.Order.{Order}
use Rattle.unix_definition.specs.Files.{GuestFiles}
use Rattle.unix_definition.specs.declared.opened.Opened.{Opened}
use Rattle.unix_definition.specs.declared.heap.Heap.{Heap}
use Rattle.unix_calls.specs.Held.{Held}

abbrev pub with_tables_held : Held → GuestFiles → Opened → Heap → Held
with_tables_held held files opened heap = record held {
  files = files;
  opened = opened;
  heap = heap;
}

-- the program has begun, with this heap and this order of bytes
abbrev pub with_begun_held : Held → Order → Heap → Held
with_begun_held held order heap = record held { heap = heap; order = order }

abbrev pub with_input_held : Held → GuestFiles → Opened → List ℕ → Held
with_input_held held files opened ahead = record held {
  files = files;
  opened = opened;
  ahead = ahead;
}
