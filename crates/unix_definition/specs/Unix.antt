-- The system: the answer to a question and the state after it, and the state in which a run begins. Calls are those of
-- docs/CALLS.md.
use Rattle.std.specs.Prelude.{ℕ, ◌-◌, ◌%◌, ◌^◌, ◌==◌, true, false, pos, List, [], ◌∷◌, ◌++◌, map, length, replicate, sum, Option, Some, None, if◌then◌else◌}
use Rattle.run_definition.specs.declared.order.Order.TheVariants.{Big}
use Rattle.run_definition.specs.Question.{Question}
use Rattle.run_definition.specs.Answer.{Answer, answer_fits}
use Rattle.unix_definition.specs.Errors.{no_call}
use Rattle.unix_definition.specs.System.{System}
use Rattle.unix_definition.specs.declared.opened.Opened.{Opened}
use Rattle.unix_definition.specs.Files.{Node, blocks_for}
use Rattle.unix_definition.specs.Asked.{value_only, call_refused}
use Rattle.unix_definition.specs.Calls.{begin, open_file, close, read, write, lseek, sbrk, fstat, unlink, dup, ftruncate, rename, isatty}
use Rattle.unix_definition.specs.declared.description.Description.{Description}
use Rattle.unix_definition.specs.declared.target.Target.{Target}
use Rattle.unix_definition.specs.declared.target.Target.TheVariants.{Input, Output, ErrorOutput}

abbrev pub unix : System → Question → Answer × System
unix s q =
    if q.number == 0 then begin s q.a0 q.a1 q.a2 q.a3 q.room
    else if q.number == 2 then open_file s q.text q.a1
    else if q.number == 3 then close s q.a0
    else if q.number == 4 then read s q.a0 q.a2 q.room
    else if q.number == 5 then write s q.a0 q.a2 q.text
    else if q.number == 6 then lseek s q.a0 q.a1 q.a2
    else if q.number == 7 then sbrk s q.a0
    else if q.number == 8 then fstat s q.a0 q.room
    else if q.number == 9 then unlink s q.text
    else if q.number == 10 then dup s q.a0
    else if q.number == 11 then ftruncate s q.a0 q.a1
    else if q.number == 12 then (value_only (pos 1), s)
    else if q.number == 13 then (value_only (pos (s.moment % 2 ^ 31)), s)
    else if q.number == 14 then rename s q.text q.second
    else if q.number == 15 then isatty s q.a0
    else call_refused s no_call

-- The same as a kind of system state. Each answer of a state that a run reaches fits the question of its call.
abbrev pub fitting_answer : Question → Answer × System → Option (Answer × System)
fitting_answer q given = if answer_fits given.0 q then Some given else None

abbrev pub reply : System → Question → Option (Answer × System)
reply s q = fitting_answer q (unix s q)

-- a side of the console as a run finds it open
abbrev pub console_side : Target → Description
console_side Input = record {
  target = Input;
  place = 0;
  may_read = true;
  may_write = false;
  appends = false;
}
console_side target = record {
  target = target;
  place = 0;
  may_read = false;
  may_write = true;
  appends = false;
}

-- a table of so many places, of which the first ones are used
abbrev pub used_table : {A : Type 0} → ℕ → List A → List (Option A)
used_table {A} n used = map (λ x. Some x) used ++ replicate {A = Option A} (n - length used) None

-- descriptors 0, 1 and 2 are input, output and error output
abbrev pub opened_first : Opened
opened_first = record {
  descriptors = used_table 64 (0 ∷ 1 ∷ 2 ∷ []);
  descriptions =
      used_table 64 (console_side Input ∷ console_side Output ∷ console_side ErrorOutput ∷ []);
}

-- a file that a run finds
abbrev pub found_file : List ℕ × List ℕ → Node
found_file (name, bytes) = record { name = Some name; bytes = bytes }

-- the blocks that files need
abbrev pub blocks_needed : List (List ℕ × List ℕ) → ℕ
blocks_needed files = sum (map (λ file. blocks_for (length file.1)) files)

-- the state in which a run begins: so many blocks, the moment, files by name, arguments and input
abbrev pub system_start : ℕ → ℕ → List (List ℕ × List ℕ) → List (List ℕ) → List ℕ → System
system_start blocks moment files args rest = record {
  files = record { nodes = used_table 256 (map found_file files); free = blocks - blocks_needed files };
  opened = opened_first;
  console = record { rest = rest; output = []; error_output = [] };
  heap = record { begun = false; start = 0; end = 0; program_break = 0 };
  args = args;
  moment = moment;
  order = Big;
  most = 2 ^ 32 - 1;
}
