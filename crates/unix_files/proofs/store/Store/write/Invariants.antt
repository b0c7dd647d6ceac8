use Rattle.std.proofs.Common.{◌≡◌, ◌-◌, ◌≤◌, length, take}
use Rattle.unix_files.specs.Stored.{file_at, with_file, overwritten}
use Rattle.unix_files.proofs.store.Store.write.Given as goal

abbrev pub invariant-loop-done : goal.invariant-loop-done
invariant-loop-done l = record {
  so_far : l.self ≡ with_file l.fn.self l.n (overwritten (file_at l.fn.self l.n) l.place (take l.done l.bytes));
  within : l.done ≤ length l.bytes;
}

abbrev pub decreases-loop-done : goal.decreases-loop-done
decreases-loop-done l = length l.bytes - l.done
