use Rattle.std.proofs.Common.{◌≡◌, ◌+◌, ◌-◌, ◌≤◌, ◌++◌, length, replicate}
use Rattle.unix_files.specs.Stored.{file_at, with_file}
use Rattle.unix_files.proofs.store.Store.extend.Given as goal

abbrev pub invariant-loop-end : goal.invariant-loop-end
invariant-loop-end l = record {
  extended : l.self ≡ with_file l.fn.self l.n (file_at l.fn.self l.n ++ replicate (l.end - length (file_at l.fn.self l.n)) 0);
  from : length (file_at l.fn.self l.n) ≤ l.end;
  within : l.end ≤ length (file_at l.fn.self l.n) + (l.size - length (file_at l.fn.self l.n));
}

abbrev pub decreases-loop-end : goal.decreases-loop-end
decreases-loop-end l = l.size - l.end
