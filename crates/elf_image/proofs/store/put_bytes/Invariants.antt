use Rattle.std.proofs.Common.{◌≡◌, ℕ, ◌+◌, ◌-◌, ◌&&◌, nat_le, nat_lt, cond, length, get_or}
use Rattle.elf_image.specs.PageTable.{byte_in}
use Rattle.elf_image.proofs.store.put_bytes.Given as goal

abbrev pub invariant-loop-k : goal.invariant-loop-k
invariant-loop-k l = record {
  len : length l.words ≡ length l.initial.words;
  bytes : (j : ℕ) → byte_in l.words j ≡ cond (nat_le l.first j && nat_lt j (l.first + l.k)) (get_or l.bytes (j - l.first) 0) (byte_in l.initial.words j);
}
