use Rattle.std.proofs.Common.{◌≡◌, ◌+◌, length, arith}
use Rattle.mips_memory.proofs.PageLemmas.{IsSound-longer}
use Rattle.mips_memory.proofs.memory.GuestMemory.grow.Goals as goal

pub invariant_of-self-2 : goal.invariant_of-self-2
invariant_of-self-2 c =
    let now = c.resize.new.self in
    let old = c.self.inside.bytes in
    let size : length now.items ≡ length old.items + 4096 = omega (arith, c.in_ok-resize.ensures.len, now.ok.0, old.ok.0) in
    IsSound-longer (record { table = c.self.inside.table.items; bytes = old.items }) now.items (omega arith) (omega (arith, size, c.self.invariant.whole)) c.self.invariant
