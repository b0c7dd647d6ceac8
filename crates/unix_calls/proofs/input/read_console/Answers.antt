use Rattle.std.proofs.Common.{◌≡◌, ℕ, zero, suc, ◌+◌, ◌≤◌, true, refl, arith}
use Rattle.std.proofs.lemmas.Bool.{and_parts, and_from}
use Rattle.run_definition.specs.Memory.{Memory, can_write}
use Rattle.unix_calls.proofs.input.read_console.Goals as goal

-- where many addresses may be written, so may fewer
fewer : (m : Memory) (a n k : ℕ) → k ≤ n → can_write m a n ≡ true → can_write m a k ≡ true
fewer m a n zero less h = refl
fewer m a zero (suc k) less h = absurd (omega arith)
fewer m a (suc n) (suc k) less h =
    let both = and_parts (m.writable a) (can_write m (a + 1) n) h in
    and_from (m.writable a) (can_write m (a + 1) k) both.0 (fewer m (a + 1) n k (omega arith) both.1)

pub read_line-requires : goal.read_line-requires
read_line-requires g c =
    fewer (g.M.View.memory (g.M.View.content c.args.view.now)) c.args.call.now.a1 c.args.call.now.a2 c.min.result (omega arith) c.requires.room
