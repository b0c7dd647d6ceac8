use Rattle.std.proofs.Common.{◌≡◌, ℕ, ◌+◌, drop}
use Rattle.run_definition.specs.Memory.{patched}
use Rattle.unix_system.proofs.guest.put_bytes.Given as goal

abbrev pub invariant-loop-i : goal.invariant-loop-i
invariant-loop-i g l =
    let content = g.M.View.content in
    let put_at = g.M.View.put_at in
    record {
      same_room : (x : ℕ) → (g.M.View.memory (content l.view)).writable x ≡ (g.M.View.memory (content l.initial.view)).writable x;
      so_far : patched put_at (content l.view) (l.place + l.i) (drop l.i l.bytes) ≡ patched put_at (content l.initial.view) l.place l.bytes;
    }
