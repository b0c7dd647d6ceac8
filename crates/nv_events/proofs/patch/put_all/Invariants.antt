use Rattle.std.proofs.Common.{◌≡◌, ℕ, ◌+◌, drop}
use Rattle.run_definition.specs.Memory.{patched}
use Rattle.nv_events.proofs.patch.put_all.Given as goal

abbrev pub invariant-loop-i : goal.invariant-loop-i
invariant-loop-i g l =
    let content = g.V.View.content in
    let put_at = g.V.View.put_at in
    record {
      same_room : (x : ℕ) → (g.V.View.memory (content l.view)).writable x ≡ (g.V.View.memory (content l.initial.view)).writable x;
      so_far : patched put_at (content l.view) (l.place + l.i) (drop l.i l.patch) ≡ patched put_at (content l.initial.view) l.place l.patch;
    }
