use Rattle.std.proofs.Common.{◌≡◌, ℕ, take, drop, nat_lt, true}
use Rattle.std.specs.List.{list_all}
use Rattle.run_definition.specs.Memory.{patched}
use Rattle.unix_definition.specs.Files.{bytes_at}
use Rattle.unix_system.proofs.file_calls.copy_out.Given as goal

abbrev pub invariant-loop-i : goal.invariant-loop-i
invariant-loop-i g l =
    let content = g.M.View.content in
    record {
      same_room : (x : ℕ) → (g.M.View.memory (content l.view)).writable x ≡ (g.M.View.memory (content l.initial.view)).writable x;
      so_far : content l.view ≡ patched g.M.View.put_at (content l.initial.view) l.place (take l.i (drop l.from (bytes_at l.fn.disk l.n)));
      small : list_all (λ x. nat_lt x 256) (take l.i (drop l.from (bytes_at l.fn.disk l.n))) ≡ true;
      same : l.disk ≡ l.fn.disk;
    }
