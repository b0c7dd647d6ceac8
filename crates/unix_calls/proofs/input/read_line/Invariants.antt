use Rattle.std.proofs.Common.{◌≡◌, ℕ}
use Rattle.unix_calls.proofs.DrawLemmas.{Reading}
use Rattle.unix_calls.proofs.input.read_line.Given as goal

abbrev pub invariant-loop-i : goal.invariant-loop-i
invariant-loop-i g l =
    let content = g.M.View.content in
    record {
      same_room : (x : ℕ) → (g.M.View.memory (content l.view)).writable x ≡ (g.M.View.memory (content l.initial.view)).writable x;
      reading : Reading g.M.View.put_at (content l.fn.view) (content l.view) l.place l.count l.fn.ahead l.ahead (g.S.Source.rest l.fn.source) (g.S.Source.rest l.source) l.i;
      faults : g.S.Source.faults l.source ≡ g.S.Source.faults l.fn.source;
    }
