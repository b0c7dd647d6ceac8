use Rattle.std.proofs.Common.{◌≡◌, ◌-◌, ◌++◌, [], if◌then◌else◌}
use Rattle.std.specs.List.{flat_map, range_with_len}
use Rattle.word_emitter.specs.Pieces.{is_needed, fetched, for_registers}
use Rattle.word_emitter.proofs.pieces.append_fetches.Given as goal

-- the code so far, and that of the registers that are left
abbrev pub invariant-loop-r : goal.invariant-loop-r
invariant-loop-r l =
    l.code.items ++ flat_map (λ r. if is_needed l.units r then fetched r else []) (range_with_len l.r (32 - l.r)) ≡ l.fn.code.items ++ for_registers (is_needed l.units) fetched
