use Rattle.std.proofs.Common.{◌≡◌, ◌++◌, ◌+◌, ◌*◌, ◌^◌, ◌<◌, length}
use Rattle.word_emitter.specs.Pieces.{units_code}
use Rattle.word_emitter.proofs.pieces.append_units.Given as goal

-- the code so far, and that of the units that are left
abbrev pub invariant-loop-unit : goal.invariant-loop-unit
invariant-loop-unit l = record {
  code : l.code.items ++ units_code l.bank l.rest l.here ≡ l.fn.code.items ++ units_code l.bank l.units l.at;
  low : l.here + 4 * length l.rest < 2 ^ 32;
}

abbrev pub decreases-loop-unit : goal.decreases-loop-unit
decreases-loop-unit l = length l.rest
