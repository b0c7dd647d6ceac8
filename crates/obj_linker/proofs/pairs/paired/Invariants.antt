use Rattle.std.proofs.Common.{◌≡◌, ◌++◌, ℕ, length, drop, reverse, option_map}
use Rattle.std.specs.List.{find}
use Rattle.obj_linker.specs.Pairs.{first_alone, is_low_of, low_in, lows}
use Rattle.obj_reader.specs.Relocations.{relocation_offset}
use Rattle.obj_linker.proofs.pairs.paired.Given as goal

-- what is known of the relocations behind the rest
abbrev pub invariant-loop-r : goal.invariant-loop-r
invariant-loop-r l = record {
  whole : l.rest ++ drop (length l.rest) l.relocations ≡ l.relocations;
  behind : (a b : ℕ) → low_in l.behind a b ≡ option_map relocation_offset (find (is_low_of a b) (drop (length l.rest) l.relocations));
  lows : reverse l.lows.items ≡ lows (drop (length l.rest) l.relocations);
  alone : l.alone ≡ first_alone (drop (length l.rest) l.relocations);
}

abbrev pub decreases-loop-r : goal.decreases-loop-r
decreases-loop-r l = length l.rest
