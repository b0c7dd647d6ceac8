use Rattle.std.proofs.Common.{◌≡◌, ℕ, ◌+◌, List, ◌++◌, Option}
use Rattle.translate_program.specs.Places.{Place, first_places}
use Rattle.translate_program.specs.Ranges.{IsRangeOf, range_of}
use Rattle.translate_program.specs.Counting.{CountsPlaces, HasFewMethods}
use Rattle.translate_program.proofs.counting.count_range.Given as goal

abbrev pub invariant-loop-k : goal.invariant-loop-k
invariant-loop-k l = record {
  places : (code : ℕ → Option ℕ) (places : List Place) → IsRangeOf code l.range → CountsPlaces l.metered code l.method_bytes places l.fn.counts
      → CountsPlaces l.metered code l.method_bytes (places ++ first_places (range_of l.range) l.k) l.counts;
  few : HasFewMethods l.counts;
  count : l.counts.classes ≡ l.fn.counts.classes + l.k;
}
