use Rattle.std.proofs.Common.{◌≡◌, ℕ, ◌+◌, List, ◌++◌, length, Option}
use Rattle.translate_program.specs.Places.{Place, first_places}
use Rattle.translate_program.specs.Ranges.{IsRangeOf, range_of}
use Rattle.translate_program.specs.Adding.{HasFew, HasPlaces}
use Rattle.translate_program.proofs.code_files.add_range.Given as goal

abbrev pub invariant-loop-k : goal.invariant-loop-k
invariant-loop-k l = record {
  places : (words : ℕ → Option ℕ) (places : List Place) → IsRangeOf words l.fn.range
      → HasPlaces l.metered words l.name l.method_bytes places l.fn.code
      → HasPlaces l.metered words l.name l.method_bytes (places ++ first_places (range_of l.fn.range) l.k) l.code;
  few : HasFew l.code;
  told : l.code.told ≡ l.fn.code.told;
  count : length l.code.files.items ≡ length l.fn.code.files.items + l.k;
  units : l.kept.units ≡ l.fn.range.units;
  leads : l.kept.leads ≡ l.fn.range.leads;
  start : l.kept.start ≡ l.fn.range.start;
}
