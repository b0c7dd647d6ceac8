-- Which words of a program's code each class of code has.
use Rattle.std.specs.Prelude.{◌≡◌, ℕ, ◌+◌, ◌*◌, List, map, flat_map, Option}
use Rattle.delay_slots.specs.Places.{Address, WordIndex}
use Rattle.std.specs.List.{range_with_len}
use Rattle.elf_definition.specs.declared.range.Range.{Range}
use Rattle.elf_image_parts.specs.Ranges.{IsRangeCode}
use Rattle.method_splitter.specs.declared.share.Share.{Share}
use Rattle.method_splitter.specs.Shares.{share_at, share_count}
use Rattle.translate_classes.specs.declared.part.Part.{Part}

-- how many words of a range one class has at most
abbrev pub class_words : ℕ
class_words = 6144

-- words of a range
pub record Place : Type 0 where
  pub range : Range
  pub share : Share

-- those of the class of a number among the classes of the range: each class but the last has as many words as there can be
abbrev pub place_at : Range → ℕ → Place
place_at range k = record { range = range; share = share_at class_words range.words k }

abbrev pub first_places : Range → ℕ → List Place
first_places range count = map (place_at range) (range_with_len 0 count)

abbrev pub places_in : Range → List Place
places_in range = first_places range (share_count class_words range.words)

-- the ranges one after the other
abbrev pub places_of : List Range → List Place
places_of ranges = flat_map places_in ranges

-- ---- words by their addresses

abbrev pub word_at : Range → WordIndex → Address
word_at range k = range.first + 4 * k

-- those of a range, and those at a place
abbrev pub words_in : Range → List Address
words_in range = map (word_at range) (range_with_len 0 range.words)

abbrev pub words_at : Place → List Address
words_at p = map (word_at p.range) (range_with_len p.share.first p.share.count)

-- ---- parts

-- the part of the code at a place, with the units and leaders of its range
pub record IsPartAt (code : ℕ → Option ℕ) (place : Place) (part : Part) : Type 0 where
  pub range_is : IsRangeCode code place.range part.units.now part.leads.now
  pub start_is : part.start ≡ place.range.first
  pub first_is : part.first ≡ place.share.first
  pub words_are : part.words ≡ place.share.count
