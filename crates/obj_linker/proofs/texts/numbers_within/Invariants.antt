use Rattle.std.proofs.Common.{◌≡◌, ◌++◌, length, drop, reverse}
use Rattle.std.specs.List.{AllZip}
use Rattle.obj_linker.specs.Texts.{AreApart, IsNumber, Keeps, texts_within, up_to_zero}
use Rattle.obj_linker.proofs.texts.numbers_within.Given as goal

-- the numbers are those of the places behind the rest
abbrev pub invariant-loop-byte : goal.invariant-loop-byte
invariant-loop-byte l = record {
  whole : l.rest ++ drop (length l.rest) l.bytes ≡ l.bytes;
  here : IsNumber l.texts.keys l.number (up_to_zero (drop (length l.rest) l.bytes));
  all : AllZip (IsNumber l.texts.keys) (reverse l.numbers.items) (texts_within (drop (length l.rest) l.bytes));
  kept : Keeps l.fn.texts.keys l.texts.keys;
  apart : AreApart l.texts.keys;
}

abbrev pub decreases-loop-byte : goal.decreases-loop-byte
decreases-loop-byte l = length l.rest
