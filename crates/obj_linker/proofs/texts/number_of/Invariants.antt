use Rattle.std.proofs.Common.{◌≡◌, ◌++◌, length, drop}
use Rattle.obj_linker.specs.Texts.{AreApart, IsNumber, Keeps}
use Rattle.obj_linker.proofs.texts.number_of.Given as goal

-- the number is of what is behind the rest
abbrev pub invariant-loop-byte : goal.invariant-loop-byte
invariant-loop-byte l = record {
  whole : l.rest ++ drop (length l.rest) l.text ≡ l.text;
  here : IsNumber l.texts.keys l.number (drop (length l.rest) l.text);
  kept : Keeps l.fn.texts.keys l.texts.keys;
  apart : AreApart l.texts.keys;
}

abbrev pub decreases-loop-byte : goal.decreases-loop-byte
decreases-loop-byte l = length l.rest
