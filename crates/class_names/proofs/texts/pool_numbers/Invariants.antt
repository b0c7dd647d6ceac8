use Rattle.std.proofs.Common.{map, take}
use Rattle.std.specs.List.{AllZip}
use Rattle.class_names.specs.Numbers.{IsNumber, AreTexts, Keeps, entry_text}
use Rattle.class_names.proofs.texts.pool_numbers.Given as goal

abbrev pub invariant-loop-entry : goal.invariant-loop-entry
invariant-loop-entry l = record {
  are : AllZip (IsNumber l.texts.keys) l.numbers.items (map entry_text (take l.entry-index l.pool));
  texts : AreTexts l.texts.keys;
  kept : Keeps l.fn.texts.keys l.texts.keys;
}
