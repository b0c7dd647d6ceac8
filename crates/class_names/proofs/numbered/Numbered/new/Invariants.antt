use Rattle.std.proofs.Common.{◌≡◌, take}
use Rattle.std.specs.List.{All}
use Rattle.class_names.specs.Numbers.{AreTexts}
use Rattle.class_names.specs.Keys.{IsNumbered, classes_in}
use Rattle.class_names.proofs.numbered.Numbered.new.Given as goal

abbrev pub invariant-loop-class : goal.invariant-loop-class
invariant-loop-class l = record {
  same : classes_in l.numbered.items ≡ take l.class-index l.classes;
  texts : AreTexts l.texts.keys;
  numbered : All (IsNumbered l.texts.keys) l.numbered.items;
}
