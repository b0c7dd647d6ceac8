use Rattle.std.proofs.Common.{◌≡◌, ◌++◌, take}
use Rattle.std.specs.Prelude.{flat_map}
use Rattle.class_sets.specs.ClassSets.{asked_in}
use Rattle.class_sets.specs.Waiting.{AreAsked, fresh}
use Rattle.class_sets.proofs.names.Names.add.Given as goal

abbrev pub invariant-loop-entry : goal.invariant-loop-entry
invariant-loop-entry l = record {
  stays : l.self.asked ≡ l.initial.self.asked;
  added : l.self.waiting ≡ l.initial.self.waiting ++ fresh (l.initial.self.asked ++ l.initial.self.waiting) (flat_map (asked_in l.pool) (take l.entry-index l.pool));
  seen : AreAsked l.pool l.seen.keys l.self;
}
