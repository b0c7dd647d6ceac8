use Rattle.obj_linker.specs.Texts.{letter}
use Rattle.obj_linker.proofs.TextLemmas.{before_is, inserted_keeps}
use Rattle.obj_linker.proofs.texts.number_before.Goals as goal

pub returns-clause-number : goal.returns-clause-number
returns-clause-number c =
    let old = c.args.texts.now.keys in
    let new = c.insert_full.new.self.keys in
    let made = c.in_ok-place.ensures in
    before_is old new c.args.byte c.args.rest c.in_ok-place.place made.stored.0
    (inserted_keeps old new (letter c.args.byte c.args.rest) made.keys) made.stored.1 made.stored.2

pub returns-clause-kept : goal.returns-clause-kept
returns-clause-kept c =
    inserted_keeps c.args.texts.now.keys c.insert_full.new.self.keys (letter c.args.byte c.args.rest) c.in_ok-place.ensures.keys
