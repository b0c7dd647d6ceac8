use Rattle.stackmap_maker.proofs.Kept.{all-writable}
use Rattle.stackmap_maker.proofs.MadeLaws.{with-tables}
use Rattle.stackmap_maker.proofs.TypedLaws.{all-typed, full-refused}
use Rattle.stackmap_maker.proofs.Within.{all-small}
use Rattle.stackmap_maker.proofs.framing.verified_frames.Goals as goal

pub returns-in-Ok-Framed-clause-typed : goal.returns-in-Ok-Framed-clause-typed
returns-in-Ok-Framed-clause-typed c =
    let made = rw c.in-Ok-Framed.field-0-is at c.in-Ok-Framed.ensures.made in
    all-typed c.args.linked.now.classes c.in-Ok-Framed.framed.items made.0

pub returns-in-Ok-Framed-clause-framed : goal.returns-in-Ok-Framed-clause-framed
returns-in-Ok-Framed-clause-framed c =
    let made = rw c.in-Ok-Framed.field-0-is at c.in-Ok-Framed.ensures.made in
    let linked = c.args.linked.now in
    with-tables linked.classes c.in-Ok-Framed.framed.items linked.kept made.0

pub returns-in-Ok-Framed-clause-writable : goal.returns-in-Ok-Framed-clause-writable
returns-in-Ok-Framed-clause-writable c =
    let made = rw c.in-Ok-Framed.field-0-is at c.in-Ok-Framed.ensures.made in
    let linked = c.args.linked.now in
    let fs = c.in-Ok-Framed.framed.items in
    all-writable linked.classes fs linked.kept (with-tables linked.classes fs linked.kept made.0) (all-small fs made.1)

pub returns-in-Ok-Framed-clause-small : goal.returns-in-Ok-Framed-clause-small
returns-in-Ok-Framed-clause-small c =
    let made = rw c.in-Ok-Framed.field-0-is at c.in-Ok-Framed.ensures.made in
    all-small c.in-Ok-Framed.framed.items made.1

pub returns-in-Ok-TooLarge-clause-unframed : goal.returns-in-Ok-TooLarge-clause-unframed
returns-in-Ok-TooLarge-clause-unframed c =
    let made = rw c.in-Ok-TooLarge.field-0-is at c.in-Ok-TooLarge.ensures.made in
    let linked = c.args.linked.now in
    record {
      framed = made.0;
      are = with-tables linked.classes made.0 linked.kept made.1;
      large = made.2;
    }

pub returns-in-Err-Full-clause-unframed : goal.returns-in-Err-Full-clause-unframed
returns-in-Err-Full-clause-unframed c =
    full-refused c.args.linked.now.classes c.in-Err-Full.class c.full.result (rw c.in-Err-Full.field-0-is at c.in-Err-Full.ensures.unmade) c.full.ensures
