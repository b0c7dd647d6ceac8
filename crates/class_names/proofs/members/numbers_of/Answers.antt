use Rattle.std.proofs.Common.{◌∙◌, sym}
use Rattle.class_names.specs.declared.key.Key.{Key}
use Rattle.class_names.proofs.MemberLemmas.{known_here, new_here}
use Rattle.class_names.proofs.members.numbers_of.Goals as goal
use Rattle.class_names.proofs.members.numbers_of.Goals.{then-not-contains_key+in_ok-insert, else-not-contains_key}

pub loop-i-preserved : goal.loop-i-preserved
loop-i-preserved c =
    let none : Key = record { class = 0; name = 0; descriptor = 0 } in
    elim c.if-not-contains_key.branch [
      | then-not-contains_key+in_ok-insert w ↦
          let are = new_here c.args.keys.now c.loop-i.i none c.loop-i.numbers.entries w.insert.new.self.entries c.loop-i-test.true c.loop-i.invariant
          (sym c.contains_key.ensures ∙ w.if-not-contains_key.true) (λ k. w.in_ok-insert.ensures.updates.0 k) in
          λ k. rw w.numbers-is (are k)
      | else-not-contains_key w ↦
          let are = known_here c.args.keys.now c.loop-i.i none c.loop-i.numbers.entries c.loop-i-test.true c.loop-i.invariant (sym c.contains_key.ensures ∙ w.if-not-contains_key.false) in
          λ k. rw w.numbers-is (are k)
    ]
