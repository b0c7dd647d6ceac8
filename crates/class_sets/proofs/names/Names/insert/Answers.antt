use Rattle.std.proofs.Common.{◌≡◌, ◌++◌, ◌∷◌, [], drop, string_bytes, subst, arith}
use Rattle.class_sets.specs.Waiting.{texts, fresh, Queue}
use Rattle.class_sets.proofs.QueueLemmas.{IsQueueWith, inserted_queue}
use Rattle.class_sets.proofs.names.Names.insert.Goals as goal

pub invariant_of-self-2 : goal.invariant_of-self-2
invariant_of-self-2 c =
    let q : IsQueueWith c.self.inside.asked (texts c.self.inside.names.keys) (string_bytes c.args.name ∷ []) (texts c.insert.new.self.keys) = inserted_queue c.self.inside.asked c.self.inside.names.keys c.insert.new.self.keys c.args.name c.self.invariant.0 c.self.invariant.1 c.in_ok-insert.ensures.keys in
    (omega (arith, c.in_ok-insert.ensures.len), q.once)

pub returns-clause-waiting : goal.returns-clause-waiting
returns-clause-waiting c =
    let q : IsQueueWith c.self.inside.asked (texts c.self.inside.names.keys) (string_bytes c.args.name ∷ []) (texts c.insert.new.self.keys) = inserted_queue c.self.inside.asked c.self.inside.names.keys c.insert.new.self.keys c.args.name c.self.invariant.0 c.self.invariant.1 c.in_ok-insert.ensures.keys in
    let P : Queue → Type 0 = λ old. drop c.self.inside.asked (texts c.insert.new.self.keys) ≡ old.waiting ++ fresh (old.asked ++ old.waiting) (string_bytes c.args.name ∷ []) in
    subst P c.self.view_is q.waiting
