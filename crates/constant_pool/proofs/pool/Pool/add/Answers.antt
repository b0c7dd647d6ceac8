use Rattle.std.proofs.Common.{◌+◌, length, ap, ◌∙◌, arith, inr}
use Rattle.constant_pool.proofs.SlotLemmas.{inserted, kept_more, there_now, pool_more}
use Rattle.constant_pool.proofs.pool.Pool.add.Goals as goal

pub invariant_of-self-2 : goal.invariant_of-self-2
invariant_of-self-2 c =
    let es = c.self.inside.entries.entries in
    let is = inserted es c.insert.new.self.entries c.args.self.now c.args.e c.self.inside.next c.self.invariant.slots c.self.view_is c.in_default.ensures.missing c.in_ok-insert.ensures.entries in
    kept_more es c.insert.new.self.entries c.self.inside.next c.slots_taken-size.result c.args.e c.self.invariant is c.requires c.slots_taken-size.ensures (omega (arith, ap length c.self.view_is, c.self.invariant.next_is))

pub returns-clause-there : goal.returns-clause-there
returns-clause-there c =
    let es = c.self.inside.entries.entries in
    let is = inserted es c.insert.new.self.entries c.args.self.now c.args.e c.self.inside.next c.self.invariant.slots c.self.view_is c.in_default.ensures.missing c.in_ok-insert.ensures.entries in
    there_now es c.insert.new.self.entries c.self.inside.next c.args.e c.self.invariant.next_is is

pub returns-clause-added : goal.returns-clause-added
returns-clause-added c = λ missing.
    let es = c.self.inside.entries.entries in
    let is = inserted es c.insert.new.self.entries c.args.self.now c.args.e c.self.inside.next c.self.invariant.slots c.self.view_is missing c.in_ok-insert.ensures.entries in
    (c.self.invariant.next_is ∙ ap (λ xs. 1 + length xs) c.self.view_is, pool_more es c.insert.new.self.entries c.args.self.now c.args.e c.self.inside.next c.self.view_is is)

pub returns-clause-grown : goal.returns-clause-grown
returns-clause-grown c =
    let es = c.self.inside.entries.entries in
    let is = inserted es c.insert.new.self.entries c.args.self.now c.args.e c.self.inside.next c.self.invariant.slots c.self.view_is c.in_default.ensures.missing c.in_ok-insert.ensures.entries in
    inr (pool_more es c.insert.new.self.entries c.args.self.now c.args.e c.self.inside.next c.self.view_is is)
