use Rattle.std.proofs.Common.{◌≡◌, Err, ap, ◌∙◌}
use Rattle.std.proofs.lemmas.Result.{err_from_is_err_and}
use Rattle.constant_pool.specs.declared.error.PoolError.TheVariants.{Full}
use Rattle.emit_classes.proofs.Joined.{joined, no_rest, one_more, kept-joined}
use Rattle.emit_classes.proofs.Growing.{grows-not, grows-joined}
use Rattle.emit_classes.proofs.Mentions.{mentions-joined}
use Rattle.emit_classes.proofs.sound_pool.SoundPool.add.Goals as goal

pub add-requires : goal.add-requires
add-requires c = no_rest c.args.entry c.requires.spelled

pub returns-in_err-slot-clause-full : goal.returns-in_err-slot-clause-full
returns-in_err-slot-clause-full c =
    let p = err_from_is_err_and c.from_residual.result c.from_residual.ensures.1 in
    λ full. one_more c.self.inside.pool c.args.self.now c.args.entry c.self.view_is c.requires
    (c.in_err-slot.ensures.full.0 (let same : c.in_err-slot.field-0.0 ≡ Full = cc (p.1, p.2, full) in ap Err same)).1

pub returns-in_err-slot-clause-grown : goal.returns-in_err-slot-clause-grown
returns-in_err-slot-clause-grown c = grows-not c.args.self.now c.add.new.self 1 (c.in_err-slot.ensures.err ∙ c.self.view_is)

pub invariant_of-self-2 : goal.invariant_of-self-2
invariant_of-self-2 c =
    let may = rw (← c.self.view_is) at c.requires in
    let j = joined c.self.inside.pool c.add.new.self c.in_ok-slot.slot c.args.entry c.self.invariant.sound may
    c.in_ok-slot.ensures.there c.in_ok-slot.ensures.present c.in_ok-slot.ensures.full c.in_ok-slot.ensures.grown in
    kept-joined c.self.inside.pool c.add.new.self c.self.inside.kinds.items c.in_ok-slot.slot c.args.entry c.kind_of-kind.result
    c.kind_of-kind.ensures c.self.invariant may j

pub returns-clause-grown : goal.returns-clause-grown
returns-clause-grown c =
    let may = rw (← c.self.view_is) at c.requires in
    let j = joined c.self.inside.pool c.add.new.self c.in_ok-slot.slot c.args.entry c.self.invariant.sound may
    c.in_ok-slot.ensures.there c.in_ok-slot.ensures.present c.in_ok-slot.ensures.full c.in_ok-slot.ensures.grown in
    grows-joined c.self.inside.pool c.args.self.now c.add.new.self c.in_ok-slot.slot c.args.entry c.self.view_is may j

pub returns-clause-mentions : goal.returns-clause-mentions
returns-clause-mentions c =
    let may = rw (← c.self.view_is) at c.requires in
    let j = joined c.self.inside.pool c.add.new.self c.in_ok-slot.slot c.args.entry c.self.invariant.sound may
    c.in_ok-slot.ensures.there c.in_ok-slot.ensures.present c.in_ok-slot.ensures.full c.in_ok-slot.ensures.grown in
    rw (← c.self.view_is) (mentions-joined c.self.inside.pool c.add.new.self c.in_ok-slot.slot c.args.entry c.self.invariant.sound j)
