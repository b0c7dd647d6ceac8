use Rattle.std.proofs.Common.{◌+◌, ◌*◌, ◌<◌, length, subst, arith}
use Rattle.delay_slots.specs.declared.unit.Unit.TheVariants.{Call}
use Rattle.block_builder.specs.Leaders.{Marks, is_at}
use Rattle.block_builder.proofs.MarkLemmas.{marked_more, marked_all}
use Rattle.block_builder.proofs.leaders.leader_flags.Goals as goal

pub loop-word-preserved : goal.loop-word-preserved
loop-word-preserved c =
    let word = c.loop-word.word in
    let within : word < length c.args.units.now = omega (arith, c.loop-word-test.true, c.len-word-end.ensures) in
    let target = subst (λ t. Marks c.loop-word.flags.items c.mark_target.new.flags.items (λ k. is_at t (c.args.start + 4 * k))) c.direct-target.ensures c.mark_target.ensures in
    marked_more c.args.units.now c.args.start word Call c.at-unit.result c.loop-word.flags.items _ _ within c.at-unit.ensures c.loop-word.invariant target c.mark_behind.ensures

pub returns : goal.returns
returns c = marked_all c.args.units.now c.args.start c.loop-word.word c.loop-word.flags.items (omega (arith, c.loop-word-test.false, c.len-word-end.ensures)) c.loop-word.invariant
