use Rattle.std.proofs.Common.{subst, sym, add-one}
use Rattle.jvm_type_inference.specs.Actions.{program_over}
use Rattle.jvm_type_inference.specs.Flow.{SpreadTo}
use Rattle.jvm_type_inference.proofs.InferLaws.{spread-begins}
use Rattle.jvm_type_inference.proofs.spreading.spread.Goals as goal

pub loop-at-init : goal.loop-at-init
loop-at-init c = spread-begins (program_over c.args.code.now.methods.now) c.args.code.now.method.now c.args.before.now c.args.frames.items c.requires.formed

pub spread_one-requires-clause-sized : goal.spread_one-requires-clause-sized
spread_one-requires-clause-sized c = c.loop-at.invariant.sized

pub loop-at-preserved : goal.loop-at-preserved
loop-at-preserved c =
    let a = c.args in
    subst (λ n. SpreadTo (program_over a.code.now.methods.now) a.code.now.method.now a.before.now n a.frames.items c.spread_one.new.spread.items) (sym (add-one c.loop-at.at))
    (c.in_ok-spread_one.ensures a.frames.items c.loop-at.invariant)
