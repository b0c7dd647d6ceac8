use Rattle.std.proofs.Common.{◌+◌, ◌≤◌, ◌-◌, length, ◌∙◌, le-ltb, arith}
use Rattle.emit_assembly.proofs.StartLemmas.{ends-rise, reaches-so, reaches-not}
use Rattle.emit_assembly.proofs.fitting.reaches.Goals as goal

pub overflow_sub-result : goal.overflow_sub-result
overflow_sub-result c =
    let are = c.requires.ends in
    ends-rise c.args.code.now c.args.ends.now are c.args.i (c.args.i + c.args.k) (omega arith) (omega (arith, are.len, c.if-k-code.true))

pub returns-then-k-code : goal.returns-then-k-code
returns-then-k-code c = reaches-so c.args.code.now c.args.ends.now c.requires.ends c.args.i c.args.k c.requires.within c.if-k-code.true

pub returns-else-k-code : goal.returns-else-k-code
returns-else-k-code c =
    let far : length c.args.code.now - c.args.i ≤ c.args.k = omega (arith, c.if-k-code.false) in
    le-ltb c.args.k (length c.args.code.now - c.args.i) far
    ∙ reaches-not c.args.code.now c.args.ends.now c.requires.ends c.args.i c.args.k c.requires.within far
