use Rattle.std.proofs.Common.{arith}
use Rattle.jvm_link.proofs.MethodLemmas.{code_lines}
use Rattle.jvm_link.proofs.methods.lines_of.Goals as goal

pub returns-in-Ok-clause-lines : goal.returns-in-Ok-clause-lines
returns-in-Ok-clause-lines c = code_lines c.args.code.now c.in-Ok.lines.items c.requires (λ i. omega (arith, c.type_inv.code i)) c.in-Ok.ensures.only_lines
