use Rattle.std.proofs.Common.{arith}
use Rattle.jvm_code.proofs.ReadBack.{laid_at, laid_fits, all_spelled, made_lines, made_only, made_bytes, made_sound}
use Rattle.jvm_code.proofs.encode.encode_ops.Goals as goal

pub append_instruction-requires-clause-low : goal.append_instruction-requires-clause-low
append_instruction-requires-clause-low c =
    omega (arith, laid_at c.loop-line.rest.now c.in-Some.others.now c.in-Some.line.now c.in-Some.ensures.cases.0 c.loop-line.invariant.1)

pub append_instruction-requires-clause-fits : goal.append_instruction-requires-clause-fits
append_instruction-requires-clause-fits c =
    laid_fits c.loop-line.rest.now c.in-Some.others.now c.in-Some.line.now c.in-Some.ensures.cases.0 c.loop-line.invariant.1

pub returns-clause-lines : goal.returns-clause-lines
returns-clause-lines c =
    made_lines c.loop-line.code.items c.args.lines.now (all_spelled _ c.loop-line.code.items c.loop-line.rest.now c.in_default.ensures.cases c.loop-line.invariant.0) c.requires.1

pub returns-clause-only_lines : goal.returns-clause-only_lines
returns-clause-only_lines c = λ others are.
    made_only c.loop-line.code.items c.args.lines.now others (all_spelled _ c.loop-line.code.items c.loop-line.rest.now c.in_default.ensures.cases c.loop-line.invariant.0) c.requires.1 are

pub returns-clause-sound : goal.returns-clause-sound
returns-clause-sound c =
    made_sound c.loop-line.code.items c.args.lines.now (all_spelled _ c.loop-line.code.items c.loop-line.rest.now c.in_default.ensures.cases c.loop-line.invariant.0)
    c.requires.0 c.requires.1 c.requires.2

pub returns-clause-only_bytes : goal.returns-clause-only_bytes
returns-clause-only_bytes c = λ others are.
    made_bytes c.loop-line.code.items others c.args.lines.now (all_spelled _ c.loop-line.code.items c.loop-line.rest.now c.in_default.ensures.cases c.loop-line.invariant.0) are
