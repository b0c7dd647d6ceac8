use Rattle.std.proofs.Common.{◌≡◌, ◌-◌, ◌+◌, suc, eqb, false, length, ℕ, Ok, subst, ap, arith}
use Rattle.std.proofs.lemmas.Result.{err_from_is_err_and}
use Rattle.std.proofs.lemmas.Bool.{ne_eqb}
use Rattle.class_format.specs.Gives.{Fails}
use Rattle.class_definition.specs.declared.line.Line.{Line}
use Rattle.class_definition.specs.Instructions.{instruction}
use Rattle.jvm_code.proofs.LineLemmas.{lines_more, lines_fail, lines_end, lines_done}
use Rattle.jvm_code.proofs.code_reading.lines_of.Goals as goal

pub returns-then-left-eq0 : goal.returns-then-left-eq0
returns-then-left-eq0 c =
    let size = length c.args.code.now in
    let more : size - c.loop.counter ≡ suc (size - (c.loop.counter + 1)) = omega arith in
    lines_end size (size - c.loop.counter) (size - (c.loop.counter + 1)) c.loop.rest.now c.loop.lines.items _ more (omega arith) c.loop.invariant

pub returns-in_err-op : goal.returns-in_err-op
returns-in_err-op c =
    let p = err_from_is_err_and c.from_residual.result c.from_residual.ensures.1 in
    let size = length c.args.code.now in
    let more : size - c.loop.counter ≡ suc (size - (c.loop.counter + 1)) = omega arith in
    let some : eqb (length c.loop.rest.now) 0 ≡ false = ne_eqb _ 0 (λ e. omega arith) in
    let place : c.saturating_sub-at.result ≡ size - length c.loop.rest.now = c.saturating_sub-at.ensures in
    let P : ℕ → Type 0 = λ n. Fails c.in_err-op.field-0.0 ((instruction n).read c.loop.rest.now) in
    rw (p.1, p.2) (lines_fail c.in_err-op.field-0.0 size (size - c.loop.counter) (size - (c.loop.counter + 1)) c.loop.rest.now c.loop.lines.items _ more some (subst P place c.in_err-op.ensures) c.loop.invariant)

pub loop-preserved : goal.loop-preserved
loop-preserved c =
    let size = length c.args.code.now in
    let more : size - c.loop.counter ≡ suc (size - (c.loop.counter + 1)) = omega arith in
    let some : eqb (length c.loop.rest.now) 0 ≡ false = ne_eqb _ 0 (λ e. omega arith) in
    let e = c.in_ok-push.ensures.items in
    let place : c.saturating_sub-at.result ≡ size - length c.loop.rest.now = c.saturating_sub-at.ensures in
    let line : ℕ → Line = λ n. record { at = n; op = c.in_ok-op.op } in
    let P : ℕ → Type 0 = λ n. (instruction n).read c.loop.rest.now ≡ Ok (c.in_ok-op.op, c.in_ok-op.others.now) in
    rw e (lines_more size (size - c.loop.counter) (size - (c.loop.counter + 1)) c.loop.rest.now c.in_ok-op.others.now c.loop.lines.items _ c.in_ok-op.op _ more some (ap line place) (subst P place c.in_ok-op.ensures) c.loop.invariant)

pub returns : goal.returns
returns c = lines_done (length c.args.code.now) (length c.args.code.now - c.loop.counter) c.loop.rest.now c.loop.lines.items _ (omega arith) c.loop.invariant
