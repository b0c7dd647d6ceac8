use Rattle.std.proofs.Common.{◌≡◌, ◌<◌, ◌^◌, ◌&&◌, ◌++◌, nat_lt, length, get_or, Err, ap, ◌∙◌, ltb-true}
use Rattle.std.proofs.lemmas.Bool.{and_parts}
use Rattle.std.proofs.lemmas.Result.{err_from_is_err_and}
use Rattle.std.proofs.lemmas.List.Elements.{All-append}
use Rattle.constant_pool.specs.declared.error.PoolError.TheVariants.{Full}
use Rattle.emit_steps.specs.Widths.{size}
use Rattle.emit_steps.specs.Switches.{switches_are_placed}
use Rattle.emit_steps.proofs.Offsets.{AreEnds}
use Rattle.emit_assembly.specs.Assembling.{have_operations, pushed_by}
use Rattle.emit_assembly.specs.Operations.{Has}
use Rattle.emit_assembly.proofs.Pools.{extends-further, adds-further, adds-among}
use Rattle.emit_assembly.proofs.Counts.{all-kept}
use Rattle.emit_assembly.proofs.Taking.{few-by, full-by, next-few}
use Rattle.emit_assembly.proofs.Placed.{next-has-operation, next-placed, made-goes-on, are-linked, widths-same, size-is, are-code}
use Rattle.emit_assembly.proofs.assembly.assemble.Goals as goal

pub step_operation-requires : goal.step_operation-requires
step_operation-requires c =
    let code = c.args.code.now in
    let all = and_parts (nat_lt (size code) (2 ^ 32) && have_operations c.args.references.now code) (switches_are_placed 0 code) c.requires in
    let can = and_parts (nat_lt (size code) (2 ^ 32)) (have_operations c.args.references.now code) all.0 in
    next-has-operation c.args.references.now code (length c.deref.result.now) c.loop-i.i c.index-code-i.result (ap length c.deref.ensures.value ∙ c.in-Ok.ensures.len) c.loop-i-test.true c.index-code-i.is can.1

pub loop-i-preserved : goal.loop-i-preserved
loop-i-preserved c =
    let code = c.args.code.now in
    let r = c.args.references.now in
    let s = c.index-code-i.result in
    let i = c.loop-i.i in
    let pool = c.loop-i.pool in
    let new = c.step_operation.new.pool in
    let all = and_parts (nat_lt (size code) (2 ^ 32) && have_operations r code) (switches_are_placed 0 code) c.requires in
    let can = and_parts (nat_lt (size code) (2 ^ 32)) (have_operations r code) all.0 in
    let few : size code < 2 ^ 32 = ltb-true (size code) (2 ^ 32) can.0 in
    let seen = c.loop-i.invariant.seen in
    let ends : AreEnds code c.deref.result.now (length code) = λ k h. ap (λ es. get_or es k 0) c.deref.ensures.value ∙ c.in-Ok.ensures.ends k h in
    let placed = next-placed r code c.deref.result.now i s new c.in_ok-op.op ends few c.loop-i-test.true c.index-code-i.is can.1 all.1 c.in_ok-op.ensures.op in
    record {
      kept = extends-further c.args.pool.now pool new c.loop-i.invariant.kept c.in_ok-op.ensures.kept;
      added = adds-further code c.args.pool.now pool new c.loop-i.invariant.added (adds-among code i s pool new c.loop-i-test.true c.index-code-i.is c.in_ok-op.ensures.added);
      seen = pushed_by s ++ seen;
      has = All-append (Has new) (pushed_by s) seen c.in_ok-op.ensures.has (all-kept seen pool new c.in_ok-op.ensures.kept c.loop-i.invariant.has);
      few = next-few code i s c.args.pool.now pool new seen c.loop-i-test.true c.index-code-i.is c.loop-i.invariant.has c.loop-i.invariant.few
          c.in_ok-op.ensures.adds;
      made = made-goes-on r code i s pool new c.in_ok-op.op c.loop-i.ops.items c.push.new.self.items c.loop-i-test.true c.index-code-i.is c.loop-i.invariant.made c.in_ok-op.ensures.kept placed c.in_ok-push.ensures.items;
    }

pub returns-clause-lines : goal.returns-clause-lines
returns-clause-lines c =
    are-linked c.args.references.now c.args.code.now c.loop-i.i c.loop-i.pool c.loop-i.ops.items c.loop-i-test.false c.loop-i.invariant.made

pub returns-clause-widths : goal.returns-clause-widths
returns-clause-widths c =
    widths-same c.args.references.now c.args.code.now c.loop-i.i c.loop-i.pool c.loop-i.ops.items c.loop-i-test.false c.loop-i.invariant.made

pub returns-clause-size : goal.returns-clause-size
returns-clause-size c =
    size-is c.args.references.now c.args.code.now c.loop-i.i c.loop-i.pool c.loop-i.ops.items c.loop-i-test.false c.loop-i.invariant.made

pub returns-clause-method : goal.returns-clause-method
returns-clause-method c =
    are-code c.args.references.now c.args.code.now c.loop-i.i c.loop-i.pool c.loop-i.ops.items c.loop-i-test.false c.loop-i.invariant.made

pub returns-in_err-op-clause-added : goal.returns-in_err-op-clause-added
returns-in_err-op-clause-added c =
    let code = c.args.code.now in
    let pool = c.loop-i.pool in
    let new = c.step_operation.new.pool in
    adds-further code c.args.pool.now pool new c.loop-i.invariant.added (adds-among code c.loop-i.i c.index-code-i.result pool new c.loop-i-test.true c.index-code-i.is c.step_operation.ensures.added)

pub returns-in_err-push-clause-added : goal.returns-in_err-push-clause-added
returns-in_err-push-clause-added c =
    let code = c.args.code.now in
    let pool = c.loop-i.pool in
    let new = c.step_operation.new.pool in
    adds-further code c.args.pool.now pool new c.loop-i.invariant.added (adds-among code c.loop-i.i c.index-code-i.result pool new c.loop-i-test.true c.index-code-i.is c.step_operation.ensures.added)

pub returns-in_err-op-clause-few : goal.returns-in_err-op-clause-few
returns-in_err-op-clause-few c =
    few-by c.args.code.now c.loop-i.i c.index-code-i.result c.args.pool.now c.loop-i.pool c.step_operation.new.pool c.loop-i.invariant.seen
    c.loop-i-test.true c.index-code-i.is c.loop-i.invariant.has c.loop-i.invariant.few c.step_operation.ensures.adds

pub returns-in_err-push-clause-few : goal.returns-in_err-push-clause-few
returns-in_err-push-clause-few c =
    few-by c.args.code.now c.loop-i.i c.index-code-i.result c.args.pool.now c.loop-i.pool c.step_operation.new.pool c.loop-i.invariant.seen
    c.loop-i-test.true c.index-code-i.is c.loop-i.invariant.has c.loop-i.invariant.few c.step_operation.ensures.adds

pub returns-in_err-op-clause-full : goal.returns-in_err-op-clause-full
returns-in_err-op-clause-full c =
    let p = err_from_is_err_and c.from_residual.result c.from_residual.ensures.1 in
    λ full.
    let same : c.in_err-op.field-0.0 ≡ Full = cc (p.1, p.2, full) in
    full-by c.args.code.now c.loop-i.i c.index-code-i.result c.args.pool.now c.loop-i.pool c.loop-i.invariant.seen
    c.loop-i-test.true c.index-code-i.is c.loop-i.invariant.has c.loop-i.invariant.few (c.in_err-op.ensures.full (ap Err same))
