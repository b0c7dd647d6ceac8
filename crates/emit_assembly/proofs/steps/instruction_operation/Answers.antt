use Rattle.std.proofs.Common.{IfOk, sym, subst}
use Rattle.std.proofs.lemmas.Result.{IfOk-weaker}
use Rattle.class_definition.specs.declared.op.Op.{Op}
use Rattle.jvm_definition.specs.declared.instruction.Instruction.{Instruction}
use Rattle.jvm_definition.specs.declared.instruction.Instruction.TheVariants.{Push}
use Rattle.emit_assembly.specs.declared.references.References.{References}
use Rattle.emit_assembly.specs.Operations.{IsOperation}
use Rattle.emit_assembly.proofs.Forms.{is-operation, no-push}
use Rattle.emit_assembly.proofs.steps.instruction_operation.Goals as goal

pub returns-in-Push-clause-op : goal.returns-in-Push-clause-op
returns-in-Push-clause-op c =
    let r = c.args.references.now in
    let pool = c.push.new.pool in
    subst (λ (i : Instruction). IfOk c.push.result (IsOperation r pool i)) (sym c.in-Push.is)
    (IfOk-weaker c.push.result (λ (op : Op). (r : References) → IsOperation r pool (Push c.in-Push.constant) op) (IsOperation r pool (Push c.in-Push.constant)) (λ op made. made r) c.push.ensures.op)

pub returns-in_default-clause-op : goal.returns-in_default-clause-op
returns-in_default-clause-op c =
    is-operation c.args.references.now c.args.pool.now c.args.instruction.now c.operation_of.result c.requires
    (no-push c.args.instruction.now c.in_default.not-Push) c.operation_of.ensures.value c.operation_of.ensures.fits
