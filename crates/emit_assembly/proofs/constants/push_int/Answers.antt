use Rattle.std.proofs.Common.{◌≡◌, sym, ap, ◌∙◌, rules, w32, SFits, to_z, of_z, arith}
use Rattle.std.proofs.Math.Facts.{Fits-of_z}
use Rattle.std.proofs.lemmas.Int.{to_z-of_z}
use Rattle.std.proofs.lemmas.Result.{IfOk-weaker}
use Rattle.run_definition.specs.Words.{unsigned_of}
use Rattle.class_definition.specs.declared.entry.Entry.TheVariants.{Integer}
use Rattle.class_definition.specs.declared.op.Op.{Op}
use Rattle.class_definition.specs.declared.pool_name.PoolName.TheVariants.{LdcW}
use Rattle.jvm_definition.specs.declared.constant.Constant.TheVariants.{Int}
use Rattle.jvm_definition.specs.declared.instruction.Instruction.TheVariants.{Push}
use Rattle.emit_assembly.specs.declared.references.References.{References}
use Rattle.emit_assembly.specs.Operations.{IsOperation, IsInSlot}
use Rattle.emit_assembly.proofs.Standing.{int-stands}
use Rattle.emit_assembly.proofs.Pushes.{pushes-int}
use Rattle.emit_assembly.proofs.constants.push_int.Goals as goal

pub returns-else-lies_from-3-clause-op : goal.returns-else-lies_from-3-clause-op
returns-else-lies_from-3-clause-op c =
    let pool = c.in_slot.new.pool in
    let n = c.signed-n.result in
    let fits : SFits w32 n = search rules in
    let same : to_z w32 (of_z w32 n) ≡ n = to_z-of_z w32 n fits in
    let z = to_z w32 (of_z w32 n) in
    IfOk-weaker c.in_slot.result (IsInSlot pool LdcW (Integer z)) (λ (op : Op). (r : References) → IsOperation r pool (Push (Int c.args.word)) op)
    (λ op made r. pushes-int r pool c.args.word z op (same ∙ c.signed-n.ensures.value) (ap unsigned_of same ∙ c.signed-n.ensures.back)
    (sym c.lies_from.ensures ∙ c.if-lies_from.false) (sym c.lies_from-else-lies_from.ensures ∙ c.if-lies_from-2.false) made) c.in_slot.ensures.op

pub in_slot-requires-clause-stands : goal.in_slot-requires-clause-stands
in_slot-requires-clause-stands c =
    let n = c.signed-n.result in
    let fits : SFits w32 n = search rules in
    int-stands (of_z w32 n) (omega (arith, Fits-of_z fits))
