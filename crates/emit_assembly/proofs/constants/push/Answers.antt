use Rattle.std.proofs.Common.{◌≡◌, IfOk, sym, subst, ◌∙◌, rules, w64, SFits, to_z, of_z, arith}
use Rattle.std.proofs.Math.Facts.{Fits-of_z}
use Rattle.std.proofs.lemmas.Int.{to_z-of_z}
use Rattle.std.proofs.lemmas.Result.{IfOk-weaker}
use Rattle.class_definition.specs.declared.entry.Entry.TheVariants.{Long, Text}
use Rattle.class_definition.specs.declared.op.Op.{Op}
use Rattle.class_definition.specs.declared.pool_name.PoolName.TheVariants.{LdcW, Ldc2W}
use Rattle.jvm_definition.specs.declared.constant.Constant.{Constant}
use Rattle.jvm_definition.specs.declared.constant.Constant.TheVariants as constants
use Rattle.jvm_definition.specs.declared.instruction.Instruction.TheVariants.{Push}
use Rattle.emit_assembly.specs.declared.references.References.{References}
use Rattle.emit_assembly.specs.Operations.{IsOperation, IsInSlot}
use Rattle.emit_assembly.proofs.Standing.{long-stands, text-stands}
use Rattle.emit_assembly.proofs.Pushes.{pushes-long, pushes-text}
use Rattle.emit_assembly.proofs.constants.push.Goals as goal

pub returns-in-Int-clause-op : goal.returns-in-Int-clause-op
returns-in-Int-clause-op c =
    subst (λ (k : Constant). IfOk c.push_int.result (λ (op : Op). (r : References) → IsOperation r c.push_int.new.pool (Push k) op)) (sym c.in-Int.is) c.push_int.ensures.op

pub returns-in-Long-clause-op : goal.returns-in-Long-clause-op
returns-in-Long-clause-op c =
    let pool = c.in_slot.new.pool in
    let n = c.cast_signed.result in
    let fits : SFits w64 n = search rules in
    let same : to_z w64 (of_z w64 n) ≡ n = to_z-of_z w64 n fits in
    let z = to_z w64 (of_z w64 n) in
    subst (λ (k : Constant). IfOk c.in_slot.result (λ (op : Op). (r : References) → IsOperation r pool (Push k) op)) (sym c.in-Long.is)
    (IfOk-weaker c.in_slot.result (IsInSlot pool Ldc2W (Long z)) (λ (op : Op). (r : References) → IsOperation r pool (Push (constants.Long c.in-Long.bits)) op)
    (λ op made r. pushes-long r pool c.in-Long.bits z op (omega arith) (same ∙ c.cast_signed.ensures) made) c.in_slot.ensures.op)

pub returns-in-Text-clause-op : goal.returns-in-Text-clause-op
returns-in-Text-clause-op c =
    let pool = c.in_slot-in-Text.new.pool in
    subst (λ (k : Constant). IfOk c.in_slot-in-Text.result (λ (op : Op). (r : References) → IsOperation r pool (Push k) op)) (sym c.in-Text.is)
    (IfOk-weaker c.in_slot-in-Text.result (IsInSlot pool LdcW (Text c.in-Text.text)) (λ (op : Op). (r : References) → IsOperation r pool (Push (constants.Text c.in-Text.field-0 c.in-Text.text)) op)
    (λ op made r. pushes-text r pool c.in-Text.field-0 c.in-Text.text op made) c.in_slot-in-Text.ensures.op)

pub in_slot-requires-clause-stands : goal.in_slot-requires-clause-stands
in_slot-requires-clause-stands c =
    let n = c.cast_signed.result in
    let fits : SFits w64 n = search rules in
    long-stands (of_z w64 n) (omega (arith, Fits-of_z fits))

pub in_slot-requires-in-Text-clause-stands : goal.in_slot-requires-in-Text-clause-stands
in_slot-requires-in-Text-clause-stands c = text-stands c.in-Text.text (omega arith)
