-- No word weighs much.
use Rattle.std.proofs.Common.{ℕ, ◌≤◌, Bool, true, false, length, arith}
use Rattle.mips_definition.specs.declared.names.load_name.LoadName.{LoadName}
use Rattle.mips_definition.specs.declared.names.load_name.LoadName.TheVariants.{Lb, Lh, Lwl, Lw, Lbu, Lhu, Lwr}
use Rattle.mips_definition.specs.declared.names.branch_sign_name.BranchSignName.{BranchSignName}
use Rattle.mips_definition.specs.declared.names.branch_sign_name.BranchSignName.TheVariants.{Bltz, Bgez, Bltzal, Bgezal, Bltzl, Bgezl, Bltzall, Bgezall}
use Rattle.mips_definition.specs.declared.names.jump_name.JumpName.{JumpName}
use Rattle.mips_definition.specs.declared.names.jump_name.JumpName.TheVariants.{J, Jal}
use Rattle.mips_definition.specs.declared.inst.Inst.{Inst}
use Rattle.mips_definition.specs.declared.inst.Inst.TheVariants as inst
use Rattle.delay_slots.specs.declared.unit.Unit.{Unit}
use Rattle.delay_slots.specs.declared.unit.Unit.TheVariants.{Plain, Branch, SlotMissing, SlotIsBranch, Call, Trap}
use Rattle.block_builder.specs.Registers.{read_by, read_by_load, written_by, written_by_branch_sign, written_by_jump}
use Rattle.emit_limits.specs.Weights.{branch_exit_bytes, weight, weight_of}
use Rattle.emit_limits.proofs.SmallInstructions.{instruction-small}

-- ---- bytes

exit-small : (i : Inst) → branch_exit_bytes i ≤ 17
exit-small (inst.BranchSign name rs imm) = omega arith
exit-small (inst.BranchEqual name rs rt imm) = omega arith
exit-small (inst.BranchZero name rs imm) = omega arith
exit-small (inst.Jump name index) = omega arith
exit-small _ = omega arith

-- ---- registers

load-reads : (name : LoadName) (rs rt : ℕ) → length (read_by_load name rs rt) ≤ 5
load-reads Lb rs rt = omega arith
load-reads Lh rs rt = omega arith
load-reads Lwl rs rt = omega arith
load-reads Lw rs rt = omega arith
load-reads Lbu rs rt = omega arith
load-reads Lhu rs rt = omega arith
load-reads Lwr rs rt = omega arith

reads-few : (i : Inst) → length (read_by i) ≤ 5
reads-few (inst.Load name rs rt imm) = load-reads name rs rt
reads-few _ = omega arith

sign-writes : (name : BranchSignName) → length (written_by_branch_sign name) ≤ 2
sign-writes Bltz = omega arith
sign-writes Bgez = omega arith
sign-writes Bltzal = omega arith
sign-writes Bgezal = omega arith
sign-writes Bltzl = omega arith
sign-writes Bgezl = omega arith
sign-writes Bltzall = omega arith
sign-writes Bgezall = omega arith

jump-writes : (name : JumpName) → length (written_by_jump name) ≤ 2
jump-writes J = omega arith
jump-writes Jal = omega arith

writes-few : (i : Inst) → length (written_by i) ≤ 2
writes-few (inst.BranchSign name rs imm) = sign-writes name
writes-few (inst.Jump name index) = jump-writes name
writes-few _ = omega arith

-- ---- units

plain-small : (u : Unit) → weight u ≤ 412
plain-small (Plain i) = omega (arith, instruction-small i, reads-few i, writes-few i)
plain-small (Branch i slot) =
    omega (arith, instruction-small i, reads-few i, writes-few i, instruction-small slot, reads-few slot, writes-few slot, exit-small i)
plain-small (SlotMissing i) = omega (arith, instruction-small i, reads-few i, writes-few i)
plain-small (SlotIsBranch i word) = omega (arith, instruction-small i, reads-few i, writes-few i)
plain-small Call = omega arith
plain-small (Trap kind value) = omega arith

-- with a meter the guard of a word weighs too
pub weight-small : (metered : Bool) (u : Unit) → weight_of metered u ≤ 540
weight-small true u = let plain = plain-small u in omega (arith, plain)
weight-small false u = let plain = plain-small u in omega (arith, plain)
