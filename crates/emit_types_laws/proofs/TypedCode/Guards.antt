-- The guards of units, which read registers in their fields alone.
use Rattle.std.proofs.Common.{◌≡◌, ℕ, ◌==◌, Bool, true, false, List, [], ◌∷◌, refl, ap, ◌∙◌, sym}
use Rattle.std.specs.Int.{bit_at}
use Rattle.std.specs.Prelude.{◌&&◌, nat_lt}
use Rattle.std.proofs.lemmas.Bool.{false≢true}
use Rattle.std.proofs.lemmas.Nat.Bits.{bit_at-zero}
use Rattle.mips_definition.specs.Branches.{equal_likely, zero_likely, sign_likely}
use Rattle.mips_definition.specs.declared.names.branch_equal_name.BranchEqualName.{BranchEqualName}
use Rattle.mips_definition.specs.declared.names.branch_equal_name.BranchEqualName.TheVariants.{Beq, Bne, Beql, Bnel}
use Rattle.mips_definition.specs.declared.names.branch_zero_name.BranchZeroName.{BranchZeroName}
use Rattle.mips_definition.specs.declared.names.branch_zero_name.BranchZeroName.TheVariants.{Blez, Bgtz, Blezl, Bgtzl}
use Rattle.mips_definition.specs.declared.names.branch_sign_name.BranchSignName.{BranchSignName}
use Rattle.mips_definition.specs.declared.names.branch_sign_name.BranchSignName.TheVariants.{Bltz, Bgez, Bltzal, Bgezal, Bltzl, Bgezl, Bltzall, Bgezall}
use Rattle.mips_definition.specs.declared.inst.Inst.{Inst}
use Rattle.mips_definition.specs.declared.inst.Inst.TheVariants as inst
use Rattle.delay_slots.specs.declared.unit.Unit.{Unit}
use Rattle.delay_slots.specs.declared.unit.Unit.TheVariants as units
use Rattle.jvm_definition.specs.declared.branch_name.BranchName.{BranchName}
use Rattle.jvm_definition.specs.declared.branch_name.BranchName.TheVariants.{Iflt, Ifge, Ifgt, Ifle, IfIcmpeq, IfIcmpne}
use Rattle.jvm_definition.specs.declared.kind.Kind.{Kind}
use Rattle.jvm_definition.specs.declared.kind.Kind.TheVariants.{Int}
use Rattle.jvm_definition.specs.Typing.{TypeFrame, with_stack}
use Rattle.emit_instructions.specs.Access.{keeps, get_register}
use Rattle.emit_instructions.specs.Branching.{equal_test, zero_test, sign_test}
use Rattle.meter.specs.Guards.{counted_code, likely_guard, likely_test, branch_guard, transfer_guard, guard_code}
use Rattle.emit_types_laws.specs.Judging.{Rules, Leads, IsTest}
use Rattle.emit_types_laws.proofs.TypedSteps.Flow.{flows-from}
use Rattle.emit_types_laws.proofs.TypedSteps.Joining.{codes-lead, either-leads}
use Rattle.emit_types_laws.proofs.TypedSteps.KindOrder.{same}
use Rattle.emit_types_laws.specs.Knowing.{unknown}
use Rattle.emit_types_laws.proofs.TypedCode.Registers.{Reads, get-flow}

none-kept : (r : ℕ) → keeps 0 r ≡ false
none-kept r = by_width (nat_lt r 32)
  where
    by_width : (b : Bool) → (b && bit_at 0 r == 1) ≡ false
    by_width true = ap (λ n. n == 1) (bit_at-zero r)
    by_width false = refl

in-fields : (r : ℕ) (locals : ℕ → Kind) → Reads 0 r locals
in-fields r locals some kept = absurd (false≢true (sym (none-kept r) ∙ kept))

-- so many operands are on the stack
abbrev with_operands : List Kind → TypeFrame
with_operands kinds = with_stack unknown kinds

module _ (rules : Rules) where
  counted : (turns at : ℕ) → Leads rules (counted_code turns at) unknown unknown
  counted turns at = flows-from rules (counted_code turns at) unknown (unknown ∷ []) (same _, (same _, tt))

  either : (test : BranchName) (kinds : List Kind) (at : ℕ) → IsTest test (with_operands kinds) unknown
      → Leads rules (likely_guard test at) (with_operands kinds) unknown
  either test kinds at is =
      either-leads rules test (counted_code 1 at) (counted_code 2 at) (with_operands kinds) unknown unknown 12 11 is refl refl refl
      (counted 1 at) (counted 2 at)

  got : (r : ℕ) → Leads rules (get_register 0 r ∷ []) unknown (with_operands (Int ∷ []))
  got r =
      flows-from rules (get_register 0 r ∷ []) unknown (with_operands (Int ∷ []) ∷ [])
      (get-flow rules 0 r _ _ _ (in-fields r unknown.locals) refl (same _, tt))

  got-two : (rs rt : ℕ) → Leads rules (get_register 0 rs ∷ get_register 0 rt ∷ []) unknown (with_operands (Int ∷ Int ∷ []))
  got-two rs rt =
      flows-from rules (get_register 0 rs ∷ get_register 0 rt ∷ []) unknown (with_operands (Int ∷ Int ∷ []) ∷ [])
      (get-flow rules 0 rs _ _ _ (in-fields rs unknown.locals) refl
      (get-flow rules 0 rt _ _ _ (in-fields rt unknown.locals) refl (same _, tt)))

  -- a likely branch by one register, or by two
  by-one : (test : BranchName) (rs at : ℕ) → IsTest test (with_operands (Int ∷ [])) unknown
      → Leads rules (get_register 0 rs ∷ likely_guard test at) unknown unknown
  by-one test rs at is =
      codes-lead rules (get_register 0 rs ∷ []) (likely_guard test at) unknown (with_operands (Int ∷ [])) (unknown ∷ []) (got rs)
      (either test (Int ∷ []) at is)

  by-two : (test : BranchName) (rs rt at : ℕ) → IsTest test (with_operands (Int ∷ Int ∷ [])) unknown
      → Leads rules (get_register 0 rs ∷ get_register 0 rt ∷ likely_guard test at) unknown unknown
  by-two test rs rt at is =
      codes-lead rules (get_register 0 rs ∷ get_register 0 rt ∷ []) (likely_guard test at) unknown (with_operands (Int ∷ Int ∷ []))
      (unknown ∷ []) (got-two rs rt) (either test (Int ∷ Int ∷ []) at is)

  by-equal : (name : BranchEqualName) (rs rt at : ℕ)
      → Leads rules (branch_guard (likely_test (equal_likely name) (equal_test name)) (get_register 0 rs ∷ get_register 0 rt ∷ []) at) unknown
      unknown
  by-equal Beq rs rt at = counted 2 at
  by-equal Bne rs rt at = counted 2 at
  by-equal Beql rs rt at = by-two IfIcmpeq rs rt at (record { plain = refl; fits = refl; within = refl })
  by-equal Bnel rs rt at = by-two IfIcmpne rs rt at (record { plain = refl; fits = refl; within = refl })

  by-zero : (name : BranchZeroName) (rs at : ℕ)
      → Leads rules (branch_guard (likely_test (zero_likely name) (zero_test name)) (get_register 0 rs ∷ []) at) unknown unknown
  by-zero Blez rs at = counted 2 at
  by-zero Bgtz rs at = counted 2 at
  by-zero Blezl rs at = by-one Ifle rs at (record { plain = refl; fits = refl; within = refl })
  by-zero Bgtzl rs at = by-one Ifgt rs at (record { plain = refl; fits = refl; within = refl })

  by-sign : (name : BranchSignName) (rs at : ℕ)
      → Leads rules (branch_guard (likely_test (sign_likely name) (sign_test name)) (get_register 0 rs ∷ []) at) unknown unknown
  by-sign Bltz rs at = counted 2 at
  by-sign Bgez rs at = counted 2 at
  by-sign Bltzal rs at = counted 2 at
  by-sign Bgezal rs at = counted 2 at
  by-sign Bltzl rs at = by-one Iflt rs at (record { plain = refl; fits = refl; within = refl })
  by-sign Bgezl rs at = by-one Ifge rs at (record { plain = refl; fits = refl; within = refl })
  by-sign Bltzall rs at = by-one Iflt rs at (record { plain = refl; fits = refl; within = refl })
  by-sign Bgezall rs at = by-one Ifge rs at (record { plain = refl; fits = refl; within = refl })

  transfer : (i : Inst) (at : ℕ) → Leads rules (transfer_guard i at) unknown unknown
  transfer (inst.BranchEqual name rs rt imm) at = by-equal name rs rt at
  transfer (inst.BranchZero name rs imm) at = by-zero name rs at
  transfer (inst.BranchSign name rs imm) at = by-sign name rs at
  transfer other at = counted 2 at

  pub guard-leads : (unit : Unit) (at : ℕ) → Leads rules (guard_code unit at) unknown unknown
  guard-leads (units.Plain i) at = counted 1 at
  guard-leads (units.Branch i slot) at = transfer i at
  guard-leads (units.SlotMissing i) at = transfer i at
  guard-leads (units.SlotIsBranch i word) at = transfer i at
  guard-leads units.Call at = counted 1 at
  guard-leads (units.Trap kind value) at = counted 1 at
