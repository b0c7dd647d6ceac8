-- What guards count, and which fields they write.
use Rattle.std.proofs.Common.{◌≡◌, ◌≢◌, ℕ, ◌+◌, ◌≤◌, if◌then◌else◌, List, [], ◌∷◌, Option, Some, None, refl, ap, sym, arith}
use Rattle.std.proofs.lemmas.Bool.{ne_eqb}
use Rattle.run_definition.specs.declared.order.Order.{Order}
use Rattle.mips_definition.specs.Branches.{equal_likely, zero_likely, sign_likely}
use Rattle.mips_definition.specs.declared.inst.Inst.{Inst}
use Rattle.mips_definition.specs.declared.inst.Inst.TheVariants as inst
use Rattle.delay_slots.specs.declared.unit.Unit.{Unit}
use Rattle.delay_slots.specs.declared.unit.Unit.TheVariants.{Plain, Branch, SlotMissing, SlotIsBranch, Call, Trap}
use Rattle.jvm_definition.specs.declared.branch_name.BranchName.{BranchName}
use Rattle.jvm_definition.specs.declared.instruction.Instruction.{Instruction}
use Rattle.jvm_definition.specs.declared.instruction.Instruction.TheVariants as instructions
use Rattle.jvm_definition.specs.declared.local_kind.LocalKind.TheVariants as local_kinds
use Rattle.jvm_definition.specs.declared.constant.Constant.TheVariants as constants
use Rattle.jvm_definition.specs.declared.kind.Kind.TheVariants as kinds
use Rattle.emit_steps.specs.declared.step.Step.{Step}
use Rattle.emit_layout.specs.FieldNumbers.{register_field}
use Rattle.emit_instructions.specs.Access.{get_register}
use Rattle.emit_instructions.specs.Branching.{equal_test, zero_test, sign_test}
use Rattle.emit_instructions.proofs.Forms.{read-most}
use Rattle.emit_paths_laws.specs.Classes.{reads, chars, switches, entries, puts}
use Rattle.emit_paths_laws.specs.Paths.{step_weight, weigh}
use Rattle.emit_simulation_laws.specs.Sites.{called_weight, whole_weight}
use Rattle.meter.specs.Guards.{left_field, counted_code, likely_guard, likely_test, branch_guard, transfer_guard, guard_code}
use Rattle.meter_laws.specs.Laws.{CountsNothing}

module _ (order : Order) (weight : Instruction → ℕ) where
  -- one step with what it calls
  abbrev whole_step : Step → ℕ
  whole_step s = step_weight weight s + called_weight order weight s

  abbrev whole : List Step → ℕ
  whole code = whole_weight order code weight

  -- where nothing that a guard does counts, no guard does
  record Counts_none : Type 0 where
    pub pushes : (n : ℕ) → weight (instructions.Push (constants.Int n)) ≡ 0
    pub loads : (r : ℕ) → weight (instructions.Load local_kinds.Int r) ≡ 0
    pub gets : (f : ℕ) → weight (instructions.Get f kinds.Int) ≡ 0
    pub counted : (turns at : ℕ) → whole (counted_code turns at) ≡ 0
    pub likely : (test : BranchName) (at : ℕ) → whole (likely_guard test at) ≡ 0

  module _ (none : Counts_none) where
    get-none : (r : ℕ) → whole_step (get_register 0 r) ≤ 0
    get-none r = read-most whole_step 0 0 r (omega (arith, none.pushes 0)) (omega (arith, none.loads r)) (omega (arith, none.gets (register_field r)))

    pair-none : (test : Option BranchName) (rs rt at : ℕ) → whole (branch_guard test (get_register 0 rs ∷ get_register 0 rt ∷ []) at) ≡ 0
    pair-none None rs rt at = none.counted 2 at
    pair-none (Some test) rs rt at = omega (arith, get-none rs, get-none rt, none.likely test at)

    one-none : (test : Option BranchName) (rs at : ℕ) → whole (branch_guard test (get_register 0 rs ∷ []) at) ≡ 0
    one-none None rs at = none.counted 2 at
    one-none (Some test) rs at = omega (arith, get-none rs, none.likely test at)

    transfer-none : (i : Inst) (at : ℕ) → whole (transfer_guard i at) ≡ 0
    transfer-none (inst.BranchEqual name rs rt imm) at = pair-none (likely_test (equal_likely name) (equal_test name)) rs rt at
    transfer-none (inst.BranchZero name rs imm) at = one-none (likely_test (zero_likely name) (zero_test name)) rs at
    transfer-none (inst.BranchSign name rs imm) at = one-none (likely_test (sign_likely name) (sign_test name)) rs at
    transfer-none other at = none.counted 2 at

    unit-none : (unit : Unit) (at : ℕ) → whole (guard_code unit at) ≡ 0
    unit-none (Plain i) at = none.counted 1 at
    unit-none (Branch i slot) at = transfer-none i at
    unit-none (SlotMissing i) at = transfer-none i at
    unit-none (SlotIsBranch i word) at = transfer-none i at
    unit-none Call at = none.counted 1 at
    unit-none (Trap kind value) at = none.counted 1 at

pub guard-counts : (order : Order) (unit : Unit) (at : ℕ) → CountsNothing (whole_weight order (guard_code unit at))
guard-counts order unit at = record {
  no_reads = unit-none order reads (record { pushes = λ n. refl; loads = λ r. refl; gets = λ f. refl; counted = λ turns at. refl; likely = λ test at. refl }) unit at;
  no_chars = unit-none order chars (record { pushes = λ n. refl; loads = λ r. refl; gets = λ f. refl; counted = λ turns at. refl; likely = λ test at. refl }) unit at;
  no_switches = unit-none order switches (record { pushes = λ n. refl; loads = λ r. refl; gets = λ f. refl; counted = λ turns at. refl; likely = λ test at. refl }) unit at;
  no_entries = λ is_span.
      unit-none order (entries is_span) (record { pushes = λ n. refl; loads = λ r. refl; gets = λ f. refl; counted = λ turns at. refl; likely = λ test at. refl }) unit at;
}

-- the meter is no other field
puts-none : (f : ℕ) → f ≢ left_field → puts f (instructions.Put left_field kinds.Int) ≡ 0
puts-none f other = ap (λ b. if b then 1 else 0) (ne_eqb left_field f (λ same. other (sym same)))

pub counted-counts : (turns at : ℕ) → CountsNothing (λ weight. weigh weight (counted_code turns at))
counted-counts turns at = record { no_reads = refl; no_chars = refl; no_switches = refl; no_entries = λ is_span. refl }

pub counted-writes : (turns at f : ℕ) → f ≢ left_field → weigh (puts f) (counted_code turns at) ≡ 0
counted-writes turns at f other = let none = puts-none f other in omega (arith, none)

pub guard-writes : (order : Order) (unit : Unit) (at f : ℕ) → f ≢ left_field → whole_weight order (guard_code unit at) (puts f) ≡ 0
guard-writes order unit at f other =
    let none = puts-none f other in
    unit-none order (puts f)
    (record {
      pushes = λ n. refl;
      loads = λ r. refl;
      gets = λ g. refl;
      counted = λ turns at. omega (arith, none);
      likely = λ test at. omega (arith, none);
    }) unit at
