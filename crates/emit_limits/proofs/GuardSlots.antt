-- The guard of a unit pushes its address, and other constants that take no slots.
use Rattle.std.proofs.Common.{◌≡◌, ℕ, ◌≤◌, Bool, true, false, List, [], ◌∷◌, ◌++◌, Option, Some, None, refl, arith}
use Rattle.mips_definition.specs.Branches.{equal_likely, zero_likely, sign_likely}
use Rattle.mips_definition.specs.declared.inst.Inst.{Inst}
use Rattle.mips_definition.specs.declared.inst.Inst.TheVariants as inst
use Rattle.delay_slots.specs.declared.unit.Unit.{Unit}
use Rattle.delay_slots.specs.declared.unit.Unit.TheVariants.{Plain, Branch, SlotMissing, SlotIsBranch, Call, Trap}
use Rattle.jvm_definition.specs.declared.branch_name.BranchName.{BranchName}
use Rattle.jvm_definition.specs.declared.branch_name.BranchName.TheVariants.{Goto}
use Rattle.jvm_definition.specs.declared.constant.Constant.{Constant}
use Rattle.jvm_definition.specs.declared.constant.Constant.TheVariants.{Int}
use Rattle.emit_steps.specs.declared.step.Step.{Step}
use Rattle.emit_steps.specs.declared.step.Step.TheVariants.{Skips}
use Rattle.emit_instructions.specs.Access.{get_register}
use Rattle.emit_instructions.specs.Branching.{equal_test, zero_test, sign_test}
use Rattle.emit_instructions.proofs.Forms.{Reads}
use Rattle.meter.specs.Guards.{counted_code, likely_guard, likely_test, branch_guard, transfer_guard, guard_code}
use Rattle.emit_spans.specs.Parts.{front_of}
use Rattle.emit_limits.proofs.Counting.{all_slots, within-append, within-free, within-self}
use Rattle.emit_limits.proofs.StepSlots.{word-slots, part-slots}
use Rattle.emit_limits.proofs.Pushing.{Pushes, pushes-append, pushes-free}

abbrev pub front_goals : Bool → ℕ → List Constant
front_goals true at = Int at ∷ []
front_goals false at = []

pub front-goals-few : (metered : Bool) (at : ℕ) → all_slots (front_goals metered at) ≤ 1
front-goals-few true at = word-slots at
front-goals-few false at = omega arith

counted-pushes : (turns at : ℕ) → all_slots (Int turns ∷ []) ≡ 0 → Pushes (Int at ∷ []) (counted_code turns at)
counted-pushes turns at none =
    let before = Int turns ∷ Int 12 ∷ [] in
    let behind = Int 0 ∷ Int turns ∷ [] in
    within-append before (Int at ∷ behind) (Int at ∷ []) (within-free before (Int at ∷ []) (omega (arith, none)))
    (within-append (Int at ∷ []) behind (Int at ∷ []) (within-self (Int at ∷ [])) (within-free behind (Int at ∷ []) (omega (arith, none))))

likely-pushes : (test : BranchName) (at : ℕ) → Pushes (Int at ∷ []) (likely_guard test at)
likely-pushes test at =
    pushes-append (Int at ∷ []) (counted_code 1 at) (Skips Goto 11 ∷ counted_code 2 at) (counted-pushes 1 at refl) (counted-pushes 2 at refl)

branch-pushes : (likely : Option BranchName) (pushed : List Step) (at : ℕ) → Pushes (Int at ∷ []) pushed
    → Pushes (Int at ∷ []) (branch_guard likely pushed at)
branch-pushes None pushed at own = counted-pushes 2 at refl
branch-pushes (Some test) pushed at own = pushes-append (Int at ∷ []) pushed (likely_guard test at) own (likely-pushes test at)

got-pushes : (r at : ℕ) → Pushes (Int at ∷ []) (get_register 0 r ∷ [])
got-pushes r at = pushes-free (Int at ∷ []) (get_register 0 r ∷ []) (omega (arith, part-slots 0 (Reads r)))

transfer-pushes : (i : Inst) (at : ℕ) → Pushes (Int at ∷ []) (transfer_guard i at)
transfer-pushes (inst.BranchEqual name rs rt imm) at =
    branch-pushes (likely_test (equal_likely name) (equal_test name)) (get_register 0 rs ∷ get_register 0 rt ∷ []) at
    (pushes-append (Int at ∷ []) (get_register 0 rs ∷ []) (get_register 0 rt ∷ []) (got-pushes rs at) (got-pushes rt at))
transfer-pushes (inst.BranchZero name rs imm) at =
    branch-pushes (likely_test (zero_likely name) (zero_test name)) (get_register 0 rs ∷ []) at (got-pushes rs at)
transfer-pushes (inst.BranchSign name rs imm) at =
    branch-pushes (likely_test (sign_likely name) (sign_test name)) (get_register 0 rs ∷ []) at (got-pushes rs at)
transfer-pushes other at = counted-pushes 2 at refl

guard-pushes : (unit : Unit) (at : ℕ) → Pushes (Int at ∷ []) (guard_code unit at)
guard-pushes (Plain i) at = counted-pushes 1 at refl
guard-pushes (Branch i slot) at = transfer-pushes i at
guard-pushes (SlotMissing i) at = transfer-pushes i at
guard-pushes (SlotIsBranch i word) at = transfer-pushes i at
guard-pushes Call at = counted-pushes 1 at refl
guard-pushes (Trap kind value) at = counted-pushes 1 at refl

pub front-pushes : (metered : Bool) (unit : Unit) (at : ℕ) → Pushes (front_goals metered at) (front_of metered unit at)
front-pushes true unit at = guard-pushes unit at
front-pushes false unit at = within-self []
