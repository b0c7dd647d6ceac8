-- Guards are small, and no branch goes past their end.
use Rattle.std.proofs.Common.{◌≡◌, ℕ, ◌≤◌, ◌==◌, nat_lt, Bool, true, false, if◌then◌else◌, pos, negsuc, List, [], ◌∷◌, Option, Some, None, refl, ◌∙◌, arith}
use Rattle.run_definition.specs.Words.{signed_of}
use Rattle.mips_definition.specs.Branches.{equal_likely, zero_likely, sign_likely}
use Rattle.mips_definition.specs.declared.inst.Inst.{Inst}
use Rattle.mips_definition.specs.declared.inst.Inst.TheVariants as inst
use Rattle.delay_slots.specs.declared.unit.Unit.{Unit}
use Rattle.delay_slots.specs.declared.unit.Unit.TheVariants.{Plain, Branch, SlotMissing, SlotIsBranch, Call, Trap}
use Rattle.jvm_definition.specs.declared.branch_name.BranchName.{BranchName}
use Rattle.jvm_definition.specs.declared.local_kind.LocalKind.TheVariants as local_kinds
use Rattle.jvm_definition.specs.declared.instruction.Instruction.TheVariants as instructions
use Rattle.emit_steps.specs.declared.step.Step.{Step}
use Rattle.emit_steps.specs.declared.step.Step.TheVariants.{Does}
use Rattle.emit_steps.specs.Outcomes.{stays_within}
use Rattle.emit_steps.specs.Widths.{lies_from, local_width, width, size}
use Rattle.emit_layout.specs.FieldNumbers.{register_field}
use Rattle.emit_instructions.specs.Access.{push_word, get_field, keeps, get_register}
use Rattle.emit_instructions.specs.Branching.{equal_test, zero_test, sign_test}
use Rattle.emit_instructions.proofs.Forms.{either-most, read-most}
use Rattle.meter.specs.Guards.{counted_code, likely_guard, likely_test, branch_guard, transfer_guard, guard_code}

-- ---- bytes

word-bytes : (w : ℕ) → width (push_word w) ≤ 3
word-bytes w =
    let z = signed_of w in
    let itself = λ (n : ℕ). n in
    either-most itself (lies_from (negsuc 0) (pos 5) z) 1 (if lies_from (negsuc 127) (pos 127) z then 2 else 3) 3 (omega arith)
    (either-most itself (lies_from (negsuc 127) (pos 127) z) 2 3 3 (omega arith) (omega arith))

local-bytes : (r : ℕ) → local_width r ≤ 3
local-bytes r = either-most (λ (n : ℕ). n) (nat_lt r 4) 1 2 3 (omega arith) (omega arith)

get-bytes : (r : ℕ) → width (get_register 0 r) ≤ 3
get-bytes r = read-most width 3 0 r (omega arith) (local-bytes r) (omega arith)

counted-bytes : (turns at : ℕ) → size (counted_code turns at) ≤ 33
counted-bytes turns at = omega (arith, word-bytes turns, word-bytes 12, word-bytes at, word-bytes 0)

likely-bytes : (test : BranchName) (at : ℕ) → size (likely_guard test at) ≤ 72
likely-bytes test at = omega (arith, word-bytes 1, word-bytes 2, word-bytes 12, word-bytes at, word-bytes 0)

pair-bytes : (likely : Option BranchName) (rs rt at : ℕ) → size (branch_guard likely (get_register 0 rs ∷ get_register 0 rt ∷ []) at) ≤ 128
pair-bytes None rs rt at = omega (arith, counted-bytes 2 at)
pair-bytes (Some test) rs rt at = omega (arith, get-bytes rs, get-bytes rt, likely-bytes test at)

one-bytes : (likely : Option BranchName) (rs at : ℕ) → size (branch_guard likely (get_register 0 rs ∷ []) at) ≤ 128
one-bytes None rs at = omega (arith, counted-bytes 2 at)
one-bytes (Some test) rs at = omega (arith, get-bytes rs, likely-bytes test at)

transfer-bytes : (i : Inst) (at : ℕ) → size (transfer_guard i at) ≤ 128
transfer-bytes (inst.BranchEqual name rs rt imm) at = pair-bytes (likely_test (equal_likely name) (equal_test name)) rs rt at
transfer-bytes (inst.BranchZero name rs imm) at = one-bytes (likely_test (zero_likely name) (zero_test name)) rs at
transfer-bytes (inst.BranchSign name rs imm) at = one-bytes (likely_test (sign_likely name) (sign_test name)) rs at
transfer-bytes other at = omega (arith, counted-bytes 2 at)

pub guard-bytes : (unit : Unit) (at : ℕ) → size (guard_code unit at) ≤ 128
guard-bytes (Plain i) at = omega (arith, counted-bytes 1 at)
guard-bytes (Branch i slot) at = transfer-bytes i at
guard-bytes (SlotMissing i) at = transfer-bytes i at
guard-bytes (SlotIsBranch i word) at = transfer-bytes i at
guard-bytes Call at = omega (arith, counted-bytes 1 at)
guard-bytes (Trap kind value) at = omega (arith, counted-bytes 1 at)

-- ---- branches

either-within : (b : Bool) (s t : Step) (code : List Step) → stays_within (s ∷ code) ≡ stays_within code
    → stays_within (t ∷ code) ≡ stays_within code → stays_within ((if b then s else t) ∷ code) ≡ stays_within code
either-within true s t code first second = first
either-within false s t code first second = second

get-within : (r : ℕ) (code : List Step) → stays_within (get_register 0 r ∷ code) ≡ stays_within code
get-within r code =
    let kept = Does (instructions.Load local_kinds.Int r) in
    let field = get_field (register_field r) in
    either-within (r == 0) (push_word 0) (if keeps 0 r then kept else field) code refl
    (either-within (keeps 0 r) kept field code refl refl)

pair-within : (likely : Option BranchName) (rs rt at : ℕ)
    → stays_within (branch_guard likely (get_register 0 rs ∷ get_register 0 rt ∷ []) at) ≡ true
pair-within None rs rt at = refl
pair-within (Some test) rs rt at =
    get-within rs (get_register 0 rt ∷ likely_guard test at) ∙ get-within rt (likely_guard test at)

one-within : (likely : Option BranchName) (rs at : ℕ) → stays_within (branch_guard likely (get_register 0 rs ∷ []) at) ≡ true
one-within None rs at = refl
one-within (Some test) rs at = get-within rs (likely_guard test at)

transfer-within : (i : Inst) (at : ℕ) → stays_within (transfer_guard i at) ≡ true
transfer-within (inst.BranchEqual name rs rt imm) at = pair-within (likely_test (equal_likely name) (equal_test name)) rs rt at
transfer-within (inst.BranchZero name rs imm) at = one-within (likely_test (zero_likely name) (zero_test name)) rs at
transfer-within (inst.BranchSign name rs imm) at = one-within (likely_test (sign_likely name) (sign_test name)) rs at
transfer-within other at = refl

pub guard-within : (unit : Unit) (at : ℕ) → stays_within (guard_code unit at) ≡ true
guard-within (Plain i) at = refl
guard-within (Branch i slot) at = transfer-within i at
guard-within (SlotMissing i) at = transfer-within i at
guard-within (SlotIsBranch i word) at = transfer-within i at
guard-within Call at = refl
guard-within (Trap kind value) at = refl
