-- The code of units: branches and jumps with their delay slots.
use Rattle.std.proofs.Common.{◌≡◌, ℕ, ◌+◌, ◌<◌, ◌≤◌, ◌==◌, Bool, true, false, if◌then◌else◌, List, [], ◌∷◌, ◌++◌, length, Option, Some, None, refl, subst, arith}
use Rattle.std.specs.Prelude.{◌&&◌, nat_lt}
use Rattle.std.specs.List.{list_all}
use Rattle.std.proofs.lemmas.Bool.{false≢true, eqb-false, ltb-true, and_parts}
use Rattle.mips_definition.specs.Effect.{fetch_fault, branch_in_slot_fault}
use Rattle.mips_definition.specs.Targets.{branch_target}
use Rattle.mips_definition.specs.Branches.{equal_likely, zero_likely, sign_likely}
use Rattle.mips_definition.specs.declared.names.branch_equal_name.BranchEqualName.{BranchEqualName}
use Rattle.mips_definition.specs.declared.names.branch_equal_name.BranchEqualName.TheVariants.{Beq, Bne, Beql, Bnel}
use Rattle.mips_definition.specs.declared.names.branch_zero_name.BranchZeroName.{BranchZeroName}
use Rattle.mips_definition.specs.declared.names.branch_zero_name.BranchZeroName.TheVariants.{Blez, Bgtz, Blezl, Bgtzl}
use Rattle.mips_definition.specs.declared.names.branch_sign_name.BranchSignName.{BranchSignName}
use Rattle.mips_definition.specs.declared.names.branch_sign_name.BranchSignName.TheVariants.{Bltz, Bgez, Bltzal, Bgezal, Bltzl, Bgezl, Bltzall, Bgezall}
use Rattle.mips_definition.specs.declared.names.jump_name.JumpName.TheVariants.{J, Jal}
use Rattle.mips_definition.specs.declared.inst.Inst.{Inst}
use Rattle.mips_definition.specs.declared.inst.Inst.TheVariants as inst
use Rattle.delay_slots.specs.declared.unit.Unit.{Unit}
use Rattle.delay_slots.specs.declared.unit.Unit.TheVariants as units
use Rattle.delay_slots.specs.Units.{is_branch}
use Rattle.block_builder.specs.Registers.{Register, general, special, read_by, written_by, written_by_branch_sign}
use Rattle.jvm_definition.specs.declared.branch_name.BranchName.{BranchName}
use Rattle.jvm_definition.specs.declared.branch_name.BranchName.TheVariants.{Iflt, Ifge, Ifgt, Ifle, IfIcmpeq, IfIcmpne, Goto}
use Rattle.jvm_definition.specs.declared.kind.Kind.{Kind}
use Rattle.jvm_definition.specs.declared.kind.Kind.TheVariants.{Top, Int}
use Rattle.jvm_definition.specs.declared.instruction.Instruction.TheVariants.{Nop}
use Rattle.jvm_definition.specs.Typing.{TypeFrame, Below, below, no_top, slots_of, with_stack}
use Rattle.emit_steps.specs.declared.step.Step.{Step}
use Rattle.emit_steps.specs.declared.step.Step.TheVariants.{Does, Skips}
use Rattle.emit_instructions.specs.Access.{keeps, get_register}
use Rattle.emit_instructions.specs.Branching.{goes_to_code, behind_slot, link_code, equal_test, zero_test, sign_test, sign_link, conditional_code, transfer_code}
use Rattle.emit_instructions.specs.Faulting.{fault_code}
use Rattle.emit_instructions.specs.Units.{instruction_code, next_address}
use Rattle.word_emitter.specs.Pieces.{is_likely}
use Rattle.emit_simulation_laws.specs.Knowing.{IsKnown, gaining, AreKnown, gained}
use Rattle.emit_types_laws.specs.Judging.{Rules, Leads, IsTest}
use Rattle.emit_types_laws.proofs.TypedSteps.Flow.{flows-from}
use Rattle.emit_types_laws.proofs.TypedSteps.Joining.{codes-lead, nothing-leads, either-leads, left-above}
use Rattle.emit_types_laws.proofs.TypedSteps.KindOrder.{same, below-refl}
use Rattle.emit_types_laws.specs.Knowing.{knowing, goal_of, left_by, operands_behind, UnitTyped}
use Rattle.emit_types_laws.proofs.TypedSteps.Framed.{framed-leads, is_moving_step, plain_rules}
use Rattle.emit_types_laws.proofs.TypedCode.Moving.{instruction-moves, link-moves}
use Rattle.emit_types_laws.proofs.TypedCode.Registers.{get-flow, known-reads}
use Rattle.emit_types_laws.proofs.TypedCode.Instructions.{set, fault, call, instruction-typed}

-- ---- frames

-- more registers may be known where these are known already
more-below : (z kept is_known more : Bool) (goal : Kind) → (z ≡ false → kept ≡ true → more ≡ true → is_known ≡ true)
    → below (if z then goal else if kept && is_known then Int else Top) (if z then goal else if kept && more then Int else Top) ≡ true
more-below true kept is_known more goal h = below-refl goal
more-below false false is_known more goal h = refl
more-below false true true true goal h = refl
more-below false true true false goal h = refl
more-below false true false false goal h = refl
more-below false true false true goal h = absurd (false≢true (h refl refl refl))

pub knowing-below : (bank : ℕ) (known more : ℕ → Bool) (goal : Kind) → ((r : ℕ) → 0 < r → r < 32 → more r ≡ true → known r ≡ true)
    → Below (knowing bank known goal) (knowing bank more goal)
knowing-below bank known more goal h = record {
  locals = λ k. more-below (k == 0) (keeps bank k) (known k) (more k) goal
      (λ some kept is. let differ = eqb-false k 0 some in h k (omega arith) (ltb-true k 32 (and_parts (nat_lt k 32) _ kept).0) is);
  stack = refl;
}

settled : (z kept is_known : Bool) (goal : Kind)
    → below (if z then Int else if z then goal else if kept && is_known then Int else Top)
    (if z then Int else if kept && is_known then Int else Top) ≡ true
settled true kept is_known goal = refl
settled false kept is_known goal = below-refl (if kept && is_known then Int else Top)

settled-below : (bank : ℕ) (known : ℕ → Bool) (goal : Kind)
    → Below (record { locals = λ k. if k == 0 then Int else (knowing bank known goal).locals k; stack = [] }) (knowing bank known Int)
settled-below bank known goal = record { locals = λ k. settled (k == 0) (keeps bank k) (known k) goal; stack = refl }

-- what a link writes
abbrev linked : Option ℕ → (ℕ → Bool) → ℕ → Bool
linked None known = known
linked (Some r) known = gaining known r

-- ---- what a branch leaves

by-likely : (b : Bool) (kinds : List Kind) → no_top kinds ≡ true → no_top (if b then [] else kinds) ≡ true
by-likely true kinds plain = refl
by-likely false kinds plain = plain

left-plain : (i : Inst) → no_top (left_by i) ≡ true
left-plain (inst.BranchEqual name rs rt imm) = by-likely (equal_likely name) (Int ∷ Int ∷ []) refl
left-plain (inst.BranchZero name rs imm) = by-likely (zero_likely name) (Int ∷ []) refl
left-plain (inst.BranchSign name rs imm) = by-likely (sign_likely name) (Int ∷ []) refl
left-plain _ = refl

at-most : (b : Bool) (kinds : List Kind) → slots_of kinds ≤ 2 → slots_of (if b then [] else kinds) ≤ 2
at-most true kinds few = omega arith
at-most false kinds few = few

left-few : (i : Inst) → slots_of (left_by i) ≤ 2
left-few (inst.BranchEqual name rs rt imm) = at-most (equal_likely name) (Int ∷ Int ∷ []) (omega arith)
left-few (inst.BranchZero name rs imm) = at-most (zero_likely name) (Int ∷ []) (omega arith)
left-few (inst.BranchSign name rs imm) = at-most (sign_likely name) (Int ∷ []) (omega arith)
left-few _ = omega arith

pub behind-plain : (unit : Unit) → no_top (operands_behind unit) ≡ true
behind-plain (units.Branch i slot) = left-plain i
behind-plain (units.SlotMissing i) = left-plain i
behind-plain (units.SlotIsBranch i word) = left-plain i
behind-plain _ = refl

pub behind-few : (unit : Unit) → slots_of (operands_behind unit) ≤ 2
behind-few (units.Branch i slot) = left-few i
behind-few (units.SlotMissing i) = left-few i
behind-few (units.SlotIsBranch i word) = left-few i
behind-few _ = omega arith

module _ (rules : Rules) (room : 2 ≤ rules.more) (bank : ℕ) (known : ℕ → Bool) (goal : Kind) (at : ℕ) (slot : List Step) (later : ℕ → Bool) where
  -- ---- parts

  gone : (target : ℕ) → Leads rules (goes_to_code target) (knowing bank known goal) (knowing bank known Int)
  gone target = flows-from rules (goes_to_code target) (knowing bank known goal) (knowing bank known Int ∷ []) (settled-below bank known goal, tt)

  link-written : (link : Option ℕ) → Leads rules (link_code bank link at) (knowing bank known Int) (knowing bank (linked link known) Int)
  link-written None = nothing-leads rules (knowing bank known Int)
  link-written (Some r) = set rules bank known Int (behind_slot at) r

  gone-linked : (target : ℕ) (link : Option ℕ)
      → Leads rules (goes_to_code target ++ link_code bank link at) (knowing bank known goal) (knowing bank (linked link known) Int)
  gone-linked target link =
      codes-lead rules (goes_to_code target) (link_code bank link at) (knowing bank known goal) (knowing bank known Int)
      (knowing bank (linked link known) Int ∷ [])
      (gone target) (link-written link)

  then-slot : (first : List Step) (link : Option ℕ) → Leads rules first (knowing bank known goal) (knowing bank (linked link known) Int)
      → Leads rules slot (knowing bank (linked link known) Int) (knowing bank later Int)
      → Leads rules (first ++ slot) (knowing bank known goal) (knowing bank later Int)
  then-slot first link t s =
      codes-lead rules first slot (knowing bank known goal) (knowing bank (linked link known) Int) (knowing bank later Int ∷ []) t s

  -- ---- conditional branches

  -- such operands are on the stack
  abbrev holding : (ℕ → Bool) → List Kind → TypeFrame
  holding some kinds = with_stack (knowing bank some goal) kinds

  -- the link, and the slot, of one that is not likely
  link-above : (kinds : List Kind) → no_top kinds ≡ true → slots_of kinds ≤ 2 → (link : Option ℕ)
      → Leads rules (link_code bank link at) (holding known kinds) (holding (linked link known) kinds)
  link-above kinds plain few None = nothing-leads rules (holding known kinds)
  link-above kinds plain few (Some r) =
      framed-leads rules kinds plain (omega (arith, few, room)) (link_code bank (Some r) at) (knowing bank known goal)
      (knowing bank (gaining known r) goal) (link-moves bank (behind_slot at) r)
      (set (plain_rules rules.program) bank known goal (behind_slot at) r)

  plainly : (kinds : List Kind) → no_top kinds ≡ true → slots_of kinds ≤ 2 → (link : Option ℕ)
      → Leads rules slot (holding (linked link known) kinds) (holding later kinds)
      → Leads rules (link_code bank link at ++ slot) (holding known kinds) (holding later kinds)
  plainly kinds plain few link s =
      codes-lead rules (link_code bank link at) slot (holding known kinds) (holding (linked link known) kinds)
      (holding later kinds ∷ []) (link-above kinds plain few link) s

  -- a likely one
  likely : (test : BranchName) (from : TypeFrame) (target behind k j : ℕ) (link : Option ℕ) → IsTest test from (knowing bank known goal)
      → k ≡ length (goes_to_code behind ++ link_code bank link at) + 1 → j ≡ length (goes_to_code target ++ link_code bank link at ++ slot)
      → Below (knowing bank (linked link known) Int) (knowing bank later Int)
      → Leads rules slot (knowing bank (linked link known) Int) (knowing bank later Int)
      → Leads rules (Skips test k ∷ (goes_to_code behind ++ link_code bank link at ++ Skips Goto j ∷
      (goes_to_code target ++ link_code bank link at ++ slot))) from (knowing bank later Int)
  likely test from target behind k j link is_test k_is j_is passed s =
      either-leads rules test (goes_to_code behind ++ link_code bank link at) (goes_to_code target ++ link_code bank link at ++ slot) from
      (knowing bank known goal) (knowing bank later Int) k j is_test refl k_is j_is
      (left-above rules (goes_to_code behind ++ link_code bank link at) (knowing bank known goal) (knowing bank (linked link known) Int)
      (knowing bank later Int) passed (gone-linked behind link))
      (then-slot (goes_to_code target ++ link_code bank link at) link (gone-linked target link) s)

  -- the slot of a branch
  abbrev SlotTyped : Bool → List Kind → (ℕ → Bool) → Type 0
  SlotTyped is_likely kinds some =
      Leads rules slot (with_stack (knowing bank some (if is_likely then Int else goal)) (if is_likely then [] else kinds))
      (with_stack (knowing bank later (if is_likely then Int else goal)) (if is_likely then [] else kinds))

  abbrev ConditionTyped : Bool → BranchName → ℕ → List Step → List Kind → Type 0
  ConditionTyped is_likely test target link kinds =
      Leads rules (conditional_code is_likely test target (behind_slot at) link slot) (holding known kinds)
      (with_stack (knowing bank later (if is_likely then Int else goal)) (if is_likely then [] else kinds))

  abbrev Passed : Bool → (ℕ → Bool) → Type 0
  Passed is_likely some = is_likely ≡ true → Below (knowing bank some Int) (knowing bank later Int)

  equal-typed : (name : BranchEqualName) (target : ℕ) → SlotTyped (equal_likely name) (Int ∷ Int ∷ []) known
      → Passed (equal_likely name) known → ConditionTyped (equal_likely name) (equal_test name) target [] (Int ∷ Int ∷ [])
  equal-typed Beq target s p = s
  equal-typed Bne target s p = s
  equal-typed Beql target s p =
      likely IfIcmpeq (holding known (Int ∷ Int ∷ [])) target (behind_slot at) (5 + 0) (4 + 0 + length slot) None
      (record { plain = refl; fits = refl; within = refl }) (omega arith) (omega arith) (p refl) s
  equal-typed Bnel target s p =
      likely IfIcmpne (holding known (Int ∷ Int ∷ [])) target (behind_slot at) (5 + 0) (4 + 0 + length slot) None
      (record { plain = refl; fits = refl; within = refl }) (omega arith) (omega arith) (p refl) s

  zero-typed : (name : BranchZeroName) (target : ℕ) → SlotTyped (zero_likely name) (Int ∷ []) known
      → Passed (zero_likely name) known → ConditionTyped (zero_likely name) (zero_test name) target [] (Int ∷ [])
  zero-typed Blez target s p = s
  zero-typed Bgtz target s p = s
  zero-typed Blezl target s p =
      likely Ifle (holding known (Int ∷ [])) target (behind_slot at) (5 + 0) (4 + 0 + length slot) None
      (record { plain = refl; fits = refl; within = refl }) (omega arith) (omega arith) (p refl) s
  zero-typed Bgtzl target s p =
      likely Ifgt (holding known (Int ∷ [])) target (behind_slot at) (5 + 0) (4 + 0 + length slot) None
      (record { plain = refl; fits = refl; within = refl }) (omega arith) (omega arith) (p refl) s

  sign-typed : (name : BranchSignName) (target : ℕ) → SlotTyped (sign_likely name) (Int ∷ []) (gained (written_by_branch_sign name) known)
      → Passed (sign_likely name) (gained (written_by_branch_sign name) known)
      → ConditionTyped (sign_likely name) (sign_test name) target (link_code bank (sign_link name) at) (Int ∷ [])
  sign-typed Bltz target s p = s
  sign-typed Bgez target s p = s
  sign-typed Bltzal target s p = plainly (Int ∷ []) refl (omega arith) (Some 31) s
  sign-typed Bgezal target s p = plainly (Int ∷ []) refl (omega arith) (Some 31) s
  sign-typed Bltzl target s p =
      likely Iflt (holding known (Int ∷ [])) target (behind_slot at) (5 + 0) (4 + 0 + length slot) None
      (record { plain = refl; fits = refl; within = refl }) (omega arith) (omega arith) (p refl) s
  sign-typed Bgezl target s p =
      likely Ifge (holding known (Int ∷ [])) target (behind_slot at) (5 + 0) (4 + 0 + length slot) None
      (record { plain = refl; fits = refl; within = refl }) (omega arith) (omega arith) (p refl) s
  sign-typed Bltzall target s p =
      likely Iflt (holding known (Int ∷ [])) target (behind_slot at) (5 + 2) (4 + 2 + length slot) (Some 31)
      (record { plain = refl; fits = refl; within = refl }) (omega arith) (omega arith) (p refl) s
  sign-typed Bgezall target s p =
      likely Ifge (holding known (Int ∷ [])) target (behind_slot at) (5 + 2) (4 + 2 + length slot) (Some 31)
      (record { plain = refl; fits = refl; within = refl }) (omega arith) (omega arith) (p refl) s

-- ---- branches and jumps

module _ (rules : Rules) (room : 2 ≤ rules.more) (bank : ℕ) (known : ℕ → Bool) (goal : Kind) (at : ℕ) (slot : List Step) (later : ℕ → Bool) where
  got : (rs : ℕ) → IsKnown known rs → Leads rules (get_register bank rs ∷ []) (knowing bank known goal)
      (with_stack (knowing bank known goal) (Int ∷ []))
  got rs a =
      flows-from rules (get_register bank rs ∷ []) (knowing bank known goal) (with_stack (knowing bank known goal) (Int ∷ []) ∷ [])
      (get-flow rules bank rs _ _ _ (known-reads bank rs known goal a) refl (same _, tt))

  got-two : (rs rt : ℕ) → IsKnown known rs → IsKnown known rt
      → Leads rules (get_register bank rs ∷ get_register bank rt ∷ []) (knowing bank known goal)
      (with_stack (knowing bank known goal) (Int ∷ Int ∷ []))
  got-two rs rt a b =
      flows-from rules (get_register bank rs ∷ get_register bank rt ∷ []) (knowing bank known goal)
      (with_stack (knowing bank known goal) (Int ∷ Int ∷ []) ∷ [])
      (get-flow rules bank rs _ _ _ (known-reads bank rs known goal a) refl
      (get-flow rules bank rt _ _ _ (known-reads bank rt known goal b) refl (same _, tt)))

  -- what is pushed is left below the code behind it
  then-typed : (first rest : List Step) (kinds : List Kind) (to : TypeFrame)
      → Leads rules first (knowing bank known goal) (with_stack (knowing bank known goal) kinds)
      → Leads rules rest (with_stack (knowing bank known goal) kinds) to → Leads rules (first ++ rest) (knowing bank known goal) to
  then-typed first rest kinds to t u =
      codes-lead rules first rest (knowing bank known goal) (with_stack (knowing bank known goal) kinds) (to ∷ []) t u

  nop : Leads rules (Does Nop ∷ []) (knowing bank known goal) (knowing bank known goal)
  nop = flows-from rules (Does Nop ∷ []) (knowing bank known goal) (knowing bank known goal ∷ []) (same _, tt)

  abbrev behind : Inst → TypeFrame
  behind i = with_stack (knowing bank later (goal_of i goal)) (left_by i)

  transfer-typed : (i : Inst) → is_branch i ≡ true → AreKnown known (read_by i)
      → Leads rules slot (with_stack (knowing bank (gained (written_by i) known) (goal_of i goal)) (left_by i)) (behind i)
      → (is_likely i ≡ true → Below (knowing bank (gained (written_by i) known) Int) (knowing bank later Int))
      → Leads rules (transfer_code bank i at slot) (knowing bank known goal) (behind i)
  transfer-typed (inst.BranchEqual name rs rt imm) e a s p =
      then-typed (get_register bank rs ∷ get_register bank rt ∷ [])
      (conditional_code (equal_likely name) (equal_test name) (branch_target at imm) (behind_slot at) [] slot) (Int ∷ Int ∷ [])
      (behind (inst.BranchEqual name rs rt imm))
      (got-two rs rt a.0 a.1.0) (equal-typed rules room bank known goal at slot later name (branch_target at imm) s p)
  transfer-typed (inst.BranchZero name rs imm) e a s p =
      then-typed (get_register bank rs ∷ [])
      (conditional_code (zero_likely name) (zero_test name) (branch_target at imm) (behind_slot at) [] slot) (Int ∷ [])
      (behind (inst.BranchZero name rs imm))
      (got rs a.0) (zero-typed rules room bank known goal at slot later name (branch_target at imm) s p)
  transfer-typed (inst.BranchSign name rs imm) e a s p =
      then-typed (get_register bank rs ∷ [])
      (conditional_code (sign_likely name) (sign_test name) (branch_target at imm) (behind_slot at) (link_code bank (sign_link name) at) slot)
      (Int ∷ []) (behind (inst.BranchSign name rs imm))
      (got rs a.0) (sign-typed rules room bank known goal at slot later name (branch_target at imm) s p)
  transfer-typed (inst.Jump J index) e a s p = then-typed (Does Nop ∷ []) slot [] (behind (inst.Jump J index)) nop s
  transfer-typed (inst.Jump Jal index) e a s p =
      then-typed (Does Nop ∷ []) (link_code bank (Some 31) at ++ slot) [] (behind (inst.Jump Jal index)) nop
      (plainly rules room bank known goal at slot later [] refl (omega arith) (Some 31) s)
  transfer-typed (inst.JumpRegister rs) e a s p =
      then-typed (get_register bank rs ∷ []) slot (Int ∷ []) (behind (inst.JumpRegister rs)) (got rs a.0) s
  transfer-typed (inst.JumpAndLinkRegister rs rd) e a s p =
      then-typed (get_register bank rs ∷ []) (link_code bank (Some rd) at ++ slot) (Int ∷ []) (behind (inst.JumpAndLinkRegister rs rd))
      (got rs a.0) (plainly rules room bank known goal at slot later (Int ∷ []) refl (omega arith) (Some rd) s)
  transfer-typed _ e a s p = absurd (false≢true e)

-- ---- units

gained-joined : (first second : List Register) (known : ℕ → Bool) → gained second (gained first known) ≡ gained (first ++ second) known
gained-joined [] second known = refl
gained-joined (general d ∷ first) second known = gained-joined first second (gaining known d)
gained-joined (special name ∷ first) second known = gained-joined first second known

-- the code of a slot stands above what its branch leaves
slot-typed : (rules : Rules) → 2 ≤ rules.more → (bank : ℕ) (i : Inst) (known later : ℕ → Bool) (goal : Kind) (slot : List Step)
    → list_all is_moving_step slot ≡ true
    → Leads (plain_rules rules.program) slot (knowing bank known (goal_of i goal)) (knowing bank later (goal_of i goal))
    → Leads rules slot (with_stack (knowing bank known (goal_of i goal)) (left_by i)) (with_stack (knowing bank later (goal_of i goal)) (left_by i))
slot-typed rules room bank i known later goal slot moves t =
    let few = left-few i in
    framed-leads rules (left_by i) (left-plain i) (omega (arith, few, room)) slot (knowing bank known (goal_of i goal))
    (knowing bank later (goal_of i goal)) moves t

pub unit-typed : (unit : Unit) → UnitTyped unit
unit-typed (units.Plain i) rules bank known goal at room helpers lawful is =
    instruction-typed i lawful.0.is_none rules bank known goal at helpers is
unit-typed (units.Branch i slot) rules bank known goal at room helpers lawful is =
    let own = gained (written_by i) known in
    let later = gained (written_by slot) own in
    let code = instruction_code bank slot (next_address at) in
    subst (λ all. Leads rules (transfer_code bank i at code) (knowing bank known goal)
    (with_stack (knowing bank all (goal_of i goal)) (left_by i)))
    (gained-joined (written_by i) (written_by slot) known)
    (transfer-typed rules room bank known goal at code later i lawful.0.is_one is.branch
    (slot-typed rules room bank i own later goal code (instruction-moves bank slot (next_address at))
    (instruction-typed slot lawful.1.is_none (plain_rules rules.program) bank own (goal_of i goal) (next_address at) helpers is.slot))
    (λ likely. knowing-below bank own later Int (is.passed_over likely)))
unit-typed (units.SlotMissing i) rules bank known goal at room helpers lawful is =
    let own = gained (written_by i) known in
    let code = fault_code fetch_fault (next_address at) (next_address at) in
    transfer-typed rules room bank known goal at code own i lawful.is_one is
    (slot-typed rules room bank i own own goal code refl
    (fault (plain_rules rules.program) bank own (goal_of i goal) fetch_fault (next_address at) (next_address at)))
    (λ likely. same (knowing bank own Int))
unit-typed (units.SlotIsBranch i word) rules bank known goal at room helpers lawful is =
    let own = gained (written_by i) known in
    let code = fault_code branch_in_slot_fault (next_address at) word in
    transfer-typed rules room bank known goal at code own i lawful.0.is_one is
    (slot-typed rules room bank i own own goal code refl
    (fault (plain_rules rules.program) bank own (goal_of i goal) branch_in_slot_fault (next_address at) word))
    (λ likely. same (knowing bank own Int))
unit-typed units.Call rules bank known goal at room helpers lawful is = call rules bank known goal is
unit-typed (units.Trap kind value) rules bank known goal at room helpers lawful is = fault rules bank known goal kind at value
