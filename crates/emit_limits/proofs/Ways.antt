-- The way from a unit pushes two addresses at most: those of the words to which a branch may go, or that of the next word.
use Rattle.std.proofs.Common.{◌≡◌, ℕ, ◌+◌, ◌≤◌, ◌||◌, Bool, true, false, if◌then◌else◌, List, [], ◌∷◌, ◌++◌, length, Option, append_assoc, refl, sym, subst, arith}
use Rattle.std.proofs.lemmas.List.Concat.{flat_map-append}
use Rattle.mips_definition.specs.Branches.{equal_likely, zero_likely, sign_likely}
use Rattle.mips_definition.specs.Targets.{branch_target, jump_target}
use Rattle.mips_definition.specs.declared.inst.Inst.{Inst}
use Rattle.mips_definition.specs.declared.inst.Inst.TheVariants as inst
use Rattle.delay_slots.specs.declared.unit.Unit.{Unit}
use Rattle.delay_slots.specs.declared.unit.Unit.TheVariants.{Plain, Branch, SlotMissing, SlotIsBranch, Call, Trap}
use Rattle.jvm_definition.specs.declared.branch_name.BranchName.{BranchName}
use Rattle.jvm_definition.specs.declared.branch_name.BranchName.TheVariants.{IfIcmpne, Goto}
use Rattle.jvm_definition.specs.declared.constant.Constant.{Constant}
use Rattle.jvm_definition.specs.declared.constant.Constant.TheVariants.{Int}
use Rattle.jvm_definition.specs.declared.local_kind.LocalKind.TheVariants as local_kinds
use Rattle.jvm_definition.specs.declared.instruction.Instruction.TheVariants.{Load}
use Rattle.emit_steps.specs.declared.step.Step.{Step}
use Rattle.emit_steps.specs.declared.step.Step.TheVariants.{Does, Skips, Leaves}
use Rattle.emit_layout.specs.FieldNumbers.{pc_field}
use Rattle.emit_instructions.specs.Access.{push_word, put_field, get_register}
use Rattle.emit_instructions.specs.Branching.{behind_slot, goes_to_code, link_code, equal_test, zero_test, sign_test, sign_link, conditional_code, transfer_code}
use Rattle.emit_instructions.specs.Units.{instruction_code, unit_code, next_address}
use Rattle.word_emitter.specs.declared.extent.Extent.{Extent}
use Rattle.word_emitter.specs.Pieces.{is_likely}
use Rattle.emit_steps.specs.Returning.{returns}
use Rattle.word_emitter.specs.Exits.{has, follows, go, next_exit, chosen_ways, arrive, last_way, two_ways, conditional_exit, branch_exit, passing_exit, exit_code}
use Rattle.emit_assembly.specs.Assembling.{pushed_by, constants_of}
use Rattle.emit_limits.proofs.Counting.{Within, all_slots, within-none, within-left, within-right, within-further, within-self}
use Rattle.emit_limits.proofs.StepSlots.{word-slots}
use Rattle.emit_limits.proofs.Pushing.{Pushes, pushes-append, pushes-either, pushes-free, pushes-all}

-- ---- where it may lead

-- a likely branch looks for its target, and another one goes to one of two words
abbrev conditional_goals : Bool → ℕ → ℕ → List Constant
conditional_goals true target second = Int target ∷ []
conditional_goals false target second = Int target ∷ Int second ∷ []

abbrev branch_goals : Inst → ℕ → List Constant
branch_goals (inst.BranchSign name rs imm) at = conditional_goals (sign_likely name) (branch_target at imm) (behind_slot at)
branch_goals (inst.BranchEqual name rs rt imm) at = conditional_goals (equal_likely name) (branch_target at imm) (behind_slot at)
branch_goals (inst.BranchZero name rs imm) at = conditional_goals (zero_likely name) (branch_target at imm) (behind_slot at)
branch_goals (inst.Jump name index) at = Int (jump_target at index) ∷ []
branch_goals other at = []

abbrev pub way_goals : Unit → ℕ → List Constant
way_goals (Plain i) at = Int (next_address at) ∷ []
way_goals (Branch i slot) at = branch_goals i at
way_goals Call at = Int (next_address at) ∷ []
way_goals other at = []

-- those that the code of the unit does not push itself: a likely branch pushes its target
abbrev pub conditional_own : Bool → ℕ → ℕ → List Constant
conditional_own true target second = []
conditional_own false target second = Int target ∷ Int second ∷ []

abbrev pub branch_own : Inst → ℕ → List Constant
branch_own (inst.BranchSign name rs imm) at = conditional_own (sign_likely name) (branch_target at imm) (behind_slot at)
branch_own (inst.BranchEqual name rs rt imm) at = conditional_own (equal_likely name) (branch_target at imm) (behind_slot at)
branch_own (inst.BranchZero name rs imm) at = conditional_own (zero_likely name) (branch_target at imm) (behind_slot at)
branch_own (inst.Jump name index) at = Int (jump_target at index) ∷ []
branch_own other at = []

abbrev pub own_goals : Unit → ℕ → List Constant
own_goals (Plain i) at = Int (next_address at) ∷ []
own_goals (Branch i slot) at = branch_own i at
own_goals Call at = Int (next_address at) ∷ []
own_goals other at = []

conditional-few : (likely : Bool) (target second : ℕ) → all_slots (conditional_goals likely target second) ≤ 2
conditional-few true target second = omega (arith, word-slots target)
conditional-few false target second = omega (arith, word-slots target, word-slots second)

branch-goals-few : (i : Inst) (at : ℕ) → all_slots (branch_goals i at) ≤ 2
branch-goals-few (inst.BranchSign name rs imm) at = conditional-few (sign_likely name) (branch_target at imm) (behind_slot at)
branch-goals-few (inst.BranchEqual name rs rt imm) at = conditional-few (equal_likely name) (branch_target at imm) (behind_slot at)
branch-goals-few (inst.BranchZero name rs imm) at = conditional-few (zero_likely name) (branch_target at imm) (behind_slot at)
branch-goals-few (inst.Jump name index) at = omega (arith, word-slots (jump_target at index))
branch-goals-few other at = omega arith

pub goals-few : (unit : Unit) (at : ℕ) → all_slots (way_goals unit at) ≤ 2
goals-few (Plain i) at = omega (arith, word-slots (next_address at))
goals-few (Branch i slot) at = branch-goals-few i at
goals-few Call at = omega (arith, word-slots (next_address at))
goals-few other at = omega arith

-- ---- ways

arrive-none : (span : Extent) (goal : ℕ) → pushed_by (arrive span goal) ≡ []
arrive-none span goal = by_test (has span goal)
  where
    by_test : (b : Bool) → pushed_by (if b then Leaves goal else returns) ≡ []
    by_test true = refl
    by_test false = refl

last-none : (span : Extent) (behind : Option ℕ) (goal : ℕ) → constants_of (last_way span behind goal) ≡ []
last-none span behind goal = by_test (follows behind goal)
  where
    by_test : (b : Bool) → constants_of (if b then [] else arrive span goal ∷ []) ≡ []
    by_test true = refl
    by_test false = λ i. arrive-none span goal i ++ []

last-pushes : (span : Extent) (behind : Option ℕ) (goal : ℕ) → Pushes [] (last_way span behind goal)
last-pushes span behind goal = pushes-all [] (last_way span behind goal) (last-none span behind goal)

two-pushes : (span : Extent) (behind : Option ℕ) (first second : ℕ) → Pushes (Int first ∷ []) (two_ways span behind first second)
two-pushes span behind first second =
    let looks = Does (Load local_kinds.Int 0) ∷ push_word first ∷ Skips IfIcmpne 1 ∷ arrive span first ∷ last_way span behind second in
    let is : constants_of looks ≡ Int first ∷ [] = λ i. Int first ∷ (arrive-none span first i ++ last-none span behind second i) in
    pushes-either (Int first ∷ []) (has span first || has span second) looks (returns ∷ []) (pushes-all (Int first ∷ []) looks is)
    (pushes-free (Int first ∷ []) (returns ∷ []) (omega arith))

go-pushes : (span : Extent) (goal : ℕ) → Pushes (Int goal ∷ []) (go span goal)
go-pushes span goal =
    let out = push_word goal ∷ put_field pc_field ∷ returns ∷ [] in
    pushes-either (Int goal ∷ []) (has span goal) (Leaves goal ∷ []) out
    (pushes-free (Int goal ∷ []) (Leaves goal ∷ []) (omega arith)) (pushes-all (Int goal ∷ []) out refl)

next-pushes : (span : Extent) (behind : Option ℕ) (next : ℕ) → Pushes (Int next ∷ []) (next_exit span behind next)
next-pushes span behind next =
    pushes-either (Int next ∷ []) (follows behind next) [] (go span next) (pushes-free (Int next ∷ []) [] (omega arith)) (go-pushes span next)

chosen-pushes : (span : Extent) (behind : Option ℕ) (test : BranchName) (target second : ℕ)
    → Pushes (Int target ∷ Int second ∷ []) (chosen_ways span behind test target second)
chosen-pushes span behind test target second =
    let both = Int target ∷ Int second ∷ [] in
    pushes-append both (go span target) (next_exit span behind second)
    (within-left (constants_of (go span target)) (Int target ∷ []) (Int second ∷ []) (go-pushes span target))
    (within-right (constants_of (next_exit span behind second)) (Int target ∷ []) (Int second ∷ []) (next-pushes span behind second))

conditional-pushes : (span : Extent) (behind : Option ℕ) (likely : Bool) (test : BranchName) (target second : ℕ)
    → Pushes (conditional_goals likely target second) (conditional_exit span behind likely test target second)
conditional-pushes span behind true test target second = two-pushes span behind target second
conditional-pushes span behind false test target second = chosen-pushes span behind test target second

branch-pushes : (span : Extent) (behind : Option ℕ) (i : Inst) (at : ℕ) → Pushes (branch_goals i at) (branch_exit span behind i at)
branch-pushes span behind (inst.BranchSign name rs imm) at =
    conditional-pushes span behind (sign_likely name) (sign_test name) (branch_target at imm) (behind_slot at)
branch-pushes span behind (inst.BranchEqual name rs rt imm) at =
    conditional-pushes span behind (equal_likely name) (equal_test name) (branch_target at imm) (behind_slot at)
branch-pushes span behind (inst.BranchZero name rs imm) at =
    conditional-pushes span behind (zero_likely name) (zero_test name) (branch_target at imm) (behind_slot at)
branch-pushes span behind (inst.Jump name index) at = next-pushes span behind (jump_target at index)
branch-pushes span behind other at = pushes-free [] (branch_exit span behind other at) (omega arith)

passing-pushes : (span : Extent) (behind : Option ℕ) (i : Inst) (at : ℕ) → Pushes [] (passing_exit span behind i at)
passing-pushes span behind i at =
    pushes-either [] (is_likely i) (last_way span behind (behind_slot at)) (returns ∷ []) (last-pushes span behind (behind_slot at))
    (pushes-free [] (returns ∷ []) (omega arith))

pub exit-pushes : (span : Extent) (behind : Option ℕ) (unit : Unit) (at : ℕ) → Pushes (way_goals unit at) (exit_code span behind unit at)
exit-pushes span behind (Plain i) at = next-pushes span behind (next_address at)
exit-pushes span behind (Branch i slot) at = branch-pushes span behind i at
exit-pushes span behind (SlotMissing i) at = passing-pushes span behind i at
exit-pushes span behind (SlotIsBranch i word) at = passing-pushes span behind i at
exit-pushes span behind Call at = next-pushes span behind (next_address at)
exit-pushes span behind (Trap kind value) at = pushes-free [] (returns ∷ []) (omega arith)

-- ---- what the code of a unit pushes itself

within-place : (c : Constant) (before behind : List Constant) → Within (c ∷ []) (before ++ c ∷ behind)
within-place c before behind =
    within-right (c ∷ []) before (c ∷ behind) (within-left (c ∷ []) (c ∷ []) behind (within-self (c ∷ [])))

-- the code of a likely branch pushes its target, and the other goals are own ones
conditional-has : (likely : Bool) (test : BranchName) (target behind : ℕ) (link slot : List Step)
    → Within (conditional_goals likely target behind)
    (constants_of (conditional_code likely test target behind link slot) ++ conditional_own likely target behind)
conditional-has false test target behind link slot =
    let own = Int target ∷ Int behind ∷ [] in
    within-right own (constants_of (link ++ slot)) own (within-self own)
conditional-has true test target behind link slot =
    let more = Skips Goto (4 + length link + length slot) ∷ (goes_to_code target ++ link ++ slot) in
    within-left (Int target ∷ []) (constants_of (conditional_code true test target behind link slot)) []
    (subst (λ cs. Within (Int target ∷ []) (Int behind ∷ cs)) (sym (flat_map-append pushed_by link more))
    (within-place (Int target) (Int behind ∷ constants_of link) (constants_of (link ++ slot))))

-- what is pushed first may stand before
module _ (xs first code own : List Constant) where
  further : Within xs (code ++ own) → Within xs ((first ++ code) ++ own)
  further within = subst (Within xs) (sym (append_assoc first code own)) (within-right xs first (code ++ own) within)

transfer-has : (i : Inst) (at : ℕ) (slot : List Step)
    → Within (branch_goals i at) (constants_of (transfer_code 0 i at slot) ++ branch_own i at)
transfer-has (inst.BranchSign name rs imm) at slot =
    let link = link_code 0 (sign_link name) at in
    let code = conditional_code (sign_likely name) (sign_test name) (branch_target at imm) (behind_slot at) link slot in
    further (branch_goals (inst.BranchSign name rs imm) at) (pushed_by (get_register 0 rs)) (constants_of code)
    (branch_own (inst.BranchSign name rs imm) at)
    (conditional-has (sign_likely name) (sign_test name) (branch_target at imm) (behind_slot at) link slot)
transfer-has (inst.BranchEqual name rs rt imm) at slot =
    let code = conditional_code (equal_likely name) (equal_test name) (branch_target at imm) (behind_slot at) [] slot in
    further (branch_goals (inst.BranchEqual name rs rt imm) at) (pushed_by (get_register 0 rs)) (pushed_by (get_register 0 rt) ++ constants_of code)
    (branch_own (inst.BranchEqual name rs rt imm) at)
    (further (branch_goals (inst.BranchEqual name rs rt imm) at) (pushed_by (get_register 0 rt)) (constants_of code)
    (branch_own (inst.BranchEqual name rs rt imm) at)
    (conditional-has (equal_likely name) (equal_test name) (branch_target at imm) (behind_slot at) [] slot))
transfer-has (inst.BranchZero name rs imm) at slot =
    let code = conditional_code (zero_likely name) (zero_test name) (branch_target at imm) (behind_slot at) [] slot in
    further (branch_goals (inst.BranchZero name rs imm) at) (pushed_by (get_register 0 rs)) (constants_of code)
    (branch_own (inst.BranchZero name rs imm) at)
    (conditional-has (zero_likely name) (zero_test name) (branch_target at imm) (behind_slot at) [] slot)
transfer-has (inst.Jump name index) at slot =
    let own = Int (jump_target at index) ∷ [] in
    within-right own (constants_of (transfer_code 0 (inst.Jump name index) at slot)) own (within-self own)
transfer-has other at slot = within-none (constants_of (transfer_code 0 other at slot) ++ branch_own other at)

-- the way from a unit pushes what its code pushes, or an own goal
pub own-pushes : (span : Extent) (behind : Option ℕ) (unit : Unit) (at : ℕ)
    → Pushes (constants_of (unit_code 0 unit at) ++ own_goals unit at) (exit_code span behind unit at)
own-pushes span behind (Branch i slot) at =
    let way = constants_of (exit_code span behind (Branch i slot) at) in
    let code = constants_of (unit_code 0 (Branch i slot) at) in
    within-further way (branch_goals i at) (code ++ branch_own i at) (branch-pushes span behind i at)
    (transfer-has i at (instruction_code 0 slot (next_address at)))
own-pushes span behind (Plain i) at =
    within-right (constants_of (exit_code span behind (Plain i) at)) (constants_of (unit_code 0 (Plain i) at)) (own_goals (Plain i) at)
    (exit-pushes span behind (Plain i) at)
own-pushes span behind (SlotMissing i) at =
    within-right (constants_of (exit_code span behind (SlotMissing i) at)) (constants_of (unit_code 0 (SlotMissing i) at)) []
    (exit-pushes span behind (SlotMissing i) at)
own-pushes span behind (SlotIsBranch i word) at =
    within-right (constants_of (exit_code span behind (SlotIsBranch i word) at)) (constants_of (unit_code 0 (SlotIsBranch i word) at)) []
    (exit-pushes span behind (SlotIsBranch i word) at)
own-pushes span behind Call at =
    within-right (constants_of (exit_code span behind Call at)) (constants_of (unit_code 0 Call at)) (own_goals Call at)
    (exit-pushes span behind Call at)
own-pushes span behind (Trap kind value) at =
    within-right (constants_of (exit_code span behind (Trap kind value) at)) (constants_of (unit_code 0 (Trap kind value) at)) []
    (exit-pushes span behind (Trap kind value) at)
