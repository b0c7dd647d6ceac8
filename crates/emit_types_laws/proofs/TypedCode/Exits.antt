-- The exits behind units.
use Rattle.std.proofs.Common.{◌≡◌, ℕ, ◌==◌, Bool, true, false, if◌then◌else◌, List, [], ◌∷◌, length, Option, Some, None, refl}
use Rattle.std.specs.Prelude.{◌||◌}
use Rattle.mips_definition.specs.Branches.{equal_likely, zero_likely, sign_likely}
use Rattle.mips_definition.specs.Targets.{branch_target, jump_target}
use Rattle.mips_definition.specs.declared.names.branch_equal_name.BranchEqualName.{BranchEqualName}
use Rattle.mips_definition.specs.declared.names.branch_equal_name.BranchEqualName.TheVariants.{Beq}
use Rattle.mips_definition.specs.declared.names.branch_zero_name.BranchZeroName.{BranchZeroName}
use Rattle.mips_definition.specs.declared.names.branch_zero_name.BranchZeroName.TheVariants.{Blez}
use Rattle.mips_definition.specs.declared.names.branch_sign_name.BranchSignName.{BranchSignName}
use Rattle.mips_definition.specs.declared.names.branch_sign_name.BranchSignName.TheVariants.{Bltz}
use Rattle.mips_definition.specs.declared.inst.Inst.{Inst}
use Rattle.mips_definition.specs.declared.inst.Inst.TheVariants as inst
use Rattle.delay_slots.specs.declared.unit.Unit.{Unit}
use Rattle.delay_slots.specs.declared.unit.Unit.TheVariants as units
use Rattle.jvm_definition.specs.declared.branch_name.BranchName.{BranchName}
use Rattle.jvm_definition.specs.declared.branch_name.BranchName.TheVariants.{IfIcmpne}
use Rattle.jvm_definition.specs.declared.kind.Kind.{Kind}
use Rattle.jvm_definition.specs.declared.kind.Kind.TheVariants.{Top, Int}
use Rattle.jvm_definition.specs.declared.local_kind.LocalKind.TheVariants as local_kinds
use Rattle.jvm_definition.specs.declared.instruction.Instruction.TheVariants as instructions
use Rattle.jvm_definition.specs.Typing.{TypeFrame, Below, with_stack}
use Rattle.emit_steps.specs.declared.step.Step.TheVariants.{Does, Skips, Leaves}
use Rattle.emit_layout.specs.FieldNumbers.{pc_field}
use Rattle.emit_instructions.specs.Access.{push_word, put_field}
use Rattle.emit_instructions.specs.Branching.{behind_slot, equal_test, zero_test, sign_test}
use Rattle.emit_instructions.specs.Units.{next_address}
use Rattle.word_emitter.specs.declared.extent.Extent.{Extent}
use Rattle.emit_steps.specs.Returning.{returns}
use Rattle.word_emitter.specs.Exits.{has, follows, go, next_exit, unless, chosen_ways, arrive, last_way, two_ways, conditional_exit, branch_exit, passing_exit, exit_code}
use Rattle.emit_types_laws.specs.Judging.{Rules, Leads, Meets, IsTest}
use Rattle.emit_types_laws.specs.Flowing.{Ahead, Flows, FlowsOver}
use Rattle.emit_types_laws.proofs.TypedSteps.Flow.{flows-from}
use Rattle.emit_types_laws.proofs.TypedSteps.Joining.{nothing-leads, left-above, skips-lead}
use Rattle.emit_types_laws.proofs.TypedSteps.KindOrder.{meets-below, below-top}
use Rattle.emit_types_laws.specs.Knowing.{unknown, with_goal, at_exit, goal_of, left_by, Opens}

goal-below : (goal : Kind) → Below (with_goal goal) unknown
goal-below goal = record { locals = λ k. below-top (if k == 0 then goal else Top); stack = refl }

module _ (rules : Rules) (span : Extent) (opens : Opens rules span) (goal : Kind) where
  -- where the goal is a word of the span, its code is gone to, and else the method ends
  arrive-flow : (at : ℕ) (ahead : Ahead) (Rest : Option TypeFrame → Ahead → Type 0) → Rest None ahead
      → FlowsOver rules (arrive span at) (with_goal goal) ahead Rest
  arrive-flow at ahead Rest rest = by_test (has span at) (opens at)
    where
      by_test : (b : Bool) → (b ≡ true → Meets unknown (rules.owes at))
          → FlowsOver rules (if b then Leaves at else returns) (with_goal goal) ahead Rest
      by_test true owes = (meets-below (with_goal goal) unknown (rules.owes at) (goal-below goal) (owes refl), rest)
      by_test false owes = rest

  ends-here : Leads rules [] (with_goal goal) unknown
  ends-here = left-above rules [] (with_goal goal) (with_goal goal) unknown (goal-below goal) (nothing-leads rules (with_goal goal))

  returned : Leads rules (returns ∷ []) (with_goal goal) unknown
  returned = flows-from rules (returns ∷ []) (with_goal goal) (unknown ∷ []) (tt, tt)

  arrived : (at : ℕ) → Leads rules (arrive span at ∷ []) (with_goal goal) unknown
  arrived at = flows-from rules (arrive span at ∷ []) (with_goal goal) (unknown ∷ []) (arrive-flow at [] (Flows rules [] (unknown ∷ [])) (tt, tt))

  last-way : (behind : Option ℕ) (at : ℕ) → Leads rules (last_way span behind at) (with_goal goal) unknown
  last-way behind at = by_test (follows behind at)
    where
      by_test : (b : Bool) → Leads rules (if b then [] else arrive span at ∷ []) (with_goal goal) unknown
      by_test true = ends-here
      by_test false = arrived at

  -- the other way of a branch, which a test has come to already
  last-flow : (behind : Option ℕ) (at : ℕ) → Flows rules (last_way span behind at) (unknown ∷ []) None (Some (with_goal goal) ∷ [])
  last-flow behind at = by_test (follows behind at)
    where
      by_test : (b : Bool) → Flows rules (if b then [] else arrive span at ∷ []) (unknown ∷ []) None (Some (with_goal goal) ∷ [])
      by_test true = (tt, (goal-below goal, tt))
      by_test false = arrive-flow at [] (Flows rules [] (unknown ∷ [])) (tt, tt)

  next-way : (behind : Option ℕ) (next : ℕ) → Leads rules (next_exit span behind next) (with_goal goal) unknown
  next-way behind next = by_test (follows behind next) (has span next) (opens next)
    where
      by_test : (b c : Bool) → (c ≡ true → Meets unknown (rules.owes next))
          → Leads rules (if b then [] else if c then Leaves next ∷ [] else push_word next ∷ put_field pc_field ∷ returns ∷ [])
          (with_goal goal) unknown
      by_test true c owes = ends-here
      by_test false true owes =
          flows-from rules (Leaves next ∷ []) (with_goal goal) (unknown ∷ [])
          (meets-below (with_goal goal) unknown (rules.owes next) (goal-below goal) (owes refl), (tt, tt))
      by_test false false owes = flows-from rules (push_word next ∷ put_field pc_field ∷ returns ∷ []) (with_goal goal) (unknown ∷ []) (tt, tt)

  -- code that is gone to, or the end of the method: nothing goes on behind it
  gone : (at : ℕ) → Leads rules (go span at) (with_goal goal) (with_goal goal)
  gone at = by_test (has span at) (opens at)
    where
      by_test : (b : Bool) → (b ≡ true → Meets unknown (rules.owes at))
          → Leads rules (if b then Leaves at ∷ [] else push_word at ∷ put_field pc_field ∷ returns ∷ []) (with_goal goal) (with_goal goal)
      by_test true owes =
          flows-from rules (Leaves at ∷ []) (with_goal goal) (with_goal goal ∷ [])
          (meets-below (with_goal goal) unknown (rules.owes at) (goal-below goal) (owes refl), (tt, tt))
      by_test false owes =
          flows-from rules (push_word at ∷ put_field pc_field ∷ returns ∷ []) (with_goal goal) (with_goal goal ∷ []) (tt, tt)

  -- so many operands are above the goal
  abbrev holding : List Kind → TypeFrame
  holding kinds = with_stack (with_goal goal) kinds

  chosen : (behind : Option ℕ) (test : BranchName) (target second : ℕ) (kinds : List Kind) → IsTest (unless test) (holding kinds) (with_goal goal)
      → Leads rules (chosen_ways span behind test target second) (holding kinds) unknown
  chosen behind test target second kinds is =
      skips-lead rules (unless test) (go span target) (next_exit span behind second) (holding kinds) (with_goal goal) unknown
      (length (go span target)) is refl (gone target) (next-way behind second)

  equal-test : (name : BranchEqualName) → IsTest (unless (equal_test name)) (holding (Int ∷ Int ∷ [])) (with_goal goal)
  equal-test Beq = record { plain = refl; fits = refl; within = refl }
  equal-test _ = record { plain = refl; fits = refl; within = refl }

  zero-test : (name : BranchZeroName) → IsTest (unless (zero_test name)) (holding (Int ∷ [])) (with_goal goal)
  zero-test Blez = record { plain = refl; fits = refl; within = refl }
  zero-test _ = record { plain = refl; fits = refl; within = refl }

  sign-test : (name : BranchSignName) → IsTest (unless (sign_test name)) (holding (Int ∷ [])) (with_goal goal)
  sign-test Bltz = record { plain = refl; fits = refl; within = refl }
  sign-test _ = record { plain = refl; fits = refl; within = refl }

module _ (rules : Rules) (span : Extent) (opens : Opens rules span) where
  two : (behind : Option ℕ) (first second : ℕ) → Leads rules (two_ways span behind first second) (with_goal Int) unknown
  two behind first second = by_test (has span first || has span second)
    where
      by_test : (b : Bool) → Leads rules (if b then Does (instructions.Load local_kinds.Int 0) ∷ push_word first ∷ Skips IfIcmpne 1 ∷ arrive span
          first ∷ last_way span behind second else returns ∷ []) (with_goal Int) unknown
      by_test true =
          flows-from rules (Does (instructions.Load local_kinds.Int 0) ∷ push_word first ∷ Skips IfIcmpne 1 ∷ arrive span first ∷ last_way span
          behind second) (with_goal Int) (unknown ∷ [])
          (arrive-flow rules span opens Int first (Some (with_goal Int) ∷ []) (Flows rules (last_way span behind second) (unknown ∷ []))
          (last-flow rules span opens Int behind second))
      by_test false = returned rules span opens Int

  -- where the way from a branch begins, likely or not
  abbrev beginning : Bool → List Kind → Kind → TypeFrame
  beginning likely kinds goal = with_stack (with_goal (if likely then Int else goal)) (if likely then [] else kinds)

  conditional : (behind : Option ℕ) (likely : Bool) (test : BranchName) (target second : ℕ) (kinds : List Kind) (goal : Kind)
      → IsTest (unless test) (with_stack (with_goal goal) kinds) (with_goal goal)
      → Leads rules (conditional_exit span behind likely test target second) (beginning likely kinds goal) unknown
  conditional behind true test target second kinds goal is = two behind target second
  conditional behind false test target second kinds goal is = chosen rules span opens goal behind test target second kinds is

  branched : (behind : Option ℕ) (i : Inst) (at : ℕ) (goal : Kind)
      → Leads rules (branch_exit span behind i at) (with_stack (with_goal (goal_of i goal)) (left_by i)) unknown
  branched behind (inst.BranchSign name rs imm) at goal =
      conditional behind (sign_likely name) (sign_test name) (branch_target at imm) (behind_slot at) (Int ∷ []) goal
      (sign-test rules span opens goal name)
  branched behind (inst.BranchEqual name rs rt imm) at goal =
      conditional behind (equal_likely name) (equal_test name) (branch_target at imm) (behind_slot at) (Int ∷ Int ∷ []) goal
      (equal-test rules span opens goal name)
  branched behind (inst.BranchZero name rs imm) at goal =
      conditional behind (zero_likely name) (zero_test name) (branch_target at imm) (behind_slot at) (Int ∷ []) goal
      (zero-test rules span opens goal name)
  branched behind (inst.Jump name index) at goal = next-way rules span opens goal behind (jump_target at index)
  branched behind (inst.JumpRegister rs) at goal =
      flows-from rules (put_field pc_field ∷ returns ∷ []) (with_stack (with_goal goal) (Int ∷ [])) (unknown ∷ []) (tt, tt)
  branched behind (inst.JumpAndLinkRegister rs rd) at goal =
      flows-from rules (put_field pc_field ∷ returns ∷ []) (with_stack (with_goal goal) (Int ∷ [])) (unknown ∷ []) (tt, tt)
  branched behind _ at goal = returned rules span opens goal

  -- behind a fault in a slot
  passed : (behind : Option ℕ) (at : ℕ) (likely : Bool) (kinds : List Kind) (goal : Kind)
      → Leads rules (returns ∷ []) (with_stack (with_goal goal) kinds) unknown
      → Leads rules (if likely then last_way span behind (behind_slot at) else returns ∷ []) (beginning likely kinds goal) unknown
  passed behind at true kinds goal t = last-way rules span opens Int behind (behind_slot at)
  passed behind at false kinds goal t = t

  passed-one : (behind : Option ℕ) (at : ℕ) (likely : Bool) (goal : Kind)
      → Leads rules (if likely then last_way span behind (behind_slot at) else returns ∷ []) (beginning likely (Int ∷ []) goal) unknown
  passed-one behind at likely goal =
      passed behind at likely (Int ∷ []) goal
      (flows-from rules (returns ∷ []) (with_stack (with_goal goal) (Int ∷ [])) (unknown ∷ []) (tt, tt))

  passing : (behind : Option ℕ) (i : Inst) (at : ℕ) (goal : Kind)
      → Leads rules (passing_exit span behind i at) (with_stack (with_goal (goal_of i goal)) (left_by i)) unknown
  passing behind (inst.BranchSign name rs imm) at goal = passed-one behind at (sign_likely name) goal
  passing behind (inst.BranchEqual name rs rt imm) at goal =
      passed behind at (equal_likely name) (Int ∷ Int ∷ []) goal
      (flows-from rules (returns ∷ []) (with_stack (with_goal goal) (Int ∷ Int ∷ [])) (unknown ∷ []) (tt, tt))
  passing behind (inst.BranchZero name rs imm) at goal = passed-one behind at (zero_likely name) goal
  passing behind (inst.JumpRegister rs) at goal = passed-one behind at false goal
  passing behind (inst.JumpAndLinkRegister rs rd) at goal = passed-one behind at false goal
  passing behind _ at goal = returned rules span opens goal

  pub exit-leads : (behind : Option ℕ) (unit : Unit) (at : ℕ) (goal : Kind)
      → Leads rules (exit_code span behind unit at) (at_exit unit goal) unknown
  exit-leads behind (units.Plain i) at goal = next-way rules span opens goal behind (next_address at)
  exit-leads behind (units.Branch i slot) at goal = branched behind i at goal
  exit-leads behind (units.SlotMissing i) at goal = passing behind i at goal
  exit-leads behind (units.SlotIsBranch i word) at goal = passing behind i at goal
  exit-leads behind units.Call at goal = next-way rules span opens goal behind (next_address at)
  exit-leads behind (units.Trap kind value) at goal = returned rules span opens goal
