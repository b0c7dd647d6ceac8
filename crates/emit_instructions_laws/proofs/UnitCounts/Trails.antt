-- What a unit's turns are as steps of the guest.
use Rattle.std.proofs.Common.{◌≡◌, ℕ, ◌+◌, ◌≤◌, Bool, true, false, cond, ◌&&◌, ◌||◌, if◌then◌else◌, List, [], ◌∷◌, Option, Some, None, option_map, inl, inr, refl, ap, subst, sym, ◌∙◌, arith}
use Rattle.std.specs.List.{count_by}
use Rattle.std.proofs.lemmas.Bool.{true≢false}
use Rattle.std.proofs.lemmas.List.Sums.{sum_by-cons}
use Rattle.run_definition.specs.Turn.{Turn}
use Rattle.run_simulation_laws.specs.Trail.{Step}
use Rattle.mips_definition.specs.State.{State}
use Rattle.mips_definition.specs.Table.{inst}
use Rattle.mips_definition.specs.Effect.{fetch_fault, branch_in_slot_fault}
use Rattle.mips_definition.specs.Step.{faulted, into_slot}
use Rattle.mips_definition.specs.declared.inst.Inst.{Inst}
use Rattle.mips_definition.specs.declared.inst.Inst.TheVariants as insts
use Rattle.delay_slots.specs.declared.unit.Unit.TheVariants as units
use Rattle.delay_slots.specs.Turns.{UnitTurns, one_turn, two_turns, done, skips, then_slot, unit_turns}
use Rattle.delay_slots.specs.Units.{is_branch, branch_unit, unit_of}
use Rattle.emit_paths_laws.specs.Guest.{Span, instruction_at, is_by, is_register_jump, goes_out, crosses, crossings, reads_word, is_partial, partial}
use Rattle.emit_instructions_laws.specs.Counting.{unit_reads}
use Rattle.emit_instructions_laws.specs.Steps.{unit_trail, begins_with_register_jump, IsInSlot, GoesThroughSlot}
use Rattle.emit_instructions_laws.proofs.UnitCounts.Weights.{one}
use Rattle.emit_instructions_laws.proofs.UnitCounts.Found.{Fetches, first_of}
use Rattle.emit_instructions_laws.proofs.UnitCounts.Ways.{Goes, goal_of, branch-goes, in-slot}

-- ---- counts of one step and of two

first-counted : (test : Step State → Bool) (a : Step State) (rest : List (Step State)) (b : Bool) → test a ≡ b → count_by test (a ∷ rest) ≡ one b + count_by test rest
first-counted test a rest b is =
    let cons : count_by test (a ∷ rest) ≡ cond (test a) 1 0 + count_by test rest = sum_by-cons (λ x. cond (test x) 1 0) a rest in
    let here : one (test a) ≡ one b = ap one is in
    omega (arith, cons, here)

-- ---- reads

branch-reads-none : (i : Inst) → is_branch i ≡ true → reads_word i ≡ false
branch-reads-none (insts.Load name rs rt imm) is = absurd (true≢false (sym is))
branch-reads-none (insts.LoadLinked rs rt imm) is = absurd (true≢false (sym is))
branch-reads-none (insts.Store name rs rt imm) is = absurd (true≢false (sym is))
branch-reads-none _ is = refl

none-either : (b : Bool) → (if b then 0 else one false) ≡ 0
none-either true = refl
none-either false = refl

-- where no instruction is fetched, none reads a word
reads-at : (s : State) (o : Option Inst) (b : Bool) (to : Option State) → instruction_at s ≡ o → is_by reads_word o ≡ b → is_partial (record { from = s; to = to }) ≡ b
reads-at s o b to there is = ap (λ (f : Option Inst). is_by reads_word f) there ∙ is

module _ (x : State) (i : Inst) (begun : x.begun ≡ true) (here : instruction_at x ≡ Some i) (to : Option State) where
  -- one turn
  alone-reads : partial (record { from = x; to = to } ∷ []) ≡ one (reads_word i)
  alone-reads =
      let a = first-counted is_partial (record { from = x; to = to }) [] (reads_word i) (reads-at x (Some i) (reads_word i) to here refl) in
      omega (arith, a)

  -- a branch, and what is fetched in its slot
  module _ (is : is_branch i ≡ true) (second : State → Turn State) (slot : Option Inst) (fetched : (s : State) → IsInSlot x s → instruction_at s ≡ slot) where
    abbrev Reads : Turn State → Type 0
    Reads d = partial (unit_trail x (then_slot d second) to) ≡ (if skips i x then 0 else one (is_by reads_word slot))

    slot-reads : (s : State) → IsInSlot x s → (last : Turn State) → partial (unit_trail x (two_turns s last) to) ≡ one (is_by reads_word slot)
    slot-reads s at last =
        let a = first-counted is_partial (record { from = x; to = Some s }) (record { from = s; to = to } ∷ []) false (reads-at x (Some i) false (Some s) here (branch-reads-none i is)) in
        let b = first-counted is_partial (record { from = s; to = to }) [] (is_by reads_word slot) (reads-at s slot (is_by reads_word slot) to (fetched s at) refl) in
        omega (arith, a, b)

    way-reads : Goes x (skips i x) (goal_of i x) (done i x) → Reads (done i x)
    way-reads (inl comes) =
        subst Reads (sym comes.last_is)
        (slot-reads (into_slot comes.linked_state (goal_of i x)) (in-slot x comes.linked_state (goal_of i x) begun comes.kept) (second (into_slot comes.linked_state (goal_of i x)))
        ∙ sym (ap (λ b. if b then 0 else one (is_by reads_word slot)) comes.not_skipped))
    way-reads (inr passes) =
        subst Reads (sym passes.last_is)
        (alone-reads ∙ ap one (branch-reads-none i is)
        ∙ sym (ap (λ b. if b then 0 else one (is_by reads_word slot)) passes.is_skipped))

    branch-reads : Reads (done i x)
    branch-reads = way-reads (branch-goes i x is)

-- ---- every unit

module _ (x : State) (following : List ℕ) (begun : x.begun ≡ true) (next : (s : State) → IsInSlot x s → instruction_at s ≡ option_map inst (first_of following)) where
  -- a branch before the words that follow it
  slot-unit-reads : (i : Inst) (slot : ℕ) (b : Bool) → is_branch (inst slot) ≡ b → is_branch i ≡ true → instruction_at x ≡ Some i → ((s : State) → IsInSlot x s → instruction_at s ≡ Some (inst slot)) → (to : Option State)
      → partial (unit_trail x (unit_turns (if b then units.SlotIsBranch i slot else units.Branch i (inst slot)) x) to) ≡ unit_reads (if b then units.SlotIsBranch i slot else units.Branch i (inst slot)) x
  slot-unit-reads i slot true it is here fetched to =
      branch-reads x i begun here to is (λ s. faulted s branch_in_slot_fault slot) (Some (inst slot)) fetched
      ∙ ap (λ b. if skips i x then 0 else one b) (branch-reads-none (inst slot) it) ∙ none-either (skips i x)
  slot-unit-reads i slot false it is here fetched to =
      branch-reads x i begun here to is (done (inst slot)) (Some (inst slot)) fetched

branch-unit-reads : (x : State) (following : List ℕ) (i : Inst) → x.begun ≡ true → is_branch i ≡ true → instruction_at x ≡ Some i → ((s : State) → IsInSlot x s → instruction_at s ≡ option_map inst (first_of following)) → (to : Option State)
    → partial (unit_trail x (unit_turns (branch_unit i following) x) to) ≡ unit_reads (branch_unit i following) x
branch-unit-reads x [] i begun is here next to =
    branch-reads x i begun here to is (λ s. faulted s fetch_fault s.pc) None next ∙ none-either (skips i x)
branch-unit-reads x (slot ∷ words) i begun is here next to =
    slot-unit-reads x (slot ∷ words) begun next i slot (is_branch (inst slot)) refl is here next to

unit-of-reads : (x : State) (following : List ℕ) (i : Inst) → x.begun ≡ true → instruction_at x ≡ Some i → ((s : State) → IsInSlot x s → instruction_at s ≡ option_map inst (first_of following)) → (to : Option State)
    → partial (unit_trail x (unit_turns (unit_of i following) x) to) ≡ unit_reads (unit_of i following) x
unit-of-reads x following (insts.JumpRegister rs) begun here next to = branch-unit-reads x following _ begun refl here next to
unit-of-reads x following (insts.JumpAndLinkRegister rs rd) begun here next to = branch-unit-reads x following _ begun refl here next to
unit-of-reads x following (insts.BranchSign name rs imm) begun here next to = branch-unit-reads x following _ begun refl here next to
unit-of-reads x following (insts.Jump name index) begun here next to = branch-unit-reads x following _ begun refl here next to
unit-of-reads x following (insts.BranchEqual name rs rt imm) begun here next to = branch-unit-reads x following _ begun refl here next to
unit-of-reads x following (insts.BranchZero name rs imm) begun here next to = branch-unit-reads x following _ begun refl here next to
unit-of-reads x following i begun here next to = alone-reads x i begun here to

pub unit-reads : (x : State) (word : ℕ) (following : List ℕ) → Fetches x word following → (to : Option State) → partial (unit_trail x (unit_turns (unit_of (inst word) following) x) to) ≡ unit_reads (unit_of (inst word) following) x
unit-reads x word following f to = unit-of-reads x following (inst word) f.begun f.here f.next to

-- ---- crossings

begins-slot : (i : Inst) (slot : ℕ) (b : Bool) → begins_with_register_jump (if b then units.SlotIsBranch i slot else units.Branch i (inst slot)) ≡ is_register_jump i
begins-slot i slot true = refl
begins-slot i slot false = refl

begins-branch : (i : Inst) (following : List ℕ) → begins_with_register_jump (branch_unit i following) ≡ is_register_jump i
begins-branch i [] = refl
begins-branch i (slot ∷ words) = begins-slot i slot (is_branch (inst slot))

begins-unit : (i : Inst) (following : List ℕ) → begins_with_register_jump (unit_of i following) ≡ true → is_register_jump i ≡ true
begins-unit (insts.JumpRegister rs) following is = refl
begins-unit (insts.JumpAndLinkRegister rs rd) following is = refl
begins-unit (insts.BranchSign name rs imm) following is = sym (begins-branch (insts.BranchSign name rs imm) following) ∙ is
begins-unit (insts.Jump name index) following is = sym (begins-branch (insts.Jump name index) following) ∙ is
begins-unit (insts.BranchEqual name rs rt imm) following is = sym (begins-branch (insts.BranchEqual name rs rt imm) following) ∙ is
begins-unit (insts.BranchZero name rs imm) following is = sym (begins-branch (insts.BranchZero name rs imm) following) ∙ is
begins-unit _ following is = is

jump-crosses : (x : State) (i : Inst) (spans : List Span) (to : Option State) → x.begun ≡ true → instruction_at x ≡ Some i → is_register_jump i ≡ true → crosses spans (record { from = x; to = to }) ≡ true
jump-crosses x i spans to begun here is =
    ap (λ b. b && (is_by is_register_jump (instruction_at x) || goes_out spans x.pc to)) begun
    ∙ ap (λ (o : Option Inst). is_by is_register_jump o || goes_out spans x.pc to) here
    ∙ ap (λ b. b || goes_out spans x.pc to) is

trail-crosses : (x : State) (spans : List Span) (turns : UnitTurns) (to : Option State) → ((t : Option State) → crosses spans (record { from = x; to = t }) ≡ true) → 1 ≤ crossings spans (unit_trail x turns to)
trail-crosses x spans (one_turn last) to crossed =
    let a = first-counted (crosses spans) (record { from = x; to = to }) [] true (crossed to) in omega (arith, a)
trail-crosses x spans (two_turns slot last) to crossed =
    let a = first-counted (crosses spans) (record { from = x; to = Some slot }) (record { from = slot; to = to } ∷ []) true (crossed (Some slot)) in omega (arith, a)

pub unit-crosses : (x : State) (word : ℕ) (following : List ℕ) → Fetches x word following → begins_with_register_jump (unit_of (inst word) following) ≡ true → (spans : List Span) (to : Option State) → 1 ≤ crossings spans (unit_trail x (unit_turns (unit_of (inst word) following) x) to)
unit-crosses x word following f is spans to =
    trail-crosses x spans (unit_turns (unit_of (inst word) following) x) to
    (λ t. jump-crosses x (inst word) spans t f.begun f.here (begins-unit (inst word) following is))

-- ---- slots

module _ (x : State) (begun : x.begun ≡ true) where
  branch-slot : (i : Inst) → is_branch i ≡ true → (second : State → Turn State) → GoesThroughSlot x (then_slot (done i x) second)
  branch-slot i is second = by_way (branch-goes i x is)
    where
      by_way : Goes x (skips i x) (goal_of i x) (done i x) → GoesThroughSlot x (then_slot (done i x) second)
      by_way (inl comes) =
          subst (λ (d : Turn State). GoesThroughSlot x (then_slot d second)) (sym comes.last_is)
          (in-slot x comes.linked_state (goal_of i x) begun comes.kept)
      by_way (inr passes) = subst (λ (d : Turn State). GoesThroughSlot x (then_slot d second)) (sym passes.last_is) tt

  slot-unit-slot : (i : Inst) (slot : ℕ) (b : Bool) → is_branch i ≡ true → GoesThroughSlot x (unit_turns (if b then units.SlotIsBranch i slot else units.Branch i (inst slot)) x)
  slot-unit-slot i slot true is = branch-slot i is (λ s. faulted s branch_in_slot_fault slot)
  slot-unit-slot i slot false is = branch-slot i is (done (inst slot))

  branch-unit-slot : (i : Inst) (following : List ℕ) → is_branch i ≡ true → GoesThroughSlot x (unit_turns (branch_unit i following) x)
  branch-unit-slot i [] is = branch-slot i is (λ s. faulted s fetch_fault s.pc)
  branch-unit-slot i (slot ∷ words) is = slot-unit-slot i slot (is_branch (inst slot)) is

  pub unit-slot : (i : Inst) (following : List ℕ) → GoesThroughSlot x (unit_turns (unit_of i following) x)
  unit-slot (insts.JumpRegister rs) following = branch-unit-slot _ following refl
  unit-slot (insts.JumpAndLinkRegister rs rd) following = branch-unit-slot _ following refl
  unit-slot (insts.BranchSign name rs imm) following = branch-unit-slot _ following refl
  unit-slot (insts.Jump name index) following = branch-unit-slot _ following refl
  unit-slot (insts.BranchEqual name rs rt imm) following = branch-unit-slot _ following refl
  unit-slot (insts.BranchZero name rs imm) following = branch-unit-slot _ following refl
  unit-slot _ following = tt
