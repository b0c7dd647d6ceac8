-- A unit's turns are those that the machine makes.
use Rattle.std.proofs.Common.{◌≡◌, ℕ, ◌+◌, ◌%◌, ◌^◌, Bool, true, false, not, ◌||◌, ◌==◌, if◌then◌else◌, List, [], ◌∷◌, Option, Some, None, is_none, refl, ap, sym, ◌∙◌}
use Rattle.run_definition.specs.Turn.{Turn, moves}
use Rattle.run_definition.specs.Words.{signed_of}
use Rattle.mips_definition.specs.Table.{inst}
use Rattle.mips_decode.specs.Encoding.{word_of}
use Rattle.mips_definition.specs.State.{State, register, with_register}
use Rattle.mips_definition.specs.Effect.{Effect, goes_on, branches, skips_slot, faults, calls, fetch_fault, read_align_fault, read_unmapped_fault, write_align_fault, write_refused_fault, branch_in_slot_fault}
use Rattle.mips_definition.specs.Arithmetic.{arithmetic_result, arithmetic_immediate_result}
use Rattle.mips_definition.specs.Branches.{taken_or_not, equal_likely, equal_taken, zero_likely, zero_taken, sign_likely, sign_linked, sign_taken}
use Rattle.mips_definition.specs.Loads.{access_address, concluded, load_aligned, loaded_word, store_aligned, store_allowed, memory_stored}
use Rattle.mips_definition.specs.Traps.{trap_by, trap_holds, trap_immediate_holds}
use Rattle.mips_definition.specs.Step.{effect, result_effect, turn_by, into_slot, past_slot, faulted, turn}
use Rattle.mips_definition.specs.declared.inst.Inst.{Inst}
use Rattle.mips_definition.specs.declared.inst.Inst.TheVariants.{Arithmetic, VariableShift, Shift, JumpRegister, JumpAndLinkRegister, Syscall, Break, MoveFrom, MoveTo, Product, BranchSign, Jump, BranchEqual, BranchZero, ArithmeticImmediate, LogicalImmediate, LoadUpper, Load, Store, Trap, TrapImmediate, Sync, LoadLinked, StoreConditional, Reserved, Float}
use Rattle.mips_definition.specs.declared.names.load_name.LoadName.TheVariants.{Lw}
use Rattle.mips_definition.specs.declared.names.store_name.StoreName.TheVariants.{Sw}
use Rattle.mips_decode.proofs.Steps.{Keeps, Keeps-effect}
use Rattle.mips_definition.specs.declared.names.hi_lo.HiLo.TheVariants.{Hi, Lo}
use Rattle.delay_slots.specs.declared.unit.Unit.TheVariants.{SlotIsBranch, Branch}
use Rattle.delay_slots.specs.Units.{is_branch, branch_unit, unit_of}
use Rattle.delay_slots.specs.Turns.{UnitTurns, one_turn, two_turns, done_by, done, then_slot, unit_turns, AreMade}
use Rattle.delay_slots.proofs.UnitLemmas.{first_of}

-- ---- one turn, by what stands at pc

turn_at : (x : State) (word : ℕ) → x.begun ≡ true → (x.pc % 4 == 0) ≡ true → x.code x.pc ≡ Some word → turn x ≡ turn_by (effect (inst word) word x) word x
turn_at x word begun aligned there = simp (begun, aligned, there)

turn_outside : (x : State) → x.begun ≡ true → (x.pc % 4 == 0) ≡ true → x.code x.pc ≡ None → turn x ≡ faulted x fetch_fault x.pc
turn_outside x begun aligned outside = simp (begun, aligned, outside)

-- with nothing pending, each effect is done
done_alone : (e : Effect) (word : ℕ) (x : State) → x.pending ≡ None → turn_by e word x ≡ done_by e x
done_alone (goes_on t) word x free = refl
done_alone (branches t target) word x free = rw free
done_alone (skips_slot t) word x free = rw free
done_alone (faults kind value) word x free = refl
done_alone calls word x free = refl

-- with a branch pending, each effect but a branch is done
abbrev pub IsNoBranch : Effect → Type 0
IsNoBranch (branches t target) = ⊥
IsNoBranch (skips_slot t) = ⊥
IsNoBranch (goes_on t) = Unit {0}
IsNoBranch (faults kind value) = Unit {0}
IsNoBranch calls = Unit {0}

done_in_slot : (e : Effect) (word : ℕ) (s : State) → IsNoBranch e → turn_by e word s ≡ done_by e s
done_in_slot (goes_on t) word s h = refl
done_in_slot (branches t target) word s h = absurd h
done_in_slot (skips_slot t) word s h = absurd h
done_in_slot (faults kind value) word s h = refl
done_in_slot calls word s h = refl

-- ---- effects of branches, and of the rest

-- A state has what a branch leaves as it was in another.
pub record SameAs (x s : State) : Type 0 where
  pub begun : s.begun ≡ x.begun
  pub code : s.code ≡ x.code
  pub order : s.order ≡ x.order
  pub heap_start : s.heap_start ≡ x.heap_start
  pub heap_bytes : s.heap_bytes ≡ x.heap_bytes

-- the effect of a branch
abbrev IsBranch : Effect → Type 0
IsBranch (branches t target) = Unit {0}
IsBranch (skips_slot t) = Unit {0}
IsBranch (goes_on t) = ⊥
IsBranch (faults kind value) = ⊥
IsBranch calls = ⊥

is_branch-test : (goes : Bool) (t : State) (target : ℕ) → IsBranch (if goes then branches t target else skips_slot t)
is_branch-test true t target = tt
is_branch-test false t target = tt

branch_effect : (i : Inst) (word : ℕ) (x : State) → is_branch i ≡ true → IsBranch (effect i word x)
branch_effect (JumpRegister rs) word x h = tt
branch_effect (JumpAndLinkRegister rs rd) word x h = tt
branch_effect (BranchSign name rs imm) word x h =
    let taken = sign_taken name (signed_of (register x rs)) in
    is_branch-test (not (sign_likely name) || taken) (sign_linked name x) (taken_or_not x taken imm)
branch_effect (Jump name index) word x h = tt
branch_effect (BranchEqual name rs rt imm) word x h =
    let taken = equal_taken name (register x rs) (register x rt) in
    is_branch-test (not (equal_likely name) || taken) x (taken_or_not x taken imm)
branch_effect (BranchZero name rs imm) word x h =
    let taken = zero_taken name (signed_of (register x rs)) in
    is_branch-test (not (zero_likely name) || taken) x (taken_or_not x taken imm)
branch_effect _ word x h = cc

kept_same : (x t : State) → t ≡ record x { registers = t.registers } → SameAs x t
kept_same x t kept = record {
  begun = ap (λ (s : State). s.begun) kept;
  code = ap (λ (s : State). s.code) kept;
  order = ap (λ (s : State). s.order) kept;
  heap_start = ap (λ (s : State). s.heap_start) kept;
  heap_bytes = ap (λ (s : State). s.heap_bytes) kept;
}

no_branch-result : (s : State) (word r : ℕ) (result : Option ℕ) → IsNoBranch (result_effect s word r result)
no_branch-result s word r None = tt
no_branch-result s word r (Some result) = tt

-- two tests, of which each may fault
no_branch-tests : (first second : Bool) (a b c d : ℕ) (t : State) → IsNoBranch (if first then faults a b else if second then faults c d else goes_on t)
no_branch-tests true second a b c d t = tt
no_branch-tests false true a b c d t = tt
no_branch-tests false false a b c d t = tt

no_branch-trap : (holds : Bool) (word : ℕ) (s : State) → IsNoBranch (trap_by holds word s)
no_branch-trap true word s = tt
no_branch-trap false word s = tt

pub no_branch : (i : Inst) (word : ℕ) (s : State) → is_branch i ≡ false → IsNoBranch (effect i word s)
no_branch (Arithmetic name rs rt rd) word s h = no_branch-result s word rd (arithmetic_result name (register s rs) (register s rt))
no_branch (ArithmeticImmediate name rs rt imm) word s h = no_branch-result s word rt (arithmetic_immediate_result name (register s rs) imm)
no_branch (VariableShift name rs rt rd) word s h = tt
no_branch (Shift name rt rd sa) word s h = tt
no_branch (JumpRegister rs) word s h = cc
no_branch (JumpAndLinkRegister rs rd) word s h = cc
no_branch (Syscall code) word s h = tt
no_branch (Break code) word s h = tt
no_branch (MoveFrom Hi rd) word s h = tt
no_branch (MoveFrom Lo rd) word s h = tt
no_branch (MoveTo Hi rs) word s h = tt
no_branch (MoveTo Lo rs) word s h = tt
no_branch (Product name rs rt) word s h = tt
no_branch (BranchSign name rs imm) word s h = cc
no_branch (Jump name index) word s h = cc
no_branch (BranchEqual name rs rt imm) word s h = cc
no_branch (BranchZero name rs imm) word s h = cc
no_branch (LogicalImmediate name rs rt imm) word s h = tt
no_branch (LoadUpper rt imm) word s h = tt
no_branch (Load name rs rt imm) word s h =
    let a : ℕ = access_address s rs imm in
    let t : State = with_register s rt (loaded_word name s.order s.memory a (register s rt)) in
    no_branch-tests (not (load_aligned name a)) (is_none (s.memory.byte a)) read_align_fault a read_unmapped_fault a t
no_branch (Store name rs rt imm) word s h =
    let a : ℕ = access_address s rs imm in
    let t : State = record s { memory = memory_stored name s.order s.memory a (register s rt) } in
    no_branch-tests (not (store_aligned name a)) (not (store_allowed name s.order s.memory a)) write_align_fault a write_refused_fault a t
no_branch (Trap name rs rt code) word s h = no_branch-trap (trap_holds name (register s rs) (register s rt)) word s
no_branch (TrapImmediate name rs imm) word s h = no_branch-trap (trap_immediate_holds name (register s rs) imm) word s
no_branch (Sync sa) word s h = tt
no_branch (LoadLinked rs rt imm) word s h =
    let a : ℕ = access_address s rs imm in
    let t : State = record (with_register s rt (loaded_word Lw s.order s.memory a (register s rt))) { load_link = Some a } in
    no_branch-tests (not (load_aligned Lw a)) (is_none (s.memory.byte a)) read_align_fault a read_unmapped_fault a t
no_branch (StoreConditional rs rt imm) word s h =
    let a : ℕ = access_address s rs imm in
    no_branch-tests (not (store_aligned Sw a)) (not (store_allowed Sw s.order s.memory a)) write_align_fault a write_refused_fault a (concluded s rt a)
no_branch (Reserved w) word s h = tt
no_branch (Float w) word s h = tt

-- ---- the turns of a branch

-- A state in the delay slot of a branch that was done in x.
pub record InSlot (x s : State) : Type 0 where
  pub target : ℕ
  pub pending : s.pending ≡ Some target
  pub pc : s.pc ≡ (x.pc + 4) % 2 ^ 32
  pub same : SameAs x s

-- A state behind the delay slot of a likely branch that was not taken in x.
pub record PastSlot (x s : State) : Type 0 where
  pub pending : s.pending ≡ None
  pub same : SameAs x s

by_effect : (P : UnitTurns → Type 0) (e : Effect) (x : State) (second : State → Turn State) → IsBranch e → Keeps x e
    → ((s : State) → InSlot x s → done_by e x ≡ moves s → P (two_turns s (second s)))
    → ((s : State) → PastSlot x s → done_by e x ≡ moves s → P (one_turn (moves s)))
    → P (then_slot (done_by e x) second)
by_effect P (branches t target) x second branch kept each skip =
    let same : SameAs x t = kept_same x t kept in
    each (into_slot t target) (record {
      target = target;
      pending = refl;
      pc = ap (λ (s : State). (s.pc + 4) % 2 ^ 32) kept;
      same = record { begun = same.begun; code = same.code; order = same.order; heap_start = same.heap_start; heap_bytes = same.heap_bytes };
    }) refl
by_effect P (skips_slot t) x second branch kept each skip =
    let same : SameAs x t = kept_same x t kept in
    skip (past_slot t) (record {
      pending = refl;
      same = record { begun = same.begun; code = same.code; order = same.order; heap_start = same.heap_start; heap_bytes = same.heap_bytes };
    }) refl
by_effect P (goes_on t) x second branch kept each skip = absurd branch
by_effect P (faults kind value) x second branch kept each skip = absurd branch
by_effect P calls x second branch kept each skip = absurd branch

-- what holds of two turns, for each state in the slot, and of one turn, for each state behind it, holds of a branch's turns
pub by_slot : (P : UnitTurns → Type 0) (i : Inst) (x : State) (second : State → Turn State) → is_branch i ≡ true
    → ((s : State) → InSlot x s → done i x ≡ moves s → P (two_turns s (second s)))
    → ((s : State) → PastSlot x s → done i x ≡ moves s → P (one_turn (moves s)))
    → P (then_slot (done i x) second)
by_slot P i x second branch each skip =
    by_effect P (effect i (word_of i) x) x second (branch_effect i (word_of i) x branch) (Keeps-effect i (word_of i) x) each skip

branch_made : (i : Inst) (x : State) (second : State → Turn State) → is_branch i ≡ true → turn x ≡ done i x → ((s : State) → InSlot x s → turn s ≡ second s) → AreMade x (then_slot (done i x) second)
branch_made i x second branch first slot =
    by_slot (AreMade x) i x second branch (λ s at e. (first ∙ e, slot s at)) (λ s at e. first ∙ e)

-- ---- the turns of any unit

-- A state stands at a word of a range, with no branch pending, and these words follow it.
pub record Placed (x : State) (word : ℕ) (following : List ℕ) : Type 0 where
  pub begun : x.begun ≡ true
  pub pending : x.pending ≡ None
  pub aligned : (x.pc % 4 == 0) ≡ true
  pub there : x.code x.pc ≡ Some word
  pub encodes : word_of (inst word) ≡ word
  pub next_aligned : ((x.pc + 4) % 2 ^ 32 % 4 == 0) ≡ true
  pub next_there : x.code ((x.pc + 4) % 2 ^ 32) ≡ first_of following
  pub next_encodes : (w : ℕ) → first_of following ≡ Some w → word_of (inst w) ≡ w

module _ (x : State) (word : ℕ) (following : List ℕ) (placed : Placed x word following) where
  first_turn : turn x ≡ done (inst word) x
  first_turn =
      turn_at x word placed.begun placed.aligned placed.there
      ∙ done_alone (effect (inst word) word x) word x placed.pending
      ∙ ap (λ w. done_by (effect (inst word) w x) x) (sym placed.encodes)

  slot_there : (s : State) → InSlot x s → s.code s.pc ≡ first_of following
  slot_there s at = ap (λ n. s.code n) at.pc ∙ ap (λ (c : ℕ → Option ℕ). c ((x.pc + 4) % 2 ^ 32)) at.same.code ∙ placed.next_there

  slot_aligned : (s : State) → InSlot x s → (s.pc % 4 == 0) ≡ true
  slot_aligned s at = ap (λ n. n % 4 == 0) at.pc ∙ placed.next_aligned

-- the range ends with the branch
slot_missing : (x s : State) (word : ℕ) → Placed x word [] → InSlot x s → turn s ≡ faulted s fetch_fault s.pc
slot_missing x s word placed at =
    turn_outside s (at.same.begun ∙ placed.begun) (slot_aligned x word [] placed s at) (slot_there x word [] placed s at)

-- an instruction in the slot that is no branch
slot_done : (x s : State) (word slot : ℕ) (words : List ℕ) → is_branch (inst slot) ≡ false → Placed x word (slot ∷ words) → InSlot x s → turn s ≡ done (inst slot) s
slot_done x s word slot words plain placed at =
    turn_at s slot (at.same.begun ∙ placed.begun) (slot_aligned x word (slot ∷ words) placed s at) (slot_there x word (slot ∷ words) placed s at)
    ∙ done_in_slot (effect (inst slot) slot s) slot s (no_branch (inst slot) slot s plain)
    ∙ ap (λ w. done_by (effect (inst slot) w s) s) (sym (placed.next_encodes slot refl))

-- a branch in the slot
branch_refused : (e : Effect) (s : State) (slot pending : ℕ) → IsBranch e → s.pending ≡ Some pending → turn_by e slot s ≡ faulted s branch_in_slot_fault slot
branch_refused (branches t target) s slot pending branch there = rw there refl
branch_refused (skips_slot t) s slot pending branch there = rw there refl
branch_refused (goes_on t) s slot pending branch there = absurd branch
branch_refused (faults kind value) s slot pending branch there = absurd branch
branch_refused calls s slot pending branch there = absurd branch

slot_refused : (x s : State) (word slot : ℕ) (words : List ℕ) → is_branch (inst slot) ≡ true → Placed x word (slot ∷ words) → InSlot x s → turn s ≡ faulted s branch_in_slot_fault slot
slot_refused x s word slot words branch placed at =
    turn_at s slot (at.same.begun ∙ placed.begun) (slot_aligned x word (slot ∷ words) placed s at) (slot_there x word (slot ∷ words) placed s at)
    ∙ branch_refused (effect (inst slot) slot s) s slot at.target (branch_effect (inst slot) slot s branch) at.pending

slot_made : (i : Inst) (x : State) (word slot : ℕ) (words : List ℕ) (b : Bool) → is_branch (inst slot) ≡ b → is_branch i ≡ true → turn x ≡ done i x → Placed x word (slot ∷ words) → AreMade x (unit_turns (if b then SlotIsBranch i slot else Branch i (inst slot)) x)
slot_made i x word slot words true is branch first placed =
    branch_made i x (λ s. faulted s branch_in_slot_fault slot) branch first (λ s. slot_refused x s word slot words is placed)
slot_made i x word slot words false is branch first placed =
    branch_made i x (done (inst slot)) branch first (λ s. slot_done x s word slot words is placed)

branch_unit_made : (i : Inst) (x : State) (word : ℕ) (following : List ℕ) → is_branch i ≡ true → turn x ≡ done i x → Placed x word following → AreMade x (unit_turns (branch_unit i following) x)
branch_unit_made i x word [] branch first placed =
    branch_made i x (λ s. faulted s fetch_fault s.pc) branch first (λ s. slot_missing x s word placed)
branch_unit_made i x word (slot ∷ words) branch first placed =
    slot_made i x word slot words (is_branch (inst slot)) refl branch first placed

unit_made : (i : Inst) (x : State) (word : ℕ) (following : List ℕ) → turn x ≡ done i x → Placed x word following → AreMade x (unit_turns (unit_of i following) x)
unit_made (JumpRegister rs) x word following first placed = branch_unit_made _ x word following refl first placed
unit_made (JumpAndLinkRegister rs rd) x word following first placed = branch_unit_made _ x word following refl first placed
unit_made (BranchSign name rs imm) x word following first placed = branch_unit_made _ x word following refl first placed
unit_made (Jump name index) x word following first placed = branch_unit_made _ x word following refl first placed
unit_made (BranchEqual name rs rt imm) x word following first placed = branch_unit_made _ x word following refl first placed
unit_made (BranchZero name rs imm) x word following first placed = branch_unit_made _ x word following refl first placed
unit_made _ x word following first placed = first

pub turns_made : (x : State) (word : ℕ) (following : List ℕ) → Placed x word following → AreMade x (unit_turns (unit_of (inst word) following) x)
turns_made x word following placed = unit_made (inst word) x word following (first_turn x word following placed) placed
