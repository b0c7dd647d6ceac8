-- Where a unit leads, and how many turns it has.
use Rattle.std.proofs.Common.{◌≡◌, ℕ, Bool, true, false, not, ◌&&◌, ◌||◌, ◌==◌, if◌then◌else◌, List, [], ◌∷◌, refl, ap, subst, ◌∙◌}
use Rattle.std.specs.List.{slice_get}
use Rattle.std.specs.Prelude.{Some}
use Rattle.run_definition.specs.Words.{signed_of}
use Rattle.run_definition.specs.Turn.{Turn, moves, leaves, asks, exit}
use Rattle.mips_definition.specs.Table.{inst}
use Rattle.mips_decode.specs.Encoding.{word_of}
use Rattle.mips_definition.specs.State.{State, register}
use Rattle.mips_definition.specs.Branches.{taken_or_not, equal_likely, equal_taken, zero_likely, zero_taken, sign_likely, sign_linked, sign_taken}
use Rattle.mips_definition.specs.Effect.{Effect, goes_on, branches, skips_slot, faults, calls, fetch_fault, branch_in_slot_fault}
use Rattle.mips_definition.specs.Step.{effect, question_of, after_call, faulted}
use Rattle.mips_definition.specs.declared.inst.Inst.{Inst}
use Rattle.mips_definition.specs.declared.inst.Inst.TheVariants.{JumpRegister, JumpAndLinkRegister, Syscall, Break, BranchSign, Jump, BranchEqual, BranchZero, Reserved}
use Rattle.mips_decode.proofs.Steps.{Keeps, Keeps-effect}
use Rattle.delay_slots.specs.declared.unit.Unit.{Unit}
use Rattle.delay_slots.specs.declared.unit.Unit.TheVariants.{SlotIsBranch, Branch}
use Rattle.delay_slots.specs.Units.{is_branch, branch_unit, unit_of, units_of}
use Rattle.delay_slots.specs.Turns.{UnitTurns, done_by, done, then_slot, unit_turns, LeadsOn, last_turn, turn_count, skips, unit_turn_count}
use Rattle.delay_slots.proofs.UnitLemmas.{Found, found}
use Rattle.delay_slots.proofs.TurnLemmas.{SameAs, PastSlot, IsNoBranch, no_branch, by_slot}

module _ (x s : State) (same : SameAs x s) (begun : x.begun ≡ true) where
  call_leads : (leaving : Bool) → LeadsOn x (if leaving then leaves (question_of s) (exit (signed_of (register s 4))) else asks (question_of s) (after_call s))
  call_leads true = tt
  call_leads false = λ answer. record {
    begun = same.begun ∙ begun;
    pending = refl;
    code = same.code;
    order = same.order;
    heap_start = same.heap_start;
    heap_bytes = same.heap_bytes;
  }

  effect_leads : (e : Effect) → IsNoBranch e → Keeps s e → LeadsOn x (done_by e s)
  effect_leads (goes_on t) plain kept = record {
    begun = ap (λ (u : State). u.begun) kept ∙ same.begun ∙ begun;
    pending = refl;
    code = ap (λ (u : State). u.code) kept ∙ same.code;
    order = ap (λ (u : State). u.order) kept ∙ same.order;
    heap_start = ap (λ (u : State). u.heap_start) kept ∙ same.heap_start;
    heap_bytes = ap (λ (u : State). u.heap_bytes) kept ∙ same.heap_bytes;
  }
  effect_leads (branches t target) plain kept = absurd plain
  effect_leads (skips_slot t) plain kept = absurd plain
  effect_leads (faults kind value) plain kept = tt
  effect_leads calls plain kept = call_leads (register s 2 == 1)

  done_leads : (i : Inst) → is_branch i ≡ false → LeadsOn x (done i s)
  done_leads i plain =
      effect_leads (effect i (word_of i) s) (no_branch i (word_of i) s plain) (Keeps-effect i (word_of i) s)

same_self : (x : State) → SameAs x x
same_self x = record { begun = refl; code = refl; order = refl; heap_start = refl; heap_bytes = refl }

past_leads : (x s : State) → x.begun ≡ true → PastSlot x s → LeadsOn x (moves s)
past_leads x s begun at = record {
  begun = at.same.begun ∙ begun;
  pending = at.pending;
  code = at.same.code;
  order = at.same.order;
  heap_start = at.same.heap_start;
  heap_bytes = at.same.heap_bytes;
}

slot_leads : (i : Inst) (x : State) (slot : ℕ) (b : Bool) → is_branch (inst slot) ≡ b → x.begun ≡ true → is_branch i ≡ true → LeadsOn x (last_turn (unit_turns (if b then SlotIsBranch i slot else Branch i (inst slot)) x))
slot_leads i x slot true is begun branch =
    by_slot (λ (y : UnitTurns). LeadsOn x (last_turn y)) i x (λ s. faulted s branch_in_slot_fault slot) branch (λ s at e. tt) (λ s at e. past_leads x s begun at)
slot_leads i x slot false is begun branch =
    by_slot (λ (y : UnitTurns). LeadsOn x (last_turn y)) i x (done (inst slot)) branch (λ s at e. done_leads x s at.same begun (inst slot) is) (λ s at e. past_leads x s begun at)

branch_leads : (i : Inst) (x : State) (following : List ℕ) → x.begun ≡ true → is_branch i ≡ true → LeadsOn x (last_turn (unit_turns (branch_unit i following) x))
branch_leads i x [] begun branch =
    by_slot (λ (y : UnitTurns). LeadsOn x (last_turn y)) i x (λ s. faulted s fetch_fault s.pc) branch (λ s at e. tt) (λ s at e. past_leads x s begun at)
branch_leads i x (slot ∷ words) begun branch = slot_leads i x slot (is_branch (inst slot)) refl begun branch

unit_of_leads : (i : Inst) (x : State) (following : List ℕ) → x.begun ≡ true → LeadsOn x (last_turn (unit_turns (unit_of i following) x))
unit_of_leads (JumpRegister rs) x following begun = branch_leads _ x following begun refl
unit_of_leads (JumpAndLinkRegister rs rd) x following begun = branch_leads _ x following begun refl
unit_of_leads (BranchSign name rs imm) x following begun = branch_leads _ x following begun refl
unit_of_leads (Jump name index) x following begun = branch_leads _ x following begun refl
unit_of_leads (BranchEqual name rs rt imm) x following begun = branch_leads _ x following begun refl
unit_of_leads (BranchZero name rs imm) x following begun = branch_leads _ x following begun refl
unit_of_leads (Syscall code) x following begun = call_leads x x (same_self x) begun (register x 2 == 1)
unit_of_leads (Break code) x following begun = tt
unit_of_leads (Reserved word) x following begun = tt
unit_of_leads i x following begun = done_leads x x (same_self x) begun i refl

pub unit_leads : (x : State) (words : List ℕ) (i : ℕ) (unit : Unit) → x.begun ≡ true → slice_get (units_of words) i ≡ Some unit → LeadsOn x (last_turn (unit_turns unit x))
unit_leads x words i unit begun there =
    let at : Found words i unit = found words i unit there in
    subst (λ (u : Unit). LeadsOn x (last_turn (unit_turns u x))) at.unit_is (unit_of_leads (inst at.word) x at.following begun)

-- ---- counts

test_count : (likely taken : Bool) (x t : State) (target : ℕ) (second : State → Turn State)
    → turn_count (then_slot (done_by (if not likely || taken then branches t target else skips_slot t) x) second) ≡ (if likely && not taken then 1 else 2)
test_count true true x t target second = refl
test_count true false x t target second = refl
test_count false true x t target second = refl
test_count false false x t target second = refl

-- a branch has two turns, or one where it skips its slot
then_count : (i : Inst) (x : State) (second : State → Turn State) → is_branch i ≡ true → turn_count (then_slot (done i x) second) ≡ (if skips i x then 1 else 2)
then_count (JumpRegister rs) x second branch = refl
then_count (JumpAndLinkRegister rs rd) x second branch = refl
then_count (BranchSign name rs imm) x second branch =
    let taken = sign_taken name (signed_of (register x rs)) in
    test_count (sign_likely name) taken x (sign_linked name x) (taken_or_not x taken imm) second
then_count (Jump name index) x second branch = refl
then_count (BranchEqual name rs rt imm) x second branch =
    let taken = equal_taken name (register x rs) (register x rt) in
    test_count (equal_likely name) taken x x (taken_or_not x taken imm) second
then_count (BranchZero name rs imm) x second branch =
    let taken = zero_taken name (signed_of (register x rs)) in
    test_count (zero_likely name) taken x x (taken_or_not x taken imm) second
then_count _ x second branch = cc

slot_count : (i : Inst) (x : State) (slot : ℕ) (b : Bool) → is_branch i ≡ true → turn_count (unit_turns (if b then SlotIsBranch i slot else Branch i (inst slot)) x) ≡ unit_turn_count (if b then SlotIsBranch i slot else Branch i (inst slot)) x
slot_count i x slot true branch = then_count i x (λ s. faulted s branch_in_slot_fault slot) branch
slot_count i x slot false branch = then_count i x (done (inst slot)) branch

branch_count : (i : Inst) (x : State) (following : List ℕ) → is_branch i ≡ true → turn_count (unit_turns (branch_unit i following) x) ≡ unit_turn_count (branch_unit i following) x
branch_count i x [] branch = then_count i x (λ s. faulted s fetch_fault s.pc) branch
branch_count i x (slot ∷ words) branch = slot_count i x slot (is_branch (inst slot)) branch

unit_of_count : (i : Inst) (x : State) (following : List ℕ) → turn_count (unit_turns (unit_of i following) x) ≡ unit_turn_count (unit_of i following) x
unit_of_count (JumpRegister rs) x following = branch_count _ x following refl
unit_of_count (JumpAndLinkRegister rs rd) x following = branch_count _ x following refl
unit_of_count (BranchSign name rs imm) x following = branch_count _ x following refl
unit_of_count (Jump name index) x following = branch_count _ x following refl
unit_of_count (BranchEqual name rs rt imm) x following = branch_count _ x following refl
unit_of_count (BranchZero name rs imm) x following = branch_count _ x following refl
unit_of_count _ x following = refl

pub unit_count : (x : State) (words : List ℕ) (i : ℕ) (unit : Unit) → slice_get (units_of words) i ≡ Some unit → turn_count (unit_turns unit x) ≡ unit_turn_count unit x
unit_count x words i unit there =
    let at : Found words i unit = found words i unit there in
    subst (λ (u : Unit). turn_count (unit_turns u x) ≡ unit_turn_count u x) at.unit_is (unit_of_count (inst at.word) x at.following)
