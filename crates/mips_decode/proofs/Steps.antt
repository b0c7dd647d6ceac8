-- What holds of every step: how it goes by the word at pc, and what no instruction changes.
use Rattle.std.proofs.Common.{◌≡◌, refl, ℕ, ◌%◌, Bool, true, false, ◌||◌, ◌==◌, not, is_none, if◌then◌else◌, Option, Some, None}
use Rattle.run_definition.specs.Words.{signed_of}
use Rattle.mips_definition.specs.State.{State, register, with_register}
use Rattle.mips_definition.specs.Effect.{Effect, goes_on, branches, skips_slot, faults, calls, read_align_fault, read_unmapped_fault, write_align_fault, write_refused_fault}
use Rattle.mips_definition.specs.Arithmetic.{arithmetic_result, arithmetic_immediate_result}
use Rattle.mips_definition.specs.Branches.{with_return_link, taken_or_not, branch_effect, sign_linked, equal_taken, equal_likely, zero_taken, zero_likely, sign_taken, sign_likely}
use Rattle.mips_definition.specs.Loads.{load_aligned, loaded_word, access_address, is_linked, concluded, store_aligned, store_allowed, memory_stored}
use Rattle.mips_definition.specs.Traps.{trap_holds, trap_immediate_holds, trap_by}
use Rattle.mips_definition.specs.Step.{turn, turn_by, effect, result_effect}
use Rattle.mips_definition.specs.Table.{inst}
use Rattle.mips_definition.specs.declared.inst.Inst.{Inst}
use Rattle.mips_definition.specs.declared.inst.Inst.TheVariants.{Arithmetic, VariableShift, Shift, JumpRegister, JumpAndLinkRegister, Syscall, Break, MoveFrom, MoveTo, Product, BranchSign, Jump, BranchEqual, BranchZero, ArithmeticImmediate, LogicalImmediate, LoadUpper, Load, Store, Trap, TrapImmediate, Sync, LoadLinked, StoreConditional, Reserved, Float}
use Rattle.mips_definition.specs.declared.names.branch_sign_name.BranchSignName.{BranchSignName}
use Rattle.mips_definition.specs.declared.names.branch_sign_name.BranchSignName.TheVariants.{Bltz, Bgez, Bltzal, Bgezal, Bltzl, Bgezl, Bltzall, Bgezall}
use Rattle.mips_definition.specs.declared.names.jump_name.JumpName.TheVariants.{J, Jal}
use Rattle.mips_definition.specs.declared.names.load_name.LoadName.TheVariants.{Lw}
use Rattle.mips_definition.specs.declared.names.store_name.StoreName.TheVariants.{Sw}
use Rattle.mips_definition.specs.declared.names.hi_lo.HiLo.TheVariants.{Hi, Lo}

-- ---- the step by what stands at pc

pub turn-word : (s : State) (word : ℕ) → s.begun ≡ true → (s.pc % 4 == 0) ≡ true → s.code s.pc ≡ Some word
    → turn s ≡ turn_by (effect (inst word) word s) word s
turn-word s word begun aligned there = simp (begun, aligned, there)

-- ---- what no instruction changes

-- An instruction that goes on changes registers, HI, LO, memory and the link of LL alone, and a branch registers alone.
abbrev pub Keeps : State → Effect → Type 0
Keeps s (goes_on t) = t ≡ record s { registers = t.registers; hi = t.hi; lo = t.lo; memory = t.memory; load_link = t.load_link }
Keeps s (branches t target) = t ≡ record s { registers = t.registers }
Keeps s (skips_slot t) = t ≡ record s { registers = t.registers }
Keeps s (faults kind value) = Unit {0}
Keeps s calls = Unit {0}

Keeps-result : (s : State) (word r : ℕ) (result : Option ℕ) → Keeps s (result_effect s word r result)
Keeps-result s word r None = tt
Keeps-result s word r (Some result) = refl

-- two tests, of which each may fault, before what is done
Keeps-load : (s t : State) (a : ℕ) (aligned unmapped : Bool) → Keeps s (goes_on t)
    → Keeps s (if not aligned then faults read_align_fault a else if unmapped then faults read_unmapped_fault a else goes_on t)
Keeps-load s t a false unmapped kept = tt
Keeps-load s t a true true kept = tt
Keeps-load s t a true false kept = kept

Keeps-store : (s t : State) (a : ℕ) (aligned allowed : Bool) → Keeps s (goes_on t)
    → Keeps s (if not aligned then faults write_align_fault a else if not allowed then faults write_refused_fault a else goes_on t)
Keeps-store s t a false allowed kept = tt
Keeps-store s t a true false kept = tt
Keeps-store s t a true true kept = kept

Keeps-choice : (s t u : State) (chosen : Bool) → Keeps s (goes_on t) → Keeps s (goes_on u) → Keeps s (goes_on (if chosen then t else u))
Keeps-choice s t u true first second = first
Keeps-choice s t u false first second = second

Keeps-branch : (s t : State) (target : ℕ) (goes : Bool) → t ≡ record s { registers = t.registers } → Keeps s (if goes then branches t target else skips_slot t)
Keeps-branch s t target true kept = kept
Keeps-branch s t target false kept = kept

Keeps-sign : (name : BranchSignName) (s : State) (imm : ℕ) (taken : Bool) → Keeps s (branch_effect (sign_likely name) taken s (sign_linked name s) imm)
Keeps-sign Bltz s imm taken = Keeps-branch s s (taken_or_not s taken imm) (true || taken) refl
Keeps-sign Bgez s imm taken = Keeps-branch s s (taken_or_not s taken imm) (true || taken) refl
Keeps-sign Bltzal s imm taken = Keeps-branch s (with_return_link s 31) (taken_or_not s taken imm) (true || taken) refl
Keeps-sign Bgezal s imm taken = Keeps-branch s (with_return_link s 31) (taken_or_not s taken imm) (true || taken) refl
Keeps-sign Bltzl s imm taken = Keeps-branch s s (taken_or_not s taken imm) (false || taken) refl
Keeps-sign Bgezl s imm taken = Keeps-branch s s (taken_or_not s taken imm) (false || taken) refl
Keeps-sign Bltzall s imm taken = Keeps-branch s (with_return_link s 31) (taken_or_not s taken imm) (false || taken) refl
Keeps-sign Bgezall s imm taken = Keeps-branch s (with_return_link s 31) (taken_or_not s taken imm) (false || taken) refl

Keeps-trap : (holds : Bool) (word : ℕ) (s : State) → Keeps s (trap_by holds word s)
Keeps-trap true word s = tt
Keeps-trap false word s = refl

pub Keeps-effect : (i : Inst) (word : ℕ) (s : State) → Keeps s (effect i word s)
Keeps-effect (Arithmetic name rs rt rd) word s = Keeps-result s word rd (arithmetic_result name (register s rs) (register s rt))
Keeps-effect (VariableShift name rs rt rd) word s = refl
Keeps-effect (Shift name rt rd sa) word s = refl
Keeps-effect (JumpRegister rs) word s = refl
Keeps-effect (JumpAndLinkRegister rs rd) word s = refl
Keeps-effect (Syscall code) word s = tt
Keeps-effect (Break code) word s = tt
Keeps-effect (MoveFrom Hi rd) word s = refl
Keeps-effect (MoveFrom Lo rd) word s = refl
Keeps-effect (MoveTo Hi rs) word s = refl
Keeps-effect (MoveTo Lo rs) word s = refl
Keeps-effect (Product name rs rt) word s = refl
Keeps-effect (BranchSign name rs imm) word s = Keeps-sign name s imm (sign_taken name (signed_of (register s rs)))
Keeps-effect (Jump J index) word s = refl
Keeps-effect (Jump Jal index) word s = refl
Keeps-effect (BranchEqual name rs rt imm) word s =
    let taken = equal_taken name (register s rs) (register s rt) in
    Keeps-branch s s (taken_or_not s taken imm) (not (equal_likely name) || taken) refl
Keeps-effect (BranchZero name rs imm) word s =
    let taken = zero_taken name (signed_of (register s rs)) in
    Keeps-branch s s (taken_or_not s taken imm) (not (zero_likely name) || taken) refl
Keeps-effect (ArithmeticImmediate name rs rt imm) word s = Keeps-result s word rt (arithmetic_immediate_result name (register s rs) imm)
Keeps-effect (LogicalImmediate name rs rt imm) word s = refl
Keeps-effect (LoadUpper rt imm) word s = refl
Keeps-effect (Load name rs rt imm) word s =
    let a : ℕ = access_address s rs imm in
    let t : State = with_register s rt (loaded_word name s.order s.memory a (register s rt)) in
    Keeps-load s t a (load_aligned name a) (is_none (s.memory.byte a)) refl
Keeps-effect (Store name rs rt imm) word s =
    let a : ℕ = access_address s rs imm in
    let t : State = record s { memory = memory_stored name s.order s.memory a (register s rt) } in
    Keeps-store s t a (store_aligned name a) (store_allowed name s.order s.memory a) refl
Keeps-effect (Trap name rs rt code) word s = Keeps-trap (trap_holds name (register s rs) (register s rt)) word s
Keeps-effect (TrapImmediate name rs imm) word s = Keeps-trap (trap_immediate_holds name (register s rs) imm) word s
Keeps-effect (Sync sa) word s = refl
Keeps-effect (LoadLinked rs rt imm) word s =
    let a : ℕ = access_address s rs imm in
    let t : State = record (with_register s rt (loaded_word Lw s.order s.memory a (register s rt))) { load_link = Some a } in
    Keeps-load s t a (load_aligned Lw a) (is_none (s.memory.byte a)) refl
Keeps-effect (StoreConditional rs rt imm) word s =
    let a : ℕ = access_address s rs imm in
    let t : State = record (with_register s rt 1) { memory = memory_stored Sw s.order s.memory a (register s rt); load_link = None } in
    let u : State = record (with_register s rt 0) { load_link = None } in
    Keeps-store s (concluded s rt a) a (store_aligned Sw a) (store_allowed Sw s.order s.memory a) (Keeps-choice s t u (is_linked s a) refl refl)
Keeps-effect (Reserved w) word s = tt
Keeps-effect (Float w) word s = tt
