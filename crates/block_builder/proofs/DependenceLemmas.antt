-- Instructions keep to the registers that they read and write.
use Rattle.std.proofs.Common.{◌≡◌, ◌≢◌, ℕ, ◌*◌, ◌^◌, ◌==◌, nat_lt, Bool, true, false, not, ◌&&◌, ◌||◌, if◌then◌else◌, is_none, List, [], ◌∷◌, Option, Some, None, refl, sym, ap, subst, ◌∙◌, inl, inr, arith}
use Rattle.std.specs.List.{AllByRecursion}
use Rattle.std.proofs.lemmas.Bool.{cases_eq, eq-eqb, ne_eqb, lt-ltb, and_from, and_right}
use Rattle.run_definition.specs.Words.{signed_of, wrapped}
use Rattle.run_definition.specs.declared.call.Call.{Call}
use Rattle.run_definition.specs.Question.{asked}
use Rattle.run_definition.specs.Answer.{answered}
use Rattle.run_definition.specs.Memory.{Memory}
use Rattle.run_definition.specs.Turn.{Turn, leaves, asks, exit}
use Rattle.mips_definition.specs.Memory.{with_byte}
use Rattle.mips_definition.specs.State.{State, register, with_register}
use Rattle.mips_decode.specs.Encoding.{word_of}
use Rattle.mips_definition.specs.Effect.{Effect, goes_on, branches, skips_slot, faults, read_align_fault, read_unmapped_fault, write_align_fault, write_refused_fault}
use Rattle.mips_definition.specs.Arithmetic.{arithmetic_result, arithmetic_immediate_result, logical_immediate_result, shifted, variable_shifted, product_hi, product_lo}
use Rattle.mips_definition.specs.Branches.{after_slot, with_return_link, taken_or_not, branch_effect, equal_likely, equal_taken, zero_likely, zero_taken, sign_likely, sign_linked, sign_taken}
use Rattle.mips_definition.specs.Targets.{jump_target}
use Rattle.mips_definition.specs.Loads.{access_address, is_linked, load_aligned, loaded_word, store_aligned, store_allowed, memory_stored}
use Rattle.mips_definition.specs.Traps.{trap_by, trap_holds, trap_immediate_holds}
use Rattle.mips_definition.specs.Step.{advanced, after_call, call_of, called, into_slot, past_slot, question_of, result_effect}
use Rattle.mips_definition.specs.declared.inst.Inst.{Inst}
use Rattle.mips_definition.specs.declared.inst.Inst.TheVariants.{Arithmetic, VariableShift, Shift, JumpRegister, JumpAndLinkRegister, Syscall, Break, MoveFrom, MoveTo, Product, BranchSign, Jump, BranchEqual, BranchZero, ArithmeticImmediate, LogicalImmediate, LoadUpper, Load, Store, Trap, TrapImmediate, Sync, LoadLinked, StoreConditional, Reserved, Float}
use Rattle.mips_definition.specs.declared.names.branch_sign_name.BranchSignName.{BranchSignName}
use Rattle.mips_definition.specs.declared.names.branch_sign_name.BranchSignName.TheVariants.{Bltz, Bgez, Bltzal, Bgezal, Bltzl, Bgezl, Bltzall, Bgezall}
use Rattle.mips_definition.specs.declared.names.hi_lo.HiLo.TheVariants.{Hi, Lo}
use Rattle.mips_definition.specs.declared.names.jump_name.JumpName.TheVariants.{J, Jal}
use Rattle.mips_definition.specs.declared.names.load_name.LoadName.{LoadName}
use Rattle.mips_definition.specs.declared.names.load_name.LoadName.TheVariants.{Lb, Lh, Lwl, Lw, Lbu, Lhu, Lwr}
use Rattle.mips_definition.specs.declared.names.store_name.StoreName.TheVariants.{Sw}
use Rattle.delay_slots.specs.Turns.{done, done_by}
use Rattle.block_builder.specs.Registers.{Register, general, special, read_by, written_by, written_by_branch_sign}
use Rattle.block_builder.specs.Dependence.{held, AgreeOn, KeepsOthers, ChangesOnly, GoAlike}

-- ---- the registers that are not written

-- a register that is not written holds what it held
not_written : (r q value old : ℕ) → r ≢ q → (if q == 0 then 0 else if nat_lt 0 r && q == r then value else old) ≡ (if q == 0 then 0 else old)
not_written r q value old apart =
    let off : (nat_lt 0 r && q == r) ≡ false = and_right (nat_lt 0 r) (q == r) (ne_eqb q r (λ same. apart (sym same))) in
    rw off refl

module _ (s : State) where
  -- no register is written
  none_written : (t : State) → t.registers ≡ s.registers → t.hi ≡ s.hi → t.lo ≡ s.lo → KeepsOthers [] s t
  none_written t registers hi lo (general q) apart = ap (λ (f : ℕ → ℕ). if q == 0 then 0 else f q) registers
  none_written t registers hi lo (special Hi) apart = hi
  none_written t registers hi lo (special Lo) apart = lo

  -- one register is written
  one_written : (t : State) (r value : ℕ) → t.registers ≡ (with_register s r value).registers → t.hi ≡ s.hi → t.lo ≡ s.lo → KeepsOthers (general r ∷ []) s t
  one_written t r value registers hi lo (general q) apart =
      ap (λ (f : ℕ → ℕ). if q == 0 then 0 else f q) registers ∙ not_written r q value (s.registers q) (λ same. apart.0 (ap general same))
  one_written t r value registers hi lo (special Hi) apart = hi
  one_written t r value registers hi lo (special Lo) apart = lo

  hi_written : (value : ℕ) → KeepsOthers (special Hi ∷ []) s (advanced (record s { hi = value }))
  hi_written value (general q) apart = refl
  hi_written value (special Hi) apart = absurd (apart.0 refl)
  hi_written value (special Lo) apart = refl

  lo_written : (value : ℕ) → KeepsOthers (special Lo ∷ []) s (advanced (record s { lo = value }))
  lo_written value (general q) apart = refl
  lo_written value (special Hi) apart = refl
  lo_written value (special Lo) apart = absurd (apart.0 refl)

  both_written : (high low : ℕ) → KeepsOthers (special Hi ∷ special Lo ∷ []) s (advanced (record s { hi = high; lo = low }))
  both_written high low (general q) apart = refl
  both_written high low (special Hi) apart = absurd (apart.0 refl)
  both_written high low (special Lo) apart = absurd (apart.1.0 refl)

  changes_result : (word r : ℕ) (result : Option ℕ) → ChangesOnly (general r ∷ []) s (done_by (result_effect s word r result) s)
  changes_result word r None = tt
  changes_result word r (Some value) = one_written (advanced (with_register s r value)) r value refl refl refl

  changes_branch : (goes : Bool) (target : ℕ) → ChangesOnly [] s (done_by (if goes then branches s target else skips_slot s) s)
  changes_branch true target = none_written (into_slot s target) refl refl refl
  changes_branch false target = none_written (past_slot s) refl refl refl

  changes_link : (goes : Bool) (target : ℕ) → ChangesOnly (general 31 ∷ []) s (done_by (if goes then branches (with_return_link s 31) target else skips_slot (with_return_link s 31)) s)
  changes_link true target = one_written (into_slot (with_return_link s 31) target) 31 (after_slot s) refl refl refl
  changes_link false target = one_written (past_slot (with_return_link s 31)) 31 (after_slot s) refl refl refl

  changes_sign : (name : BranchSignName) (imm : ℕ) (taken : Bool)
      → ChangesOnly (written_by_branch_sign name) s (done_by (branch_effect (sign_likely name) taken s (sign_linked name s) imm) s)
  changes_sign Bltz imm taken = changes_branch (true || taken) (taken_or_not s taken imm)
  changes_sign Bgez imm taken = changes_branch (true || taken) (taken_or_not s taken imm)
  changes_sign Bltzal imm taken = changes_link (true || taken) (taken_or_not s taken imm)
  changes_sign Bgezal imm taken = changes_link (true || taken) (taken_or_not s taken imm)
  changes_sign Bltzl imm taken = changes_branch (false || taken) (taken_or_not s taken imm)
  changes_sign Bgezl imm taken = changes_branch (false || taken) (taken_or_not s taken imm)
  changes_sign Bltzall imm taken = changes_link (false || taken) (taken_or_not s taken imm)
  changes_sign Bgezall imm taken = changes_link (false || taken) (taken_or_not s taken imm)

  -- two tests, of which each may fault, before what is done
  changes_load : (changed : List Register) (t : State) (a : ℕ) (aligned unmapped : Bool) → KeepsOthers changed s (advanced t)
      → ChangesOnly changed s (done_by (if not aligned then faults read_align_fault a else if unmapped then faults read_unmapped_fault a else goes_on t) s)
  changes_load changed t a false unmapped kept = tt
  changes_load changed t a true true kept = tt
  changes_load changed t a true false kept = kept

  changes_store : (changed : List Register) (t : State) (a : ℕ) (aligned allowed : Bool) → KeepsOthers changed s (advanced t)
      → ChangesOnly changed s (done_by (if not aligned then faults write_align_fault a else if not allowed then faults write_refused_fault a else goes_on t) s)
  changes_store changed t a false allowed kept = tt
  changes_store changed t a true false kept = tt
  changes_store changed t a true true kept = kept

  changes_choice : (changed : List Register) (t u : State) (chosen : Bool) → KeepsOthers changed s (advanced t) → KeepsOthers changed s (advanced u)
      → KeepsOthers changed s (advanced (if chosen then t else u))
  changes_choice changed t u true first second = first
  changes_choice changed t u false first second = second

  changes_trap : (holds : Bool) (word : ℕ) → ChangesOnly [] s (done_by (trap_by holds word s) s)
  changes_trap true word = tt
  changes_trap false word = none_written (advanced s) refl refl refl

  changes_call : (leaving : Bool) → ChangesOnly (general 2 ∷ []) s (if leaving then leaves (question_of s) (exit (signed_of (register s 4))) else asks (question_of s) (after_call s))
  changes_call true = tt
  changes_call false = λ answer. one_written (after_call s answer) 2 (wrapped answer.value) refl refl refl

  pub changes_only : (i : Inst) → ChangesOnly (written_by i) s (done i s)
  changes_only (Arithmetic name rs rt rd) = changes_result (word_of (Arithmetic name rs rt rd)) rd (arithmetic_result name (register s rs) (register s rt))
  changes_only (VariableShift name rs rt rd) = let value = variable_shifted name (register s rt) (register s rs) in one_written (advanced (with_register s rd value)) rd value refl refl refl
  changes_only (Shift name rt rd sa) = let value = shifted name (register s rt) sa in one_written (advanced (with_register s rd value)) rd value refl refl refl
  changes_only (JumpRegister rs) = none_written (into_slot s (register s rs)) refl refl refl
  changes_only (JumpAndLinkRegister rs rd) = one_written (into_slot (with_return_link s rd) (register s rs)) rd (after_slot s) refl refl refl
  changes_only (Syscall code) = changes_call (register s 2 == 1)
  changes_only (Break code) = tt
  changes_only (MoveFrom Hi rd) = one_written (advanced (with_register s rd s.hi)) rd s.hi refl refl refl
  changes_only (MoveFrom Lo rd) = one_written (advanced (with_register s rd s.lo)) rd s.lo refl refl refl
  changes_only (MoveTo Hi rs) = hi_written (register s rs)
  changes_only (MoveTo Lo rs) = lo_written (register s rs)
  changes_only (Product name rs rt) = both_written (product_hi name (register s rs) (register s rt)) (product_lo name (register s rs) (register s rt))
  changes_only (BranchSign name rs imm) = changes_sign name imm (sign_taken name (signed_of (register s rs)))
  changes_only (Jump J index) = none_written (into_slot s (jump_target s.pc index)) refl refl refl
  changes_only (Jump Jal index) = one_written (into_slot (with_return_link s 31) (jump_target s.pc index)) 31 (after_slot s) refl refl refl
  changes_only (BranchEqual name rs rt imm) =
      let taken = equal_taken name (register s rs) (register s rt) in
      changes_branch (not (equal_likely name) || taken) (taken_or_not s taken imm)
  changes_only (BranchZero name rs imm) =
      let taken = zero_taken name (signed_of (register s rs)) in
      changes_branch (not (zero_likely name) || taken) (taken_or_not s taken imm)
  changes_only (ArithmeticImmediate name rs rt imm) = changes_result (word_of (ArithmeticImmediate name rs rt imm)) rt (arithmetic_immediate_result name (register s rs) imm)
  changes_only (LogicalImmediate name rs rt imm) = let value = logical_immediate_result name (register s rs) imm in one_written (advanced (with_register s rt value)) rt value refl refl refl
  changes_only (LoadUpper rt imm) = let value = imm * 2 ^ 16 in one_written (advanced (with_register s rt value)) rt value refl refl refl
  changes_only (Load name rs rt imm) =
      let a = access_address s rs imm in
      let value = loaded_word name s.order s.memory a (register s rt) in
      changes_load (general rt ∷ []) (with_register s rt value) a (load_aligned name a) (is_none (s.memory.byte a)) (one_written (advanced (with_register s rt value)) rt value refl refl refl)
  changes_only (Store name rs rt imm) =
      let a = access_address s rs imm in
      let t : State = record s { memory = memory_stored name s.order s.memory a (register s rt) } in
      changes_store [] t a (store_aligned name a) (store_allowed name s.order s.memory a) (none_written (advanced t) refl refl refl)
  changes_only (Trap name rs rt code) = changes_trap (trap_holds name (register s rs) (register s rt)) (word_of (Trap name rs rt code))
  changes_only (TrapImmediate name rs imm) = changes_trap (trap_immediate_holds name (register s rs) imm) (word_of (TrapImmediate name rs imm))
  changes_only (Sync sa) = none_written (advanced s) refl refl refl
  changes_only (LoadLinked rs rt imm) =
      let a = access_address s rs imm in
      let value = loaded_word Lw s.order s.memory a (register s rt) in
      let t : State = record (with_register s rt value) { load_link = Some a } in
      changes_load (general rt ∷ []) t a (load_aligned Lw a) (is_none (s.memory.byte a)) (one_written (advanced t) rt value refl refl refl)
  changes_only (StoreConditional rs rt imm) =
      let a = access_address s rs imm in
      let t : State = record (with_register s rt 1) { memory = memory_stored Sw s.order s.memory a (register s rt); load_link = None } in
      let u : State = record (with_register s rt 0) { load_link = None } in
      changes_store (general rt ∷ []) (if is_linked s a then t else u) a (store_aligned Sw a) (store_allowed Sw s.order s.memory a)
      (changes_choice (general rt ∷ []) t u (is_linked s a) (one_written (advanced t) rt 1 refl refl refl) (one_written (advanced u) rt 0 refl refl refl))
  changes_only (Reserved w) = tt
  changes_only (Float w) = tt

-- ---- the registers that are read

-- the state with other registers
abbrev other : State → (ℕ → ℕ) → ℕ → ℕ → State
other s registers hi lo = record s { registers = registers; hi = hi; lo = lo }

-- a load, where rt held a value before
abbrev load_from : LoadName → State → ℕ → ℕ → ℕ → Effect
load_from name s r a old =
    if not (load_aligned name a) then faults read_align_fault a
    else if is_none (s.memory.byte a) then faults read_unmapped_fault a
    else goes_on (with_register s r (loaded_word name s.order s.memory a old))

-- a register that is written holds what was written, whatever it held
written : (r value a b : ℕ) → (if r == 0 then 0 else if nat_lt 0 r && r == r then value else a) ≡ (if r == 0 then 0 else if nat_lt 0 r && r == r then value else b)
written r value a b =
    elim (cases_eq r 0) [
      | inl none ↦ rw (eq-eqb r 0 none) refl
      | inr some ↦
          let on : (nat_lt 0 r && r == r) ≡ true = and_from (nat_lt 0 r) (r == r) (lt-ltb 0 r (omega arith)) (eq-eqb r r refl) in
          rw on refl
    ]

module _ (s : State) (registers : ℕ → ℕ) (hi lo : ℕ) where
  writes_alike : (r value : ℕ) → AgreeOn (general r ∷ []) (advanced (with_register s r value)) (advanced (with_register (other s registers hi lo) r value))
  writes_alike r value = record { others = refl; same = (written r value (registers r) (s.registers r), tt) }

  result_alike : (word r : ℕ) (result : Option ℕ)
      → GoAlike (general r ∷ []) (done_by (result_effect s word r result) s) (done_by (result_effect (other s registers hi lo) word r result) (other s registers hi lo))
  result_alike word r None = refl
  result_alike word r (Some value) = writes_alike r value

  branch_alike : (goes : Bool) (target : ℕ)
      → GoAlike [] (done_by (if goes then branches s target else skips_slot s) s)
      (done_by (if goes then branches (other s registers hi lo) target else skips_slot (other s registers hi lo)) (other s registers hi lo))
  branch_alike true target = record { others = refl; same = tt }
  branch_alike false target = record { others = refl; same = tt }

  link_alike : (goes : Bool) (target : ℕ)
      → GoAlike (general 31 ∷ []) (done_by (if goes then branches (with_return_link s 31) target else skips_slot (with_return_link s 31)) s)
      (done_by (if goes then branches (with_return_link (other s registers hi lo) 31) target else skips_slot (with_return_link (other s registers hi lo) 31)) (other s registers hi lo))
  link_alike true target = record { others = refl; same = (refl, tt) }
  link_alike false target = record { others = refl; same = (refl, tt) }

  sign_alike : (name : BranchSignName) (imm : ℕ) (taken : Bool)
      → GoAlike (written_by_branch_sign name) (done_by (branch_effect (sign_likely name) taken s (sign_linked name s) imm) s)
      (done_by (branch_effect (sign_likely name) taken (other s registers hi lo) (sign_linked name (other s registers hi lo)) imm) (other s registers hi lo))
  sign_alike Bltz imm taken = branch_alike (true || taken) (taken_or_not s taken imm)
  sign_alike Bgez imm taken = branch_alike (true || taken) (taken_or_not s taken imm)
  sign_alike Bltzal imm taken = link_alike (true || taken) (taken_or_not s taken imm)
  sign_alike Bgezal imm taken = link_alike (true || taken) (taken_or_not s taken imm)
  sign_alike Bltzl imm taken = branch_alike (false || taken) (taken_or_not s taken imm)
  sign_alike Bgezl imm taken = branch_alike (false || taken) (taken_or_not s taken imm)
  sign_alike Bltzall imm taken = link_alike (false || taken) (taken_or_not s taken imm)
  sign_alike Bgezall imm taken = link_alike (false || taken) (taken_or_not s taken imm)

  load_alike : (aligned unmapped : Bool) (a r value : ℕ)
      → GoAlike (general r ∷ []) (done_by (if not aligned then faults read_align_fault a else if unmapped then faults read_unmapped_fault a else goes_on (with_register s r value)) s)
      (done_by (if not aligned then faults read_align_fault a else if unmapped then faults read_unmapped_fault a else goes_on (with_register (other s registers hi lo) r value)) (other s registers hi lo))
  load_alike false unmapped a r value = refl
  load_alike true true a r value = refl
  load_alike true false a r value = writes_alike r value

  load_linked_alike : (aligned unmapped : Bool) (a r value : ℕ)
      → GoAlike (general r ∷ []) (done_by (if not aligned then faults read_align_fault a else if unmapped then faults read_unmapped_fault a else goes_on (record (with_register s r value) { load_link = Some a })) s)
      (done_by (if not aligned then faults read_align_fault a else if unmapped then faults read_unmapped_fault a else goes_on (record (with_register (other s registers hi lo) r value) { load_link = Some a })) (other s registers hi lo))
  load_linked_alike false unmapped a r value = refl
  load_linked_alike true true a r value = refl
  load_linked_alike true false a r value = record { others = refl; same = (written r value (registers r) (s.registers r), tt) }

  store_alike : (aligned allowed : Bool) (a : ℕ) (m : Memory)
      → GoAlike [] (done_by (if not aligned then faults write_align_fault a else if not allowed then faults write_refused_fault a else goes_on (record s { memory = m })) s)
      (done_by (if not aligned then faults write_align_fault a else if not allowed then faults write_refused_fault a else goes_on (record (other s registers hi lo) { memory = m })) (other s registers hi lo))
  store_alike false allowed a m = refl
  store_alike true false a m = refl
  store_alike true true a m = record { others = refl; same = tt }

  concluded_alike : (aligned allowed linked : Bool) (a r : ℕ) (m : Memory)
      → GoAlike (general r ∷ [])
      (done_by (if not aligned then faults write_align_fault a else if not allowed then faults write_refused_fault a
      else goes_on (if linked then record (with_register s r 1) { memory = m; load_link = None } else record (with_register s r 0) { load_link = None })) s)
      (done_by (if not aligned then faults write_align_fault a else if not allowed then faults write_refused_fault a
      else goes_on (if linked then record (with_register (other s registers hi lo) r 1) { memory = m; load_link = None } else record (with_register (other s registers hi lo) r 0) { load_link = None })) (other s registers hi lo))
  concluded_alike false allowed linked a r m = refl
  concluded_alike true false linked a r m = refl
  concluded_alike true true true a r m = record { others = refl; same = (written r 1 (registers r) (s.registers r), tt) }
  concluded_alike true true false a r m = record { others = refl; same = (written r 0 (registers r) (s.registers r), tt) }

  trap_alike : (holds : Bool) (word : ℕ) → GoAlike [] (done_by (trap_by holds word s) s) (done_by (trap_by holds word (other s registers hi lo)) (other s registers hi lo))
  trap_alike true word = refl
  trap_alike false word = record { others = refl; same = tt }

  -- the same call of the system from a state with other registers
  abbrev called_by : Call → Turn State
  called_by c = if c.number == 1 then leaves (asked c s.memory) (exit (signed_of c.a0)) else asks (asked c s.memory) (λ answer.
      advanced (record (with_register (other s registers hi lo) 2 (wrapped answer.value)) { memory = answered with_byte s.memory (asked c s.memory) answer.patch; load_link = None }))

  call_alike : (leaving : Bool)
      → GoAlike (general 2 ∷ []) (if leaving then leaves (question_of s) (exit (signed_of (register s 4))) else asks (question_of s) (after_call s))
      (if leaving then leaves (question_of s) (exit (signed_of (register s 4))) else asks (question_of s) (λ answer.
      advanced (record (with_register (other s registers hi lo) 2 (wrapped answer.value)) { memory = answered with_byte s.memory (question_of s) answer.patch; load_link = None })))
  call_alike true = (refl, refl)
  call_alike false = (refl, λ answer. record { others = refl; same = (refl, tt) })

  by_load : (name : LoadName) (a r old : ℕ)
      → GoAlike (general r ∷ []) (done_by (load_from name s r a old) s) (done_by (load_from name (other s registers hi lo) r a old) (other s registers hi lo))
  by_load name a r old = load_alike (load_aligned name a) (is_none (s.memory.byte a)) a r (loaded_word name s.order s.memory a old)

  goes_alike : (i : Inst) → AllByRecursion (λ r. held (other s registers hi lo) r ≡ held s r) (read_by i) → GoAlike (written_by i) (done i s) (done i (other s registers hi lo))
  goes_alike (Arithmetic name rs rt rd) same = rw (same.0, same.1.0) (result_alike (word_of (Arithmetic name rs rt rd)) rd (arithmetic_result name (register s rs) (register s rt)))
  goes_alike (VariableShift name rs rt rd) same = rw (same.0, same.1.0) (writes_alike rd (variable_shifted name (register s rt) (register s rs)))
  goes_alike (Shift name rt rd sa) same = rw same.0 (writes_alike rd (shifted name (register s rt) sa))
  goes_alike (JumpRegister rs) same = rw same.0 (branch_alike true (register s rs))
  goes_alike (JumpAndLinkRegister rs rd) same = rw same.0 (record { others = refl; same = (written rd (after_slot s) (registers rd) (s.registers rd), tt) })
  goes_alike (Syscall code) same =
      let call : call_of s ≡ call_of (other s registers hi lo) = λ i. record {
        number = sym same.0 i;
        a0 = sym same.1.0 i;
        a1 = sym same.1.1.0 i;
        a2 = sym same.1.1.1.0 i;
        a3 = sym same.1.1.1.1.0 i;
      } in
      subst (λ (c : Call). GoAlike (general 2 ∷ []) (called s) (called_by c)) call (call_alike (register s 2 == 1))
  goes_alike (Break code) same = refl
  goes_alike (MoveFrom Hi rd) same =
      subst (λ (value : ℕ). GoAlike (general rd ∷ []) (done_by (goes_on (with_register s rd s.hi)) s) (done_by (goes_on (with_register (other s registers hi lo) rd value)) (other s registers hi lo))) (sym same.0) (writes_alike rd s.hi)
  goes_alike (MoveFrom Lo rd) same =
      subst (λ (value : ℕ). GoAlike (general rd ∷ []) (done_by (goes_on (with_register s rd s.lo)) s) (done_by (goes_on (with_register (other s registers hi lo) rd value)) (other s registers hi lo))) (sym same.0) (writes_alike rd s.lo)
  goes_alike (MoveTo Hi rs) same = record { others = refl; same = (same.0, tt) }
  goes_alike (MoveTo Lo rs) same = record { others = refl; same = (same.0, tt) }
  goes_alike (Product name rs rt) same = rw (same.0, same.1.0) (record { others = refl; same = (refl, (refl, tt)) })
  goes_alike (BranchSign name rs imm) same = rw same.0 (sign_alike name imm (sign_taken name (signed_of (register s rs))))
  goes_alike (Jump J index) same = branch_alike true (jump_target s.pc index)
  goes_alike (Jump Jal index) same = link_alike true (jump_target s.pc index)
  goes_alike (BranchEqual name rs rt imm) same =
      let taken = equal_taken name (register s rs) (register s rt) in
      rw (same.0, same.1.0) (branch_alike (not (equal_likely name) || taken) (taken_or_not s taken imm))
  goes_alike (BranchZero name rs imm) same =
      let taken = zero_taken name (signed_of (register s rs)) in
      rw same.0 (branch_alike (not (zero_likely name) || taken) (taken_or_not s taken imm))
  goes_alike (ArithmeticImmediate name rs rt imm) same = rw same.0 (result_alike (word_of (ArithmeticImmediate name rs rt imm)) rt (arithmetic_immediate_result name (register s rs) imm))
  goes_alike (LogicalImmediate name rs rt imm) same = rw same.0 (writes_alike rt (logical_immediate_result name (register s rs) imm))
  goes_alike (LoadUpper rt imm) same = writes_alike rt (imm * 2 ^ 16)
  goes_alike (Load Lb rs rt imm) same = rw same.0 (by_load Lb (access_address s rs imm) rt 0)
  goes_alike (Load Lh rs rt imm) same = rw same.0 (by_load Lh (access_address s rs imm) rt 0)
  goes_alike (Load Lwl rs rt imm) same = rw (same.0, same.1.0) (by_load Lwl (access_address s rs imm) rt (register s rt))
  goes_alike (Load Lw rs rt imm) same = rw same.0 (by_load Lw (access_address s rs imm) rt 0)
  goes_alike (Load Lbu rs rt imm) same = rw same.0 (by_load Lbu (access_address s rs imm) rt 0)
  goes_alike (Load Lhu rs rt imm) same = rw same.0 (by_load Lhu (access_address s rs imm) rt 0)
  goes_alike (Load Lwr rs rt imm) same = rw (same.0, same.1.0) (by_load Lwr (access_address s rs imm) rt (register s rt))
  goes_alike (Store name rs rt imm) same =
      let a = access_address s rs imm in
      rw (same.0, same.1.0) (store_alike (store_aligned name a) (store_allowed name s.order s.memory a) a (memory_stored name s.order s.memory a (register s rt)))
  goes_alike (Trap name rs rt code) same = rw (same.0, same.1.0) (trap_alike (trap_holds name (register s rs) (register s rt)) (word_of (Trap name rs rt code)))
  goes_alike (TrapImmediate name rs imm) same = rw same.0 (trap_alike (trap_immediate_holds name (register s rs) imm) (word_of (TrapImmediate name rs imm)))
  goes_alike (Sync sa) same = record { others = refl; same = tt }
  goes_alike (LoadLinked rs rt imm) same =
      let a = access_address s rs imm in
      rw same.0 (load_linked_alike (load_aligned Lw a) (is_none (s.memory.byte a)) a rt (loaded_word Lw s.order s.memory a 0))
  goes_alike (StoreConditional rs rt imm) same =
      let a = access_address s rs imm in
      rw (same.0, same.1.0) (concluded_alike (store_aligned Sw a) (store_allowed Sw s.order s.memory a) (is_linked s a) a rt (memory_stored Sw s.order s.memory a (register s rt)))
  goes_alike (Reserved w) same = refl
  goes_alike (Float w) same = refl

pub goes_alike_where_read : (i : Inst) (s t : State) → AgreeOn (read_by i) s t → GoAlike (written_by i) (done i s) (done i t)
goes_alike_where_read i s t agree =
    let u : State = other s t.registers t.hi t.lo in
    let same : AllByRecursion (λ r. held u r ≡ held s r) (read_by i) = subst (λ (x : State). AllByRecursion (λ r. held x r ≡ held s r) (read_by i)) agree.others agree.same in
    subst (λ (x : State). GoAlike (written_by i) (done i s) (done i x)) (sym agree.others) (goes_alike s t.registers t.hi t.lo i same)
