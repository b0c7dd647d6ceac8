-- The code of instructions.
use Rattle.std.proofs.Common.{◌≡◌, ℕ, ◌*◌, ◌^◌, ◌==◌, Bool, true, false, if◌then◌else◌, List, [], ◌∷◌, ◌++◌, refl, arith}
use Rattle.std.proofs.lemmas.Bool.{true≢false}
use Rattle.mips_definition.specs.Effect as effects
use Rattle.mips_decode.specs.Encoding.{word_of}
use Rattle.mips_definition.specs.Targets.{extended_imm}
use Rattle.mips_definition.specs.declared.inst.Inst.{Inst}
use Rattle.mips_definition.specs.declared.inst.Inst.TheVariants as inst
use Rattle.mips_definition.specs.declared.names.arithmetic_name.ArithmeticName.{ArithmeticName}
use Rattle.mips_definition.specs.declared.names.arithmetic_name.ArithmeticName.TheVariants.{Add, Addu, Sub, Subu, And, Or, Xor, Nor, Slt, Sltu}
use Rattle.mips_definition.specs.declared.names.arithmetic_immediate_name.ArithmeticImmediateName.{ArithmeticImmediateName}
use Rattle.mips_definition.specs.declared.names.arithmetic_immediate_name.ArithmeticImmediateName.TheVariants.{Addi, Addiu, Slti, Sltiu}
use Rattle.mips_definition.specs.declared.names.logical_immediate_name.LogicalImmediateName.{LogicalImmediateName}
use Rattle.mips_definition.specs.declared.names.logical_immediate_name.LogicalImmediateName.TheVariants.{Andi, Ori, Xori}
use Rattle.mips_definition.specs.declared.names.shift_name.ShiftName.{ShiftName}
use Rattle.mips_definition.specs.declared.names.variable_shift_name.VariableShiftName.{VariableShiftName}
use Rattle.mips_definition.specs.declared.names.hi_lo.HiLo.{HiLo}
use Rattle.mips_definition.specs.declared.names.product_name.ProductName.{ProductName}
use Rattle.mips_definition.specs.declared.names.product_name.ProductName.TheVariants.{Mult, Multu, Div, Divu}
use Rattle.mips_definition.specs.declared.names.load_name.LoadName.{LoadName}
use Rattle.mips_definition.specs.declared.names.load_name.LoadName.TheVariants.{Lb, Lh, Lwl, Lw, Lbu, Lhu, Lwr}
use Rattle.mips_definition.specs.declared.names.store_name.StoreName.{StoreName}
use Rattle.mips_definition.specs.declared.names.store_name.StoreName.TheVariants.{Sb, Sh, Swl, Sw, Swr}
use Rattle.mips_definition.specs.declared.names.trap_name.TrapName.{TrapName}
use Rattle.mips_definition.specs.declared.names.trap_name.TrapName.TheVariants as traps
use Rattle.mips_definition.specs.declared.names.trap_immediate_name.TrapImmediateName.{TrapImmediateName}
use Rattle.mips_definition.specs.declared.names.trap_immediate_name.TrapImmediateName.TheVariants as immediate_traps
use Rattle.delay_slots.specs.Units.{is_branch}
use Rattle.block_builder.specs.Registers.{read_by_load, read_by_call}
use Rattle.jvm_definition.specs.declared.branch_name.BranchName.TheVariants.{Ifeq, Ifne, IfIcmplt}
use Rattle.jvm_definition.specs.declared.int_arithmetic.IntArithmetic.{IntArithmetic}
use Rattle.jvm_definition.specs.declared.int_arithmetic.IntArithmetic.TheVariants.{Iadd, Isub, Iand, Ior, Ixor}
use Rattle.jvm_definition.specs.declared.kind.Kind.{Kind}
use Rattle.jvm_definition.specs.declared.kind.Kind.TheVariants.{Int}
use Rattle.jvm_definition.specs.declared.instruction.Instruction.TheVariants as instructions
use Rattle.jvm_definition.specs.Typing.{with_stack}
use Rattle.emit_steps.specs.declared.step.Step.{Step}
use Rattle.emit_steps.specs.declared.step.Step.TheVariants.{Does}
use Rattle.emit_instructions.specs.Access.{get_register, put_register, get_turned, turned, push_word, arithmetic}
use Rattle.emit_instructions.specs.Accessing as accessing
use Rattle.emit_instructions.specs.Computing as computing
use Rattle.emit_instructions.specs.Faulting as faulting
use Rattle.emit_instructions.specs.Helpers.{load_helper, store_helper, product_helper, load_linked_helper, store_conditional_helper}
use Rattle.emit_simulation_laws.specs.Knowing.{IsKnown, gaining, AreKnown}
use Rattle.emit_types_laws.specs.Judging.{Rules, Leads, TakesGives}
use Rattle.emit_types_laws.specs.Flowing.{Flows, FlowsFrom}
use Rattle.emit_types_laws.proofs.TypedSteps.Flow.{flows-from}
use Rattle.emit_types_laws.proofs.TypedSteps.Joining.{codes-lead, nothing-leads}
use Rattle.emit_types_laws.proofs.TypedSteps.KindOrder.{same}
use Rattle.emit_types_laws.proofs.TypedSteps.Passing.{call-flows}
use Rattle.emit_types_laws.specs.Knowing.{knowing, HelperTypes, InstructionTyped}
use Rattle.emit_types_laws.proofs.TypedCode.Registers.{get-flow, known-reads, put-flow, put-below, zero-below}

-- what an instruction leads to that writes a register
abbrev pub Writes : Rules → ℕ → (ℕ → Bool) → Kind → ℕ → List Step → Type 0
Writes rules bank known goal rd code = Leads rules code (knowing bank known goal) (knowing bank (gaining known rd) goal)

abbrev pub Keeps : Rules → ℕ → (ℕ → Bool) → Kind → List Step → Type 0
Keeps rules bank known goal code = Leads rules code (knowing bank known goal) (knowing bank known goal)

-- an operand below an address; what a helper takes, and what it gives
abbrev base : Bool → List Kind
base more = if more then Int ∷ [] else []

abbrev parameters : Bool → List Kind
parameters more = if more then Int ∷ Int ∷ Int ∷ [] else Int ∷ Int ∷ []

abbrev given : Bool → List Kind
given gives = if gives then Int ∷ [] else []

module _ (rules : Rules) (bank : ℕ) (known : ℕ → Bool) (goal : Kind) where
  written : (rd : ℕ) (code : List Step) → FlowsFrom rules code (knowing bank known goal) (knowing bank (gaining known rd) goal ∷ [])
      → Writes rules bank known goal rd code
  written rd code h = flows-from rules code (knowing bank known goal) (knowing bank (gaining known rd) goal ∷ []) h

  kept : (code : List Step) → FlowsFrom rules code (knowing bank known goal) (knowing bank known goal ∷ []) → Keeps rules bank known goal code
  kept code h = flows-from rules code (knowing bank known goal) (knowing bank known goal ∷ []) h

  -- ---- of two registers

  moved : (rs rd : ℕ) → IsKnown known rs → Writes rules bank known goal rd (computing.moved_code bank rs rd)
  moved rs rd a =
      written rd (computing.moved_code bank rs rd)
      (get-flow rules bank rs _ _ _ (known-reads bank rs known goal a) refl
      (put-flow rules bank rd _ _ _ _ refl (put-below bank rd known goal, tt)))

  combined : (name : IntArithmetic) (rs rt rd : ℕ) → IsKnown known rs → IsKnown known rt
      → Writes rules bank known goal rd (computing.combined_code bank name rs rt rd)
  combined name rs rt rd a b =
      written rd (computing.combined_code bank name rs rt rd)
      (get-flow rules bank rs _ _ _ (known-reads bank rs known goal a) refl
      (get-flow rules bank rt _ _ _ (known-reads bank rt known goal b) refl
      (put-flow rules bank rd _ _ _ _ refl (put-below bank rd known goal, tt))))

  one-of-two : (b : Bool) (rd : ℕ) (first second : List Step) → (b ≡ true → Writes rules bank known goal rd first)
      → (b ≡ false → Writes rules bank known goal rd second) → Writes rules bank known goal rd (if b then first else second)
  one-of-two true rd first second f s = f refl
  one-of-two false rd first second f s = s refl

  combined-or-moved : (name : IntArithmetic) (rs rt rd : ℕ) → IsKnown known rs → IsKnown known rt
      → Writes rules bank known goal rd (computing.combined_or_moved_code bank name rs rt rd)
  combined-or-moved name rs rt rd a b =
      one-of-two (rt == 0) rd (computing.moved_code bank rs rd) (computing.combined_code bank name rs rt rd) (λ e. moved rs rd a)
      (λ e. combined name rs rt rd a b)

  nor : (rs rt rd : ℕ) → IsKnown known rs → IsKnown known rt → Writes rules bank known goal rd (computing.nor_code bank rs rt rd)
  nor rs rt rd a b =
      written rd (computing.nor_code bank rs rt rd)
      (get-flow rules bank rs _ _ _ (known-reads bank rs known goal a) refl
      (get-flow rules bank rt _ _ _ (known-reads bank rt known goal b) refl
      (put-flow rules bank rd _ _ _ _ refl (put-below bank rd known goal, tt))))

  slt : (rs rt rd : ℕ) → IsKnown known rs → IsKnown known rt → Writes rules bank known goal rd (computing.slt_code bank rs rt rd)
  slt rs rt rd a b =
      written rd (computing.slt_code bank rs rt rd)
      (get-flow rules bank rs _ _ _ (known-reads bank rs known goal a) refl
      (get-flow rules bank rt _ _ _ (known-reads bank rt known goal b) refl
      (same _, put-flow rules bank rd _ _ _ _ refl (put-below bank rd known goal, tt))))

  below-zero : (rt rd : ℕ) → IsKnown known rt → Writes rules bank known goal rd (get_register bank rt ∷ computing.chosen_code bank Ifne rd)
  below-zero rt rd b =
      written rd (get_register bank rt ∷ computing.chosen_code bank Ifne rd)
      (get-flow rules bank rt _ _ _ (known-reads bank rt known goal b) refl
      (same _, put-flow rules bank rd _ _ _ _ refl (put-below bank rd known goal, tt)))

  below-turned : (rs rt rd : ℕ) → IsKnown known rs → IsKnown known rt
      → Writes rules bank known goal rd (get_turned bank rs ++ get_turned bank rt ++ computing.chosen_code bank IfIcmplt rd)
  below-turned rs rt rd a b =
      written rd (get_turned bank rs ++ get_turned bank rt ++ computing.chosen_code bank IfIcmplt rd)
      (get-flow rules bank rs _ _ _ (known-reads bank rs known goal a) refl
      (get-flow rules bank rt _ _ _ (known-reads bank rt known goal b) refl
      (same _, put-flow rules bank rd _ _ _ _ refl (put-below bank rd known goal, tt))))

  sltu : (rs rt rd : ℕ) → IsKnown known rs → IsKnown known rt → Writes rules bank known goal rd (computing.sltu_code bank rs rt rd)
  sltu rs rt rd a b =
      one-of-two (rs == 0) rd (get_register bank rt ∷ computing.chosen_code bank Ifne rd)
      (get_turned bank rs ++ get_turned bank rt ++ computing.chosen_code bank IfIcmplt rd)
      (λ e. below-zero rt rd b) (λ e. below-turned rs rt rd a b)

  add : (rs rt rd at word : ℕ) → IsKnown known rs → IsKnown known rt → Writes rules bank known goal rd (computing.add_code bank rs rt rd at word)
  add rs rt rd at word a b =
      written rd (computing.add_code bank rs rt rd at word)
      (get-flow rules bank rs _ _ _ (known-reads bank rs known goal a) refl
      (get-flow rules bank rt _ _ _ (known-reads bank rt known goal b) refl
      (get-flow rules bank rs _ _ _ (known-reads bank rs known goal a) refl
      (get-flow rules bank rt _ _ _ (known-reads bank rt known goal b) refl
      (same _, put-flow rules bank rd _ _ _ _ refl (put-below bank rd known goal, tt))))))

  sub : (rs rt rd at word : ℕ) → IsKnown known rs → IsKnown known rt → Writes rules bank known goal rd (computing.sub_code bank rs rt rd at word)
  sub rs rt rd at word a b =
      written rd (computing.sub_code bank rs rt rd at word)
      (get-flow rules bank rs _ _ _ (known-reads bank rs known goal a) refl
      (get-flow rules bank rt _ _ _ (known-reads bank rt known goal b) refl
      (get-flow rules bank rs _ _ _ (known-reads bank rs known goal a) refl
      (get-flow rules bank rs _ _ _ (known-reads bank rs known goal a) refl
      (get-flow rules bank rt _ _ _ (known-reads bank rt known goal b) refl
      (same _, put-flow rules bank rd _ _ _ _ refl (put-below bank rd known goal, tt)))))))

  arithmetic-typed : (name : ArithmeticName) (rs rt rd at word : ℕ) → IsKnown known rs → IsKnown known rt
      → Writes rules bank known goal rd (computing.arithmetic_code bank name rs rt rd at word)
  arithmetic-typed Add rs rt rd at word a b = add rs rt rd at word a b
  arithmetic-typed Addu rs rt rd at word a b = combined-or-moved Iadd rs rt rd a b
  arithmetic-typed Sub rs rt rd at word a b = sub rs rt rd at word a b
  arithmetic-typed Subu rs rt rd at word a b = combined Isub rs rt rd a b
  arithmetic-typed And rs rt rd at word a b = combined Iand rs rt rd a b
  arithmetic-typed Or rs rt rd at word a b = combined-or-moved Ior rs rt rd a b
  arithmetic-typed Xor rs rt rd at word a b = combined Ixor rs rt rd a b
  arithmetic-typed Nor rs rt rd at word a b = nor rs rt rd a b
  arithmetic-typed Slt rs rt rd at word a b = slt rs rt rd a b
  arithmetic-typed Sltu rs rt rd at word a b = sltu rs rt rd a b

  -- ---- shifts

  nothing-written : (rd : ℕ) → (rd == 0) ≡ true → Writes rules bank known goal rd (Does instructions.Nop ∷ [])
  nothing-written rd is = written rd (Does instructions.Nop ∷ []) (zero-below bank rd known goal is, tt)

  shifted : (name : ShiftName) (rt rd sa : ℕ) → IsKnown known rt
      → Writes rules bank known goal rd (get_register bank rt ∷ push_word sa ∷ Does
      (instructions.IntShift (computing.shift_name name)) ∷ put_register bank rd ∷ [])
  shifted name rt rd sa b =
      written rd (get_register bank rt ∷ push_word sa ∷ Does (instructions.IntShift (computing.shift_name name)) ∷ put_register bank rd ∷ [])
      (get-flow rules bank rt _ _ _ (known-reads bank rt known goal b) refl
      (put-flow rules bank rd _ _ _ _ refl (put-below bank rd known goal, tt)))

  shift : (name : ShiftName) (rt rd sa : ℕ) → IsKnown known rt → Writes rules bank known goal rd (computing.shift_code bank name rt rd sa)
  shift name rt rd sa b =
      one-of-two (rd == 0) rd (Does instructions.Nop ∷ []) (if sa == 0 then computing.moved_code bank rt rd else get_register bank rt ∷ push_word
      sa ∷ Does (instructions.IntShift (computing.shift_name name)) ∷ put_register bank rd ∷ []) (nothing-written rd)
      (λ e. one-of-two (sa == 0) rd (computing.moved_code bank rt rd)
      (get_register bank rt ∷ push_word sa ∷ Does (instructions.IntShift (computing.shift_name name)) ∷ put_register bank rd ∷ [])
      (λ e. moved rt rd b) (λ e. shifted name rt rd sa b))

  variable-shift : (name : VariableShiftName) (rs rt rd : ℕ) → IsKnown known rs → IsKnown known rt
      → Writes rules bank known goal rd (computing.variable_shift_code bank name rs rt rd)
  variable-shift name rs rt rd a b =
      written rd (computing.variable_shift_code bank name rs rt rd)
      (get-flow rules bank rt _ _ _ (known-reads bank rt known goal b) refl
      (get-flow rules bank rs _ _ _ (known-reads bank rs known goal a) refl
      (put-flow rules bank rd _ _ _ _ refl (put-below bank rd known goal, tt))))

  move-from : (name : HiLo) (rd : ℕ) → Writes rules bank known goal rd (computing.move_from_code bank name rd)
  move-from name rd =
      written rd (computing.move_from_code bank name rd)
      (put-flow rules bank rd _ _ _ _ refl (put-below bank rd known goal, tt))

  move-to : (name : HiLo) (rs : ℕ) → IsKnown known rs → Keeps rules bank known goal (computing.move_to_code bank name rs)
  move-to name rs a =
      kept (computing.move_to_code bank name rs)
      (get-flow rules bank rs _ _ _ (known-reads bank rs known goal a) refl (same _, tt))

  product-with : (m rs rt : ℕ) → TakesGives rules.program m (Int ∷ Int ∷ []) false → IsKnown known rs → IsKnown known rt
      → Keeps rules bank known goal (get_register bank rs ∷ get_register bank rt ∷ Does (instructions.Call m) ∷ [])
  product-with m rs rt helper a b =
      kept (get_register bank rs ∷ get_register bank rt ∷ Does (instructions.Call m) ∷ [])
      (get-flow rules bank rs _ _ _ (known-reads bank rs known goal a) refl
      (get-flow rules bank rt _ _ _ (known-reads bank rt known goal b) refl
      (call-flows rules m (Int ∷ Int ∷ []) false (with_stack (knowing bank known goal) (Int ∷ Int ∷ [])) [] []
      (Flows rules [] (knowing bank known goal ∷ [])) helper refl refl (same (knowing bank known goal), tt))))

  product : (name : ProductName) (rs rt : ℕ) → HelperTypes rules.program → IsKnown known rs → IsKnown known rt
      → Keeps rules bank known goal (computing.product_code bank name rs rt)
  product Mult rs rt helpers a b = product-with (product_helper Mult) rs rt (helpers 14 (omega arith)) a b
  product Multu rs rt helpers a b = product-with (product_helper Multu) rs rt (helpers 15 (omega arith)) a b
  product Div rs rt helpers a b = product-with (product_helper Div) rs rt (helpers 12 (omega arith)) a b
  product Divu rs rt helpers a b = product-with (product_helper Divu) rs rt (helpers 13 (omega arith)) a b

  -- ---- of a register and an immediate

  pub set : (w rd : ℕ) → Writes rules bank known goal rd (computing.set_code bank w rd)
  set w rd =
      written rd (computing.set_code bank w rd)
      (put-flow rules bank rd _ _ _ _ refl (put-below bank rd known goal, tt))

  combined-with : (name : IntArithmetic) (rs w rd : ℕ) → IsKnown known rs
      → Writes rules bank known goal rd (computing.combined_with_code bank name rs w rd)
  combined-with name rs w rd a =
      written rd (computing.combined_with_code bank name rs w rd)
      (get-flow rules bank rs _ _ _ (known-reads bank rs known goal a) refl
      (put-flow rules bank rd _ _ _ _ refl (put-below bank rd known goal, tt)))

  joined-with : (name : IntArithmetic) (rs w rd : ℕ) → IsKnown known rs
      → Writes rules bank known goal rd (computing.joined_with_code bank name rs w rd)
  joined-with name rs w rd a =
      one-of-two (rs == 0) rd (computing.set_code bank w rd) (if w == 0 then computing.moved_code bank rs rd else computing.combined_with_code
      bank name rs w rd)
      (λ e. set w rd)
      (λ e. one-of-two (w == 0) rd (computing.moved_code bank rs rd) (computing.combined_with_code bank name rs w rd) (λ e. moved rs rd a)
      (λ e. combined-with name rs w rd a))

  addi : (rs w rd at word : ℕ) → IsKnown known rs → Writes rules bank known goal rd (computing.addi_code bank rs w rd at word)
  addi rs w rd at word a =
      written rd (computing.addi_code bank rs w rd at word)
      (get-flow rules bank rs _ _ _ (known-reads bank rs known goal a) refl
      (get-flow rules bank rs _ _ _ (known-reads bank rs known goal a) refl
      (same _, put-flow rules bank rd _ _ _ _ refl (put-below bank rd known goal, tt))))

  slti : (rs w rd : ℕ) → IsKnown known rs → Writes rules bank known goal rd (computing.slti_code bank rs w rd)
  slti rs w rd a =
      written rd (computing.slti_code bank rs w rd)
      (get-flow rules bank rs _ _ _ (known-reads bank rs known goal a) refl
      (same _, put-flow rules bank rd _ _ _ _ refl (put-below bank rd known goal, tt)))

  below-one : (rs rd : ℕ) → IsKnown known rs → Writes rules bank known goal rd (get_register bank rs ∷ computing.chosen_code bank Ifeq rd)
  below-one rs rd a =
      written rd (get_register bank rs ∷ computing.chosen_code bank Ifeq rd)
      (get-flow rules bank rs _ _ _ (known-reads bank rs known goal a) refl
      (same _, put-flow rules bank rd _ _ _ _ refl (put-below bank rd known goal, tt)))

  below-turned-word : (rs w rd : ℕ) → IsKnown known rs
      → Writes rules bank known goal rd (get_turned bank rs ++ push_word (turned w) ∷ computing.chosen_code bank IfIcmplt rd)
  below-turned-word rs w rd a =
      written rd (get_turned bank rs ++ push_word (turned w) ∷ computing.chosen_code bank IfIcmplt rd)
      (get-flow rules bank rs _ _ _ (known-reads bank rs known goal a) refl
      (same _, put-flow rules bank rd _ _ _ _ refl (put-below bank rd known goal, tt)))

  sltiu : (rs w rd : ℕ) → IsKnown known rs → Writes rules bank known goal rd (computing.sltiu_code bank rs w rd)
  sltiu rs w rd a =
      one-of-two (w == 1) rd (get_register bank rs ∷ computing.chosen_code bank Ifeq rd)
      (get_turned bank rs ++ push_word (turned w) ∷ computing.chosen_code bank IfIcmplt rd)
      (λ e. below-one rs rd a) (λ e. below-turned-word rs w rd a)

  arithmetic-immediate : (name : ArithmeticImmediateName) (rs rt imm at word : ℕ) → IsKnown known rs
      → Writes rules bank known goal rt (computing.arithmetic_immediate_code bank name rs rt imm at word)
  arithmetic-immediate Addi rs rt imm at word a = addi rs (extended_imm imm) rt at word a
  arithmetic-immediate Addiu rs rt imm at word a = joined-with Iadd rs (extended_imm imm) rt a
  arithmetic-immediate Slti rs rt imm at word a = slti rs (extended_imm imm) rt a
  arithmetic-immediate Sltiu rs rt imm at word a = sltiu rs (extended_imm imm) rt a

  logical-immediate : (name : LogicalImmediateName) (rs rt imm : ℕ) → IsKnown known rs
      → Writes rules bank known goal rt (computing.logical_immediate_code bank name rs rt imm)
  logical-immediate Andi rs rt imm a = combined-with Iand rs imm rt a
  logical-immediate Ori rs rt imm a = joined-with Ior rs imm rt a
  logical-immediate Xori rs rt imm a = combined-with Ixor rs imm rt a

  -- ---- loads and stores

  address-short : (more : Bool) (rs : ℕ) → IsKnown known rs
      → Leads rules (get_register bank rs ∷ []) (with_stack (knowing bank known goal) (base more))
      (with_stack (knowing bank known goal) (Int ∷ base more))
  address-short true rs a =
      flows-from rules (get_register bank rs ∷ []) (with_stack (knowing bank known goal) (Int ∷ []))
      (with_stack (knowing bank known goal) (Int ∷ Int ∷ []) ∷ [])
      (get-flow rules bank rs _ _ _ (known-reads bank rs known goal a) refl (same _, tt))
  address-short false rs a =
      flows-from rules (get_register bank rs ∷ []) (with_stack (knowing bank known goal) []) (with_stack (knowing bank known goal) (Int ∷ []) ∷ [])
      (get-flow rules bank rs _ _ _ (known-reads bank rs known goal a) refl (same _, tt))

  address-long : (more : Bool) (rs w : ℕ) → IsKnown known rs
      → Leads rules (get_register bank rs ∷ push_word w ∷ arithmetic Iadd ∷ []) (with_stack (knowing bank known goal) (base more))
      (with_stack (knowing bank known goal) (Int ∷ base more))
  address-long true rs w a =
      flows-from rules (get_register bank rs ∷ push_word w ∷ arithmetic Iadd ∷ []) (with_stack (knowing bank known goal) (Int ∷ []))
      (with_stack (knowing bank known goal) (Int ∷ Int ∷ []) ∷ [])
      (get-flow rules bank rs _ _ _ (known-reads bank rs known goal a) refl (same _, tt))
  address-long false rs w a =
      flows-from rules (get_register bank rs ∷ push_word w ∷ arithmetic Iadd ∷ []) (with_stack (knowing bank known goal) [])
      (with_stack (knowing bank known goal) (Int ∷ []) ∷ [])
      (get-flow rules bank rs _ _ _ (known-reads bank rs known goal a) refl (same _, tt))

  address : (more : Bool) (rs w : ℕ) → IsKnown known rs
      → Leads rules (accessing.address_code bank rs w) (with_stack (knowing bank known goal) (base more))
      (with_stack (knowing bank known goal) (Int ∷ base more))
  address more rs w a = by_test (w == 0)
    where
      by_test : (b : Bool) → Leads rules (if b then get_register bank rs ∷ [] else get_register bank rs ∷ push_word w ∷ arithmetic Iadd ∷ [])
          (with_stack (knowing bank known goal) (base more)) (with_stack (knowing bank known goal) (Int ∷ base more))
      by_test true = address-short more rs a
      by_test false = address-long more rs w a

  called : (more gives : Bool) (helper at : ℕ) → TakesGives rules.program helper (parameters more) gives
      → Leads rules (push_word at ∷ Does (instructions.Call helper) ∷ []) (with_stack (knowing bank known goal) (Int ∷ base more))
      (with_stack (knowing bank known goal) (given gives))
  called true true helper at t =
      flows-from rules (push_word at ∷ Does (instructions.Call helper) ∷ []) (with_stack (knowing bank known goal) (Int ∷ Int ∷ []))
      (with_stack (knowing bank known goal) (Int ∷ []) ∷ [])
      (call-flows rules helper (Int ∷ Int ∷ Int ∷ []) true (with_stack (knowing bank known goal) (Int ∷ Int ∷ Int ∷ [])) [] []
      (Flows rules [] (with_stack (knowing bank known goal) (Int ∷ []) ∷ [])) t refl refl
      (same (with_stack (knowing bank known goal) (Int ∷ [])), tt))
  called true false helper at t =
      flows-from rules (push_word at ∷ Does (instructions.Call helper) ∷ []) (with_stack (knowing bank known goal) (Int ∷ Int ∷ []))
      (with_stack (knowing bank known goal) [] ∷ [])
      (call-flows rules helper (Int ∷ Int ∷ Int ∷ []) false (with_stack (knowing bank known goal) (Int ∷ Int ∷ Int ∷ [])) [] []
      (Flows rules [] (with_stack (knowing bank known goal) ([]) ∷ [])) t refl refl (same (with_stack (knowing bank known goal) ([])), tt))
  called false true helper at t =
      flows-from rules (push_word at ∷ Does (instructions.Call helper) ∷ []) (with_stack (knowing bank known goal) (Int ∷ []))
      (with_stack (knowing bank known goal) (Int ∷ []) ∷ [])
      (call-flows rules helper (Int ∷ Int ∷ []) true (with_stack (knowing bank known goal) (Int ∷ Int ∷ [])) [] []
      (Flows rules [] (with_stack (knowing bank known goal) (Int ∷ []) ∷ [])) t refl refl
      (same (with_stack (knowing bank known goal) (Int ∷ [])), tt))
  called false false helper at t =
      flows-from rules (push_word at ∷ Does (instructions.Call helper) ∷ []) (with_stack (knowing bank known goal) (Int ∷ []))
      (with_stack (knowing bank known goal) [] ∷ [])
      (call-flows rules helper (Int ∷ Int ∷ []) false (with_stack (knowing bank known goal) (Int ∷ Int ∷ [])) [] []
      (Flows rules [] (with_stack (knowing bank known goal) ([]) ∷ [])) t refl refl (same (with_stack (knowing bank known goal) ([])), tt))

  access : (more gives : Bool) (helper rs imm at : ℕ) → TakesGives rules.program helper (parameters more) gives → IsKnown known rs
      → Leads rules (accessing.access_code bank helper rs imm at) (with_stack (knowing bank known goal) (base more))
      (with_stack (knowing bank known goal) (given gives))
  access more gives helper rs imm at t a =
      codes-lead rules (accessing.address_code bank rs (extended_imm imm)) (push_word at ∷ Does (instructions.Call helper) ∷ [])
      (with_stack (knowing bank known goal) (base more)) (with_stack (knowing bank known goal) (Int ∷ base more))
      (with_stack (knowing bank known goal) (given gives) ∷ [])
      (address more rs (extended_imm imm) a) (called more gives helper at t)

  ended : (rt : ℕ) → Leads rules (put_register bank rt ∷ []) (with_stack (knowing bank known goal) (Int ∷ []))
      (knowing bank (gaining known rt) goal)
  ended rt =
      flows-from rules (put_register bank rt ∷ []) (with_stack (knowing bank known goal) (Int ∷ [])) (knowing bank (gaining known rt) goal ∷ [])
      (put-flow rules bank rt _ _ _ _ refl (put-below bank rt known goal, tt))

  begun : (rt : ℕ) → IsKnown known rt → Leads rules (get_register bank rt ∷ []) (knowing bank known goal)
      (with_stack (knowing bank known goal) (Int ∷ []))
  begun rt a = address-short false rt a

  -- a helper gives what is put into a register
  loaded : (helper rs rt imm at : ℕ) → TakesGives rules.program helper (Int ∷ Int ∷ []) true → IsKnown known rs
      → Writes rules bank known goal rt (accessing.access_code bank helper rs imm at ++ put_register bank rt ∷ [])
  loaded helper rs rt imm at t a =
      codes-lead rules (accessing.access_code bank helper rs imm at) (put_register bank rt ∷ []) (knowing bank known goal)
      (with_stack (knowing bank known goal) (Int ∷ [])) (knowing bank (gaining known rt) goal ∷ [])
      (access false true helper rs imm at t a) (ended rt)

  -- the register's word is given to the helper too
  loaded-over : (helper rs rt imm at : ℕ) → TakesGives rules.program helper (Int ∷ Int ∷ Int ∷ []) true → IsKnown known rs → IsKnown known rt
      → Writes rules bank known goal rt (get_register bank rt ∷ (accessing.access_code bank helper rs imm at ++ put_register bank rt ∷ []))
  loaded-over helper rs rt imm at t a b =
      codes-lead rules (get_register bank rt ∷ []) (accessing.access_code bank helper rs imm at ++ put_register bank rt ∷ [])
      (knowing bank known goal) (with_stack (knowing bank known goal) (Int ∷ [])) (knowing bank (gaining known rt) goal ∷ [])
      (begun rt b)
      (codes-lead rules (accessing.access_code bank helper rs imm at) (put_register bank rt ∷ [])
      (with_stack (knowing bank known goal) (Int ∷ [])) (with_stack (knowing bank known goal) (Int ∷ []))
      (knowing bank (gaining known rt) goal ∷ [])
      (access true true helper rs imm at t a) (ended rt))

  load : (name : LoadName) (rs rt imm at : ℕ) → HelperTypes rules.program → AreKnown known (read_by_load name rs rt)
      → Writes rules bank known goal rt (accessing.load_code bank name rs rt imm at)
  load Lb rs rt imm at helpers a = loaded (load_helper Lb) rs rt imm at (helpers 3 (omega arith)) a.0
  load Lh rs rt imm at helpers a = loaded (load_helper Lh) rs rt imm at (helpers 1 (omega arith)) a.0
  load Lwl rs rt imm at helpers a = loaded-over (load_helper Lwl) rs rt imm at (helpers 5 (omega arith)) a.0 a.1.0
  load Lw rs rt imm at helpers a = loaded (load_helper Lw) rs rt imm at (helpers 0 (omega arith)) a.0
  load Lbu rs rt imm at helpers a = loaded (load_helper Lbu) rs rt imm at (helpers 4 (omega arith)) a.0
  load Lhu rs rt imm at helpers a = loaded (load_helper Lhu) rs rt imm at (helpers 2 (omega arith)) a.0
  load Lwr rs rt imm at helpers a = loaded-over (load_helper Lwr) rs rt imm at (helpers 6 (omega arith)) a.0 a.1.0

  stored-by : (helper rs rt imm at : ℕ) → TakesGives rules.program helper (Int ∷ Int ∷ Int ∷ []) false → IsKnown known rs → IsKnown known rt
      → Keeps rules bank known goal (get_register bank rt ∷ accessing.access_code bank helper rs imm at)
  stored-by helper rs rt imm at t a b =
      codes-lead rules (get_register bank rt ∷ []) (accessing.access_code bank helper rs imm at) (knowing bank known goal)
      (with_stack (knowing bank known goal) (Int ∷ [])) (knowing bank known goal ∷ [])
      (begun rt b) (access true false helper rs imm at t a)

  store : (name : StoreName) (rs rt imm at : ℕ) → HelperTypes rules.program → IsKnown known rs → IsKnown known rt
      → Keeps rules bank known goal (accessing.store_code bank name rs rt imm at)
  store Sb rs rt imm at helpers a b = stored-by (store_helper Sb) rs rt imm at (helpers 9 (omega arith)) a b
  store Sh rs rt imm at helpers a b = stored-by (store_helper Sh) rs rt imm at (helpers 8 (omega arith)) a b
  store Swl rs rt imm at helpers a b = stored-by (store_helper Swl) rs rt imm at (helpers 10 (omega arith)) a b
  store Sw rs rt imm at helpers a b = stored-by (store_helper Sw) rs rt imm at (helpers 7 (omega arith)) a b
  store Swr rs rt imm at helpers a b = stored-by (store_helper Swr) rs rt imm at (helpers 11 (omega arith)) a b

  -- ---- faults, traps and calls of the system

  pub fault : (kind at value : ℕ) → Keeps rules bank known goal (faulting.fault_code kind at value)
  fault kind at value = kept (faulting.fault_code kind at value) (same _, tt)

  trap : (name : TrapName) (rs rt at word : ℕ) → IsKnown known rs → IsKnown known rt
      → Keeps rules bank known goal (faulting.trap_code bank name rs rt at word)
  trap traps.Tge rs rt at word a b =
      kept (faulting.trap_code bank traps.Tge rs rt at word)
      (get-flow rules bank rs _ _ _ (known-reads bank rs known goal a) refl
      (get-flow rules bank rt _ _ _ (known-reads bank rt known goal b) refl
      (same _, (same _, tt))))
  trap traps.Tgeu rs rt at word a b =
      kept (faulting.trap_code bank traps.Tgeu rs rt at word)
      (get-flow rules bank rs _ _ _ (known-reads bank rs known goal a) refl
      (get-flow rules bank rt _ _ _ (known-reads bank rt known goal b) refl
      (same _, (same _, tt))))
  trap traps.Tlt rs rt at word a b =
      kept (faulting.trap_code bank traps.Tlt rs rt at word)
      (get-flow rules bank rs _ _ _ (known-reads bank rs known goal a) refl
      (get-flow rules bank rt _ _ _ (known-reads bank rt known goal b) refl
      (same _, (same _, tt))))
  trap traps.Tltu rs rt at word a b =
      kept (faulting.trap_code bank traps.Tltu rs rt at word)
      (get-flow rules bank rs _ _ _ (known-reads bank rs known goal a) refl
      (get-flow rules bank rt _ _ _ (known-reads bank rt known goal b) refl
      (same _, (same _, tt))))
  trap traps.Teq rs rt at word a b =
      kept (faulting.trap_code bank traps.Teq rs rt at word)
      (get-flow rules bank rs _ _ _ (known-reads bank rs known goal a) refl
      (get-flow rules bank rt _ _ _ (known-reads bank rt known goal b) refl
      (same _, (same _, tt))))
  trap traps.Tne rs rt at word a b =
      kept (faulting.trap_code bank traps.Tne rs rt at word)
      (get-flow rules bank rs _ _ _ (known-reads bank rs known goal a) refl
      (get-flow rules bank rt _ _ _ (known-reads bank rt known goal b) refl
      (same _, (same _, tt))))

  trap-with : (name : TrapImmediateName) (rs w at word : ℕ) → IsKnown known rs
      → Keeps rules bank known goal (faulting.trap_with_code bank name rs w at word)
  trap-with immediate_traps.Tgei rs w at word a =
      kept (faulting.trap_with_code bank immediate_traps.Tgei rs w at word)
      (get-flow rules bank rs _ _ _ (known-reads bank rs known goal a) refl
      (same _, (same _, tt)))
  trap-with immediate_traps.Tgeiu rs w at word a =
      kept (faulting.trap_with_code bank immediate_traps.Tgeiu rs w at word)
      (get-flow rules bank rs _ _ _ (known-reads bank rs known goal a) refl
      (same _, (same _, tt)))
  trap-with immediate_traps.Tlti rs w at word a =
      kept (faulting.trap_with_code bank immediate_traps.Tlti rs w at word)
      (get-flow rules bank rs _ _ _ (known-reads bank rs known goal a) refl
      (same _, (same _, tt)))
  trap-with immediate_traps.Tltiu rs w at word a =
      kept (faulting.trap_with_code bank immediate_traps.Tltiu rs w at word)
      (get-flow rules bank rs _ _ _ (known-reads bank rs known goal a) refl
      (same _, (same _, tt)))
  trap-with immediate_traps.Teqi rs w at word a =
      kept (faulting.trap_with_code bank immediate_traps.Teqi rs w at word)
      (get-flow rules bank rs _ _ _ (known-reads bank rs known goal a) refl
      (same _, (same _, tt)))
  trap-with immediate_traps.Tnei rs w at word a =
      kept (faulting.trap_with_code bank immediate_traps.Tnei rs w at word)
      (get-flow rules bank rs _ _ _ (known-reads bank rs known goal a) refl
      (same _, (same _, tt)))

  pub call : AreKnown known read_by_call → Writes rules bank known goal 2 (accessing.call_code bank)
  call a =
      written 2 (accessing.call_code bank)
      (get-flow rules bank 2 _ _ _ (known-reads bank 2 known goal a.0) refl
      (get-flow rules bank 4 _ _ _ (known-reads bank 4 known goal a.1.0) refl
      (get-flow rules bank 5 _ _ _ (known-reads bank 5 known goal a.1.1.0) refl
      (get-flow rules bank 6 _ _ _ (known-reads bank 6 known goal a.1.1.1.0) refl
      (get-flow rules bank 7 _ _ _ (known-reads bank 7 known goal a.1.1.1.1.0) refl
      (put-flow rules bank 2 _ _ _ _ refl (put-below bank 2 known goal, tt)))))))

  nop : Keeps rules bank known goal (Does instructions.Nop ∷ [])
  nop = kept (Does instructions.Nop ∷ []) (same _, tt)

pub instruction-typed : (i : Inst) → is_branch i ≡ false → InstructionTyped i
instruction-typed (inst.Arithmetic name rs rt rd) e rules bank known goal at helpers a =
    arithmetic-typed rules bank known goal name rs rt rd at (word_of (inst.Arithmetic name rs rt rd)) a.0 a.1.0
instruction-typed (inst.VariableShift name rs rt rd) e rules bank known goal at helpers a = variable-shift rules bank known goal name rs rt rd
    a.0 a.1.0
instruction-typed (inst.Shift name rt rd sa) e rules bank known goal at helpers a = shift rules bank known goal name rt rd sa a.0
instruction-typed (inst.JumpRegister rs) e rules bank known goal at helpers a = absurd (true≢false e)
instruction-typed (inst.JumpAndLinkRegister rs rd) e rules bank known goal at helpers a = absurd (true≢false e)
instruction-typed (inst.Syscall code) e rules bank known goal at helpers a = call rules bank known goal a
instruction-typed (inst.Break code) e rules bank known goal at helpers a = fault rules bank known goal effects.break_fault at code
instruction-typed (inst.MoveFrom name rd) e rules bank known goal at helpers a = move-from rules bank known goal name rd
instruction-typed (inst.MoveTo name rs) e rules bank known goal at helpers a = move-to rules bank known goal name rs a.0
instruction-typed (inst.Product name rs rt) e rules bank known goal at helpers a = product rules bank known goal name rs rt helpers a.0 a.1.0
instruction-typed (inst.BranchSign name rs imm) e rules bank known goal at helpers a = absurd (true≢false e)
instruction-typed (inst.Jump name index) e rules bank known goal at helpers a = absurd (true≢false e)
instruction-typed (inst.BranchEqual name rs rt imm) e rules bank known goal at helpers a = absurd (true≢false e)
instruction-typed (inst.BranchZero name rs imm) e rules bank known goal at helpers a = absurd (true≢false e)
instruction-typed (inst.ArithmeticImmediate name rs rt imm) e rules bank known goal at helpers a =
    arithmetic-immediate rules bank known goal name rs rt imm at (word_of (inst.ArithmeticImmediate name rs rt imm)) a.0
instruction-typed (inst.LogicalImmediate name rs rt imm) e rules bank known goal at helpers a = logical-immediate rules bank known goal name rs
    rt imm a.0
instruction-typed (inst.LoadUpper rt imm) e rules bank known goal at helpers a = set rules bank known goal (imm * 2 ^ 16) rt
instruction-typed (inst.Load name rs rt imm) e rules bank known goal at helpers a = load rules bank known goal name rs rt imm at helpers a
instruction-typed (inst.Store name rs rt imm) e rules bank known goal at helpers a = store rules bank known goal name rs rt imm at helpers a.0 a.1.0
instruction-typed (inst.Trap name rs rt code) e rules bank known goal at helpers a =
    trap rules bank known goal name rs rt at (word_of (inst.Trap name rs rt code)) a.0 a.1.0
instruction-typed (inst.TrapImmediate name rs imm) e rules bank known goal at helpers a =
    trap-with rules bank known goal name rs (extended_imm imm) at (word_of (inst.TrapImmediate name rs imm)) a.0
instruction-typed (inst.Sync sa) e rules bank known goal at helpers a = nop rules bank known goal
instruction-typed (inst.LoadLinked rs rt imm) e rules bank known goal at helpers a =
    loaded rules bank known goal load_linked_helper rs rt imm at (helpers 16 (omega arith)) a.0
instruction-typed (inst.StoreConditional rs rt imm) e rules bank known goal at helpers a =
    loaded-over rules bank known goal store_conditional_helper rs rt imm at (helpers 17 (omega arith)) a.0 a.1.0
instruction-typed (inst.Reserved word) e rules bank known goal at helpers a = fault rules bank known goal effects.reserved_fault at word
instruction-typed (inst.Float word) e rules bank known goal at helpers a = nothing-leads rules (knowing bank known goal)
