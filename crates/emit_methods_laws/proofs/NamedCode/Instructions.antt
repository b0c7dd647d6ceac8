-- The code of each instruction that is no branch and no jump.
use Rattle.std.proofs.Common.{◌≡◌, ℕ, ◌*◌, ◌<◌, ◌^◌, ◌==◌, Bool, true, if◌then◌else◌, List, [], ◌∷◌, ◌++◌, refl, arith}
use Rattle.mips_decode.specs.Encoding.{word_of}
use Rattle.mips_definition.specs.Targets.{extended_imm}
use Rattle.mips_definition.specs.declared.inst.Inst.{Inst}
use Rattle.mips_definition.specs.declared.inst.Inst.TheVariants as inst
use Rattle.mips_definition.specs.declared.names.arithmetic_name.ArithmeticName.{ArithmeticName}
use Rattle.mips_definition.specs.declared.names.arithmetic_name.ArithmeticName.TheVariants.{Add, Addu, Sub, Subu, And, Or, Xor, Nor, Slt, Sltu}
use Rattle.mips_definition.specs.declared.names.arithmetic_immediate_name.ArithmeticImmediateName.{ArithmeticImmediateName}
use Rattle.mips_definition.specs.declared.names.arithmetic_immediate_name.ArithmeticImmediateName.TheVariants.{Addi, Addiu, Slti, Sltiu}
use Rattle.mips_definition.specs.declared.names.logical_immediate_name.LogicalImmediateName.{LogicalImmediateName}
use Rattle.mips_definition.specs.declared.names.logical_immediate_name.LogicalImmediateName.TheVariants.{Andi, Ori, Xori}
use Rattle.mips_definition.specs.declared.names.shift_name.ShiftName.{ShiftName}
use Rattle.mips_definition.specs.declared.names.hi_lo.HiLo.{HiLo}
use Rattle.mips_definition.specs.declared.names.hi_lo.HiLo.TheVariants.{Hi, Lo}
use Rattle.mips_definition.specs.declared.names.product_name.ProductName.{ProductName}
use Rattle.mips_definition.specs.declared.names.product_name.ProductName.TheVariants.{Mult, Multu, Div, Divu}
use Rattle.mips_definition.specs.declared.names.load_name.LoadName.{LoadName}
use Rattle.mips_definition.specs.declared.names.load_name.LoadName.TheVariants.{Lb, Lh, Lwl, Lw, Lbu, Lhu, Lwr}
use Rattle.mips_definition.specs.declared.names.store_name.StoreName.{StoreName}
use Rattle.mips_definition.specs.declared.names.store_name.StoreName.TheVariants.{Sb, Sh, Swl, Sw, Swr}
use Rattle.mips_definition.specs.declared.names.trap_name.TrapName.{TrapName}
use Rattle.mips_definition.specs.declared.names.trap_name.TrapName.TheVariants as traps
use Rattle.mips_definition.specs.declared.names.trap_immediate_name.TrapImmediateName.{TrapImmediateName}
use Rattle.mips_definition.specs.declared.names.trap_immediate_name.TrapImmediateName.TheVariants as immediate_traps
use Rattle.block_builder.specs.Registers.{read_by, written_by}
use Rattle.jvm_definition.specs.declared.branch_name.BranchName.{BranchName}
use Rattle.jvm_definition.specs.declared.branch_name.BranchName.TheVariants.{Ifeq, Ifne, IfIcmplt}
use Rattle.jvm_definition.specs.declared.int_arithmetic.IntArithmetic.{IntArithmetic}
use Rattle.jvm_definition.specs.declared.int_arithmetic.IntArithmetic.TheVariants.{Iadd, Isub, Iand, Ior, Ixor}
use Rattle.jvm_definition.specs.declared.instruction.Instruction.TheVariants as instructions
use Rattle.emit_steps.specs.declared.step.Step.{Step}
use Rattle.emit_steps.specs.declared.step.Step.TheVariants.{Does}
use Rattle.emit_instructions.specs.Access.{get_register, put_register, get_turned, turned, push_word, arithmetic}
use Rattle.emit_instructions.specs.Accessing.{address_code, access_code, load_code, store_code, call_code}
use Rattle.emit_instructions.specs.Computing as computing
use Rattle.emit_instructions.specs.Faulting.{compared, compared_with, unless_code, passing, passing_immediate, trap_code, trap_with_code}
use Rattle.emit_instructions.specs.Helpers.{load_helper, store_helper, load_linked_helper, store_conditional_helper}
use Rattle.emit_instructions.specs.Units.{instruction_code}
use Rattle.emit_simulation_laws.specs.Knowing.{AreNumbers}
use Rattle.emit_methods_laws.specs.Naming.{is_helper}
use Rattle.emit_methods_laws.proofs.NamedCode.Steps.{Well, StepWell, well-append, well-either, get-well, put-well}

module _ (class : ℕ) (gives : Bool) (bank : ℕ) where
  abbrev Named : List Step → Type 0
  Named code = Well is_helper class gives code

  get : (r : ℕ) → r < 32 → StepWell is_helper class gives (get_register bank r)
  get r h = get-well is_helper class gives bank r h

  put : (r : ℕ) → r < 32 → StepWell is_helper class gives (put_register bank r)
  put r h = put-well is_helper class gives bank r h

  either : (b : Bool) (xs ys : List Step) → Named xs → Named ys → Named (if b then xs else ys)
  either b xs ys h k = well-either is_helper class gives b xs ys h k

  joined : (xs ys : List Step) → Named xs → Named ys → Named (xs ++ ys)
  joined xs ys h k = well-append is_helper class gives xs ys h k

  -- ---- of two registers

  moved : (rs rd : ℕ) → rs < 32 → rd < 32 → Named (computing.moved_code bank rs rd)
  moved rs rd a d = rw (get rs a, put rd d) refl

  combined : (name : IntArithmetic) (rs rt rd : ℕ) → rs < 32 → rt < 32 → rd < 32 → Named (computing.combined_code bank name rs rt rd)
  combined name rs rt rd a b d = rw (get rs a, get rt b, put rd d) refl

  combined-or-moved : (name : IntArithmetic) (rs rt rd : ℕ) → rs < 32 → rt < 32 → rd < 32
      → Named (computing.combined_or_moved_code bank name rs rt rd)
  combined-or-moved name rs rt rd a b d =
      either (rt == 0) (computing.moved_code bank rs rd) (computing.combined_code bank name rs rt rd) (moved rs rd a d)
      (combined name rs rt rd a b d)

  chosen : (test : BranchName) (rd : ℕ) → rd < 32 → Named (computing.chosen_code bank test rd)
  chosen test rd d = rw (put rd d) refl

  slt : (rs rt rd : ℕ) → rs < 32 → rt < 32 → rd < 32 → Named (computing.slt_code bank rs rt rd)
  slt rs rt rd a b d = rw (get rs a, get rt b, put rd d) refl

  sltu : (rs rt rd : ℕ) → rs < 32 → rt < 32 → rd < 32 → Named (computing.sltu_code bank rs rt rd)
  sltu rs rt rd a b d =
      either (rs == 0) (get_register bank rt ∷ computing.chosen_code bank Ifne rd)
      (get_turned bank rs ++ get_turned bank rt ++ computing.chosen_code bank IfIcmplt rd)
      (rw (get rt b, put rd d) refl) (rw (get rs a, get rt b, put rd d) refl)

  arithmetics : (name : ArithmeticName) (rs rt rd at word : ℕ) → rs < 32 → rt < 32 → rd < 32
      → Named (computing.arithmetic_code bank name rs rt rd at word)
  arithmetics Add rs rt rd at word a b d = rw (get rs a, get rt b, put rd d) refl
  arithmetics Addu rs rt rd at word a b d = combined-or-moved Iadd rs rt rd a b d
  arithmetics Sub rs rt rd at word a b d = rw (get rs a, get rt b, put rd d) refl
  arithmetics Subu rs rt rd at word a b d = combined Isub rs rt rd a b d
  arithmetics And rs rt rd at word a b d = combined Iand rs rt rd a b d
  arithmetics Or rs rt rd at word a b d = combined-or-moved Ior rs rt rd a b d
  arithmetics Xor rs rt rd at word a b d = combined Ixor rs rt rd a b d
  arithmetics Nor rs rt rd at word a b d = rw (get rs a, get rt b, put rd d) refl
  arithmetics Slt rs rt rd at word a b d = slt rs rt rd a b d
  arithmetics Sltu rs rt rd at word a b d = sltu rs rt rd a b d

  shift : (name : ShiftName) (rt rd sa : ℕ) → rt < 32 → rd < 32 → Named (computing.shift_code bank name rt rd sa)
  shift name rt rd sa b d =
      let whole = get_register bank rt ∷ push_word sa ∷ Does (instructions.IntShift (computing.shift_name name)) ∷ put_register bank rd ∷ [] in
      either (rd == 0) (Does instructions.Nop ∷ []) (if sa == 0 then computing.moved_code bank rt rd else whole) refl
      (either (sa == 0) (computing.moved_code bank rt rd) whole (moved rt rd b d) (rw (get rt b, put rd d) refl))

  move-from : (name : HiLo) (rd : ℕ) → rd < 32 → Named (computing.move_from_code bank name rd)
  move-from Hi rd d = rw (put rd d) refl
  move-from Lo rd d = rw (put rd d) refl

  move-to : (name : HiLo) (rs : ℕ) → rs < 32 → Named (computing.move_to_code bank name rs)
  move-to Hi rs a = rw (get rs a) refl
  move-to Lo rs a = rw (get rs a) refl

  product : (name : ProductName) (rs rt : ℕ) → rs < 32 → rt < 32 → Named (computing.product_code bank name rs rt)
  product Mult rs rt a b = rw (get rs a, get rt b) refl
  product Multu rs rt a b = rw (get rs a, get rt b) refl
  product Div rs rt a b = rw (get rs a, get rt b) refl
  product Divu rs rt a b = rw (get rs a, get rt b) refl

  -- ---- of a register and an immediate

  set : (w rt : ℕ) → rt < 32 → Named (computing.set_code bank w rt)
  set w rt b = rw (put rt b) refl

  combined-with : (name : IntArithmetic) (rs w rt : ℕ) → rs < 32 → rt < 32 → Named (computing.combined_with_code bank name rs w rt)
  combined-with name rs w rt a b = rw (get rs a, put rt b) refl

  joined-with : (name : IntArithmetic) (rs w rt : ℕ) → rs < 32 → rt < 32 → Named (computing.joined_with_code bank name rs w rt)
  joined-with name rs w rt a b =
      either (rs == 0) (computing.set_code bank w rt)
      (if w == 0 then computing.moved_code bank rs rt else computing.combined_with_code bank name rs w rt) (set w rt b)
      (either (w == 0) (computing.moved_code bank rs rt) (computing.combined_with_code bank name rs w rt) (moved rs rt a b)
      (combined-with name rs w rt a b))

  sltiu : (rs w rt : ℕ) → rs < 32 → rt < 32 → Named (computing.sltiu_code bank rs w rt)
  sltiu rs w rt a b =
      either (w == 1) (get_register bank rs ∷ computing.chosen_code bank Ifeq rt)
      (get_turned bank rs ++ push_word (turned w) ∷ computing.chosen_code bank IfIcmplt rt)
      (rw (get rs a, put rt b) refl) (rw (get rs a, put rt b) refl)

  arithmetic-immediate : (name : ArithmeticImmediateName) (rs rt imm at word : ℕ) → rs < 32 → rt < 32
      → Named (computing.arithmetic_immediate_code bank name rs rt imm at word)
  arithmetic-immediate Addi rs rt imm at word a b = rw (get rs a, put rt b) refl
  arithmetic-immediate Addiu rs rt imm at word a b = joined-with Iadd rs (extended_imm imm) rt a b
  arithmetic-immediate Slti rs rt imm at word a b = rw (get rs a, put rt b) refl
  arithmetic-immediate Sltiu rs rt imm at word a b = sltiu rs (extended_imm imm) rt a b

  logical-immediate : (name : LogicalImmediateName) (rs rt imm : ℕ) → rs < 32 → rt < 32
      → Named (computing.logical_immediate_code bank name rs rt imm)
  logical-immediate Andi rs rt imm a b = combined-with Iand rs imm rt a b
  logical-immediate Ori rs rt imm a b = joined-with Ior rs imm rt a b
  logical-immediate Xori rs rt imm a b = combined-with Ixor rs imm rt a b

  -- ---- loads and stores

  address : (rs w : ℕ) → rs < 32 → Named (address_code bank rs w)
  address rs w a =
      either (w == 0) (get_register bank rs ∷ []) (get_register bank rs ∷ push_word w ∷ arithmetic Iadd ∷ []) (rw (get rs a) refl)
      (rw (get rs a) refl)

  access : (helper rs imm at : ℕ) → rs < 32 → is_helper helper ≡ true → Named (access_code bank helper rs imm at)
  access helper rs imm at a h =
      joined (address_code bank rs (extended_imm imm)) (push_word at ∷ Does (instructions.Call helper) ∷ []) (address rs (extended_imm imm) a)
      (rw h refl)

  loaded : (helper rs rt imm at : ℕ) → rs < 32 → rt < 32 → is_helper helper ≡ true
      → Named (access_code bank helper rs imm at ++ put_register bank rt ∷ [])
  loaded helper rs rt imm at a b h =
      joined (access_code bank helper rs imm at) (put_register bank rt ∷ []) (access helper rs imm at a h) (rw (put rt b) refl)

  kept : (helper rs rt imm at : ℕ) → rs < 32 → rt < 32 → is_helper helper ≡ true
      → Named (get_register bank rt ∷ (access_code bank helper rs imm at ++ put_register bank rt ∷ []))
  kept helper rs rt imm at a b h =
      joined (get_register bank rt ∷ []) (access_code bank helper rs imm at ++ put_register bank rt ∷ []) (rw (get rt b) refl)
      (loaded helper rs rt imm at a b h)

  load : (name : LoadName) (rs rt imm at : ℕ) → rs < 32 → rt < 32 → Named (load_code bank name rs rt imm at)
  load Lb rs rt imm at a b = loaded (load_helper Lb) rs rt imm at a b refl
  load Lh rs rt imm at a b = loaded (load_helper Lh) rs rt imm at a b refl
  load Lwl rs rt imm at a b = kept (load_helper Lwl) rs rt imm at a b refl
  load Lw rs rt imm at a b = loaded (load_helper Lw) rs rt imm at a b refl
  load Lbu rs rt imm at a b = loaded (load_helper Lbu) rs rt imm at a b refl
  load Lhu rs rt imm at a b = loaded (load_helper Lhu) rs rt imm at a b refl
  load Lwr rs rt imm at a b = kept (load_helper Lwr) rs rt imm at a b refl

  load-reads : (name : LoadName) (rs rt imm : ℕ) → AreNumbers (read_by (inst.Load name rs rt imm)) → rs < 32
  load-reads Lb rs rt imm reads = reads.0
  load-reads Lh rs rt imm reads = reads.0
  load-reads Lwl rs rt imm reads = reads.0
  load-reads Lw rs rt imm reads = reads.0
  load-reads Lbu rs rt imm reads = reads.0
  load-reads Lhu rs rt imm reads = reads.0
  load-reads Lwr rs rt imm reads = reads.0

  stored : (helper rs rt imm at : ℕ) → rs < 32 → rt < 32 → is_helper helper ≡ true
      → Named (get_register bank rt ∷ access_code bank helper rs imm at)
  stored helper rs rt imm at a b h =
      joined (get_register bank rt ∷ []) (access_code bank helper rs imm at) (rw (get rt b) refl) (access helper rs imm at a h)

  store : (name : StoreName) (rs rt imm at : ℕ) → rs < 32 → rt < 32 → Named (store_code bank name rs rt imm at)
  store Sb rs rt imm at a b = stored (store_helper Sb) rs rt imm at a b refl
  store Sh rs rt imm at a b = stored (store_helper Sh) rs rt imm at a b refl
  store Swl rs rt imm at a b = stored (store_helper Swl) rs rt imm at a b refl
  store Sw rs rt imm at a b = stored (store_helper Sw) rs rt imm at a b refl
  store Swr rs rt imm at a b = stored (store_helper Swr) rs rt imm at a b refl

  -- ---- calls of the system, and traps

  pub call : Named (call_code bank)
  call =
      rw (
        get 2 (omega arith),
        get 4 (omega arith),
        get 5 (omega arith),
        get 6 (omega arith),
        get 7 (omega arith),
        put 2 (omega arith),
      ) refl

  pair : (rs rt : ℕ) → rs < 32 → rt < 32 → Named (get_register bank rs ∷ get_register bank rt ∷ [])
  pair rs rt a b = rw (get rs a, get rt b) refl

  turned-pair : (rs rt : ℕ) → rs < 32 → rt < 32 → Named (get_turned bank rs ++ get_turned bank rt)
  turned-pair rs rt a b = rw (get rs a, get rt b) refl

  comparing : (name : TrapName) (rs rt : ℕ) → rs < 32 → rt < 32 → Named (compared bank name rs rt)
  comparing traps.Tge rs rt a b = pair rs rt a b
  comparing traps.Tgeu rs rt a b = turned-pair rs rt a b
  comparing traps.Tlt rs rt a b = pair rs rt a b
  comparing traps.Tltu rs rt a b = turned-pair rs rt a b
  comparing traps.Teq rs rt a b = pair rs rt a b
  comparing traps.Tne rs rt a b = pair rs rt a b

  comparing-with : (name : TrapImmediateName) (rs w : ℕ) → rs < 32 → Named (compared_with bank name rs w)
  comparing-with immediate_traps.Tgei rs w a = rw (get rs a) refl
  comparing-with immediate_traps.Tgeiu rs w a = rw (get rs a) refl
  comparing-with immediate_traps.Tlti rs w a = rw (get rs a) refl
  comparing-with immediate_traps.Tltiu rs w a = rw (get rs a) refl
  comparing-with immediate_traps.Teqi rs w a = rw (get rs a) refl
  comparing-with immediate_traps.Tnei rs w a = rw (get rs a) refl

  trap : (name : TrapName) (rs rt at word : ℕ) → rs < 32 → rt < 32 → Named (trap_code bank name rs rt at word)
  trap name rs rt at word a b = joined (compared bank name rs rt) (unless_code (passing name) at word) (comparing name rs rt a b) refl

  trap-with : (name : TrapImmediateName) (rs w at word : ℕ) → rs < 32 → Named (trap_with_code bank name rs w at word)
  trap-with name rs w at word a =
      joined (compared_with bank name rs w) (unless_code (passing_immediate name) at word) (comparing-with name rs w a) refl

  -- ---- all of them

  pub instruction-well : (i : Inst) (at : ℕ) → AreNumbers (read_by i) → AreNumbers (written_by i) → Named (instruction_code bank i at)
  instruction-well (inst.Arithmetic name rs rt rd) at reads writes =
      arithmetics name rs rt rd at (word_of (inst.Arithmetic name rs rt rd)) reads.0 reads.1.0 writes.0
  instruction-well (inst.VariableShift name rs rt rd) at reads writes = rw (get rs reads.0, get rt reads.1.0, put rd writes.0) refl
  instruction-well (inst.Shift name rt rd sa) at reads writes = shift name rt rd sa reads.0 writes.0
  instruction-well (inst.Syscall code) at reads writes = call
  instruction-well (inst.Break code) at reads writes = refl
  instruction-well (inst.MoveFrom name rd) at reads writes = move-from name rd writes.0
  instruction-well (inst.MoveTo name rs) at reads writes = move-to name rs reads.0
  instruction-well (inst.Product name rs rt) at reads writes = product name rs rt reads.0 reads.1.0
  instruction-well (inst.ArithmeticImmediate name rs rt imm) at reads writes =
      arithmetic-immediate name rs rt imm at (word_of (inst.ArithmeticImmediate name rs rt imm)) reads.0 writes.0
  instruction-well (inst.LogicalImmediate name rs rt imm) at reads writes = logical-immediate name rs rt imm reads.0 writes.0
  instruction-well (inst.LoadUpper rt imm) at reads writes = set (imm * 2 ^ 16) rt writes.0
  instruction-well (inst.Load name rs rt imm) at reads writes = load name rs rt imm at (load-reads name rs rt imm reads) writes.0
  instruction-well (inst.Store name rs rt imm) at reads writes = store name rs rt imm at reads.0 reads.1.0
  instruction-well (inst.Trap name rs rt code) at reads writes =
      trap name rs rt at (word_of (inst.Trap name rs rt code)) reads.0 reads.1.0
  instruction-well (inst.TrapImmediate name rs imm) at reads writes =
      trap-with name rs (extended_imm imm) at (word_of (inst.TrapImmediate name rs imm)) reads.0
  instruction-well (inst.Sync sa) at reads writes = refl
  instruction-well (inst.LoadLinked rs rt imm) at reads writes = loaded load_linked_helper rs rt imm at reads.0 writes.0 refl
  instruction-well (inst.StoreConditional rs rt imm) at reads writes =
      kept store_conditional_helper rs rt imm at reads.0 reads.1.0 refl
  instruction-well (inst.Reserved word) at reads writes = refl
  instruction-well other at reads writes = refl
