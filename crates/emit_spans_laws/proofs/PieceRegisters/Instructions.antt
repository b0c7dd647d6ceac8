-- The code of each instruction that is no branch and no jump leaves the field of a register alone that it does not use, or that is kept.
use Rattle.std.proofs.Common.{ℕ, ◌≤◌, ◌==◌, Bool, if◌then◌else◌, List, [], ◌∷◌, ◌++◌, refl, arith}
use Rattle.mips_decode.specs.Encoding.{word_of}
use Rattle.mips_definition.specs.Targets.{extended_imm}
use Rattle.mips_definition.specs.declared.inst.Inst.{Inst}
use Rattle.mips_definition.specs.declared.inst.Inst.TheVariants as inst
use Rattle.mips_definition.specs.declared.names.arithmetic_name.ArithmeticName.{ArithmeticName}
use Rattle.mips_definition.specs.declared.names.arithmetic_name.ArithmeticName.TheVariants.{Add, Addu, Sub, Subu, And, Or, Xor, Nor, Slt, Sltu}
use Rattle.mips_definition.specs.declared.names.arithmetic_immediate_name.ArithmeticImmediateName.{ArithmeticImmediateName}
use Rattle.mips_definition.specs.declared.names.arithmetic_immediate_name.ArithmeticImmediateName.TheVariants.{Addi, Addiu, Slti, Sltiu}
use Rattle.mips_definition.specs.declared.names.logical_immediate_name.LogicalImmediateName.{LogicalImmediateName}
use Rattle.mips_definition.specs.declared.names.logical_immediate_name.LogicalImmediateName.TheVariants.{Andi, Ori, Xori}
use Rattle.mips_definition.specs.declared.names.shift_name.ShiftName.{ShiftName}
use Rattle.mips_definition.specs.declared.names.hi_lo.HiLo.{HiLo}
use Rattle.mips_definition.specs.declared.names.hi_lo.HiLo.TheVariants.{Hi, Lo}
use Rattle.mips_definition.specs.declared.names.load_name.LoadName.{LoadName}
use Rattle.mips_definition.specs.declared.names.load_name.LoadName.TheVariants.{Lb, Lh, Lwl, Lw, Lbu, Lhu, Lwr}
use Rattle.mips_definition.specs.declared.names.trap_name.TrapName.{TrapName}
use Rattle.mips_definition.specs.declared.names.trap_name.TrapName.TheVariants as traps
use Rattle.mips_definition.specs.declared.names.trap_immediate_name.TrapImmediateName.{TrapImmediateName}
use Rattle.mips_definition.specs.declared.names.trap_immediate_name.TrapImmediateName.TheVariants as immediate_traps
use Rattle.block_builder.specs.Registers.{read_by, read_by_call, written_by, written_by_call}
use Rattle.jvm_definition.specs.declared.branch_name.BranchName.TheVariants.{Ifeq, Ifne, IfIcmplt}
use Rattle.jvm_definition.specs.declared.int_arithmetic.IntArithmetic.{IntArithmetic}
use Rattle.jvm_definition.specs.declared.int_arithmetic.IntArithmetic.TheVariants.{Iadd, Isub, Iand, Ior, Ixor}
use Rattle.jvm_definition.specs.declared.instruction.Instruction.TheVariants as instructions
use Rattle.emit_steps.specs.declared.step.Step.{Step}
use Rattle.emit_steps.specs.declared.step.Step.TheVariants.{Does}
use Rattle.emit_layout.specs.FieldNumbers.{readable_field, writable_field}
use Rattle.emit_instructions.specs.Access.{get_register, put_register, get_turned, turned, push_word, arithmetic}
use Rattle.emit_instructions.specs.Accessing.{address_code, access_code, load_code, call_code}
use Rattle.emit_instructions.specs.Computing as computing
use Rattle.emit_instructions.specs.Faulting.{compared, compared_with, unless_code, passing, passing_immediate, trap_code, trap_with_code}
use Rattle.emit_instructions.specs.Fields.{linked_field}
use Rattle.emit_instructions.specs.Helpers.{load_helper, store_helper, load_linked_helper, store_conditional_helper}
use Rattle.emit_instructions.specs.Units.{instruction_code}
use Rattle.emit_spans_laws.proofs.PieceRegisters.Touching as touching

module _ (q : ℕ) (low : 1 ≤ q) (high : q ≤ 31) (bank : ℕ) where
  abbrev Quiet : List Step → Type 0
  Quiet code = touching.Quiet q code

  abbrev Spared : ℕ → Type 0
  Spared r = touching.IsSpared q bank r

  get : (r : ℕ) → Spared r → touching.StepQuiet q (get_register bank r)
  get r spared = touching.get-quiet q low high bank r spared

  put : (r : ℕ) → Spared r → touching.StepQuiet q (put_register bank r)
  put r spared = touching.put-quiet q low high bank r spared

  either : (b : Bool) (first second : List Step) → Quiet first → Quiet second → Quiet (if b then first else second)
  either b first second h k = touching.quiet-either q b first second h k

  joined : (first second : List Step) → Quiet first → Quiet second → Quiet (first ++ second)
  joined first second h k = touching.quiet-both q first second h k

  -- ---- of two registers

  moved : (rs rd : ℕ) → Spared rs → Spared rd → Quiet (computing.moved_code bank rs rd)
  moved rs rd a d = rw (get rs a, put rd d) refl

  combined : (name : IntArithmetic) (rs rt rd : ℕ) → Spared rs → Spared rt → Spared rd → Quiet (computing.combined_code bank name rs rt rd)
  combined name rs rt rd a b d = rw (get rs a, get rt b, put rd d) refl

  combined-or-moved : (name : IntArithmetic) (rs rt rd : ℕ) → Spared rs → Spared rt → Spared rd
      → Quiet (computing.combined_or_moved_code bank name rs rt rd)
  combined-or-moved name rs rt rd a b d =
      either (rt == 0) (computing.moved_code bank rs rd) (computing.combined_code bank name rs rt rd) (moved rs rd a d)
      (combined name rs rt rd a b d)

  sltu : (rs rt rd : ℕ) → Spared rs → Spared rt → Spared rd → Quiet (computing.sltu_code bank rs rt rd)
  sltu rs rt rd a b d =
      either (rs == 0) (get_register bank rt ∷ computing.chosen_code bank Ifne rd)
      (get_turned bank rs ++ get_turned bank rt ++ computing.chosen_code bank IfIcmplt rd)
      (rw (get rt b, put rd d) refl) (rw (get rs a, get rt b, put rd d) refl)

  arithmetics : (name : ArithmeticName) (rs rt rd at word : ℕ) → Spared rs → Spared rt → Spared rd
      → Quiet (computing.arithmetic_code bank name rs rt rd at word)
  arithmetics Add rs rt rd at word a b d = rw (get rs a, get rt b, put rd d) refl
  arithmetics Addu rs rt rd at word a b d = combined-or-moved Iadd rs rt rd a b d
  arithmetics Sub rs rt rd at word a b d = rw (get rs a, get rt b, put rd d) refl
  arithmetics Subu rs rt rd at word a b d = combined Isub rs rt rd a b d
  arithmetics And rs rt rd at word a b d = combined Iand rs rt rd a b d
  arithmetics Or rs rt rd at word a b d = combined-or-moved Ior rs rt rd a b d
  arithmetics Xor rs rt rd at word a b d = combined Ixor rs rt rd a b d
  arithmetics Nor rs rt rd at word a b d = rw (get rs a, get rt b, put rd d) refl
  arithmetics Slt rs rt rd at word a b d = rw (get rs a, get rt b, put rd d) refl
  arithmetics Sltu rs rt rd at word a b d = sltu rs rt rd a b d

  shift : (name : ShiftName) (rt rd sa : ℕ) → Spared rt → Spared rd → Quiet (computing.shift_code bank name rt rd sa)
  shift name rt rd sa b d =
      let whole = get_register bank rt ∷ push_word sa ∷ Does (instructions.IntShift (computing.shift_name name)) ∷ put_register bank rd ∷ [] in
      either (rd == 0) (Does instructions.Nop ∷ []) (if sa == 0 then computing.moved_code bank rt rd else whole) refl
      (either (sa == 0) (computing.moved_code bank rt rd) whole (moved rt rd b d) (rw (get rt b, put rd d) refl))

  move-from : (name : HiLo) (rd : ℕ) → Spared rd → Quiet (computing.move_from_code bank name rd)
  move-from Hi rd d = rw (touching.other-field q low high 31 (omega arith), put rd d) refl
  move-from Lo rd d = rw (touching.other-field q low high 32 (omega arith), put rd d) refl

  move-to : (name : HiLo) (rs : ℕ) → Spared rs → Quiet (computing.move_to_code bank name rs)
  move-to Hi rs a = rw (get rs a, touching.other-field q low high 31 (omega arith)) refl
  move-to Lo rs a = rw (get rs a, touching.other-field q low high 32 (omega arith)) refl

  -- ---- of a register and an immediate

  joined-with : (name : IntArithmetic) (rs w rt : ℕ) → Spared rs → Spared rt → Quiet (computing.joined_with_code bank name rs w rt)
  joined-with name rs w rt a b =
      either (rs == 0) (computing.set_code bank w rt)
      (if w == 0 then computing.moved_code bank rs rt else computing.combined_with_code bank name rs w rt) (rw (put rt b) refl)
      (either (w == 0) (computing.moved_code bank rs rt) (computing.combined_with_code bank name rs w rt) (moved rs rt a b)
      (rw (get rs a, put rt b) refl))

  sltiu : (rs w rt : ℕ) → Spared rs → Spared rt → Quiet (computing.sltiu_code bank rs w rt)
  sltiu rs w rt a b =
      either (w == 1) (get_register bank rs ∷ computing.chosen_code bank Ifeq rt)
      (get_turned bank rs ++ push_word (turned w) ∷ computing.chosen_code bank IfIcmplt rt)
      (rw (get rs a, put rt b) refl) (rw (get rs a, put rt b) refl)

  arithmetic-immediate : (name : ArithmeticImmediateName) (rs rt imm at word : ℕ) → Spared rs → Spared rt
      → Quiet (computing.arithmetic_immediate_code bank name rs rt imm at word)
  arithmetic-immediate Addi rs rt imm at word a b = rw (get rs a, put rt b) refl
  arithmetic-immediate Addiu rs rt imm at word a b = joined-with Iadd rs (extended_imm imm) rt a b
  arithmetic-immediate Slti rs rt imm at word a b = rw (get rs a, put rt b) refl
  arithmetic-immediate Sltiu rs rt imm at word a b = sltiu rs (extended_imm imm) rt a b

  logical-immediate : (name : LogicalImmediateName) (rs rt imm : ℕ) → Spared rs → Spared rt
      → Quiet (computing.logical_immediate_code bank name rs rt imm)
  logical-immediate Andi rs rt imm a b = rw (get rs a, put rt b) refl
  logical-immediate Ori rs rt imm a b = joined-with Ior rs imm rt a b
  logical-immediate Xori rs rt imm a b = rw (get rs a, put rt b) refl

  -- ---- loads and stores

  address : (rs w : ℕ) → Spared rs → Quiet (address_code bank rs w)
  address rs w a =
      either (w == 0) (get_register bank rs ∷ []) (get_register bank rs ∷ push_word w ∷ arithmetic Iadd ∷ []) (rw (get rs a) refl)
      (rw (get rs a) refl)

  access : (helper rs imm at : ℕ) → Spared rs → Quiet (access_code bank helper rs imm at)
  access helper rs imm at a =
      joined (address_code bank rs (extended_imm imm)) (push_word at ∷ Does (instructions.Call helper) ∷ []) (address rs (extended_imm imm) a)
      refl

  loaded : (helper rs rt imm at : ℕ) → Spared rs → Spared rt → Quiet (access_code bank helper rs imm at ++ put_register bank rt ∷ [])
  loaded helper rs rt imm at a b =
      joined (access_code bank helper rs imm at) (put_register bank rt ∷ []) (access helper rs imm at a) (rw (put rt b) refl)

  -- the register is given too
  changed : (helper rs rt imm at : ℕ) → Spared rs → Spared rt
      → Quiet (get_register bank rt ∷ (access_code bank helper rs imm at ++ put_register bank rt ∷ []))
  changed helper rs rt imm at a b =
      joined (get_register bank rt ∷ []) (access_code bank helper rs imm at ++ put_register bank rt ∷ []) (rw (get rt b) refl)
      (loaded helper rs rt imm at a b)

  load : (name : LoadName) (rs rt imm at : ℕ) → touching.AreSpared q bank (read_by (inst.Load name rs rt imm)) → Spared rt
      → Quiet (load_code bank name rs rt imm at)
  load Lb rs rt imm at reads b = loaded (load_helper Lb) rs rt imm at reads.0 b
  load Lh rs rt imm at reads b = loaded (load_helper Lh) rs rt imm at reads.0 b
  load Lwl rs rt imm at reads b = changed (load_helper Lwl) rs rt imm at reads.0 b
  load Lw rs rt imm at reads b = loaded (load_helper Lw) rs rt imm at reads.0 b
  load Lbu rs rt imm at reads b = loaded (load_helper Lbu) rs rt imm at reads.0 b
  load Lhu rs rt imm at reads b = loaded (load_helper Lhu) rs rt imm at reads.0 b
  load Lwr rs rt imm at reads b = changed (load_helper Lwr) rs rt imm at reads.0 b

  stored : (helper rs rt imm at : ℕ) → Spared rs → Spared rt → Quiet (get_register bank rt ∷ access_code bank helper rs imm at)
  stored helper rs rt imm at a b =
      joined (get_register bank rt ∷ []) (access_code bank helper rs imm at) (rw (get rt b) refl) (access helper rs imm at a)

  -- ---- calls of the system, and traps

  pub call : touching.AreSpared q bank read_by_call → touching.AreSpared q bank written_by_call → Quiet (call_code bank)
  call reads writes =
      rw (
        touching.other-field q low high readable_field (omega arith),
        touching.other-field q low high writable_field (omega arith),
        get 2 reads.0,
        get 4 reads.1.0,
        get 5 reads.1.1.0,
        get 6 reads.1.1.1.0,
        get 7 reads.1.1.1.1.0,
        put 2 writes.0,
        touching.other-field q low high linked_field (omega arith),
      ) refl

  pair : (rs rt : ℕ) → Spared rs → Spared rt → Quiet (get_register bank rs ∷ get_register bank rt ∷ [])
  pair rs rt a b = rw (get rs a, get rt b) refl

  turned-pair : (rs rt : ℕ) → Spared rs → Spared rt → Quiet (get_turned bank rs ++ get_turned bank rt)
  turned-pair rs rt a b = rw (get rs a, get rt b) refl

  comparing : (name : TrapName) (rs rt : ℕ) → Spared rs → Spared rt → Quiet (compared bank name rs rt)
  comparing traps.Tge rs rt a b = pair rs rt a b
  comparing traps.Tgeu rs rt a b = turned-pair rs rt a b
  comparing traps.Tlt rs rt a b = pair rs rt a b
  comparing traps.Tltu rs rt a b = turned-pair rs rt a b
  comparing traps.Teq rs rt a b = pair rs rt a b
  comparing traps.Tne rs rt a b = pair rs rt a b

  comparing-with : (name : TrapImmediateName) (rs w : ℕ) → Spared rs → Quiet (compared_with bank name rs w)
  comparing-with immediate_traps.Tgei rs w a = rw (get rs a) refl
  comparing-with immediate_traps.Tgeiu rs w a = rw (get rs a) refl
  comparing-with immediate_traps.Tlti rs w a = rw (get rs a) refl
  comparing-with immediate_traps.Tltiu rs w a = rw (get rs a) refl
  comparing-with immediate_traps.Teqi rs w a = rw (get rs a) refl
  comparing-with immediate_traps.Tnei rs w a = rw (get rs a) refl

  trap : (name : TrapName) (rs rt at word : ℕ) → Spared rs → Spared rt → Quiet (trap_code bank name rs rt at word)
  trap name rs rt at word a b = joined (compared bank name rs rt) (unless_code (passing name) at word) (comparing name rs rt a b) refl

  trap-with : (name : TrapImmediateName) (rs w at word : ℕ) → Spared rs → Quiet (trap_with_code bank name rs w at word)
  trap-with name rs w at word a =
      joined (compared_with bank name rs w) (unless_code (passing_immediate name) at word) (comparing-with name rs w a) refl

  -- ---- all of them

  pub instruction-quiet : (i : Inst) (at : ℕ) → touching.AreSpared q bank (read_by i) → touching.AreSpared q bank (written_by i)
      → Quiet (instruction_code bank i at)
  instruction-quiet (inst.Arithmetic name rs rt rd) at reads writes =
      arithmetics name rs rt rd at (word_of (inst.Arithmetic name rs rt rd)) reads.0 reads.1.0 writes.0
  instruction-quiet (inst.VariableShift name rs rt rd) at reads writes = rw (get rs reads.0, get rt reads.1.0, put rd writes.0) refl
  instruction-quiet (inst.Shift name rt rd sa) at reads writes = shift name rt rd sa reads.0 writes.0
  instruction-quiet (inst.Syscall code) at reads writes = call reads writes
  instruction-quiet (inst.Break code) at reads writes = refl
  instruction-quiet (inst.MoveFrom name rd) at reads writes = move-from name rd writes.0
  instruction-quiet (inst.MoveTo name rs) at reads writes = move-to name rs reads.0
  instruction-quiet (inst.Product name rs rt) at reads writes = rw (get rs reads.0, get rt reads.1.0) refl
  instruction-quiet (inst.ArithmeticImmediate name rs rt imm) at reads writes =
      arithmetic-immediate name rs rt imm at (word_of (inst.ArithmeticImmediate name rs rt imm)) reads.0 writes.0
  instruction-quiet (inst.LogicalImmediate name rs rt imm) at reads writes = logical-immediate name rs rt imm reads.0 writes.0
  instruction-quiet (inst.LoadUpper rt imm) at reads writes = rw (put rt writes.0) refl
  instruction-quiet (inst.Load name rs rt imm) at reads writes = load name rs rt imm at reads writes.0
  instruction-quiet (inst.Store name rs rt imm) at reads writes = stored (store_helper name) rs rt imm at reads.0 reads.1.0
  instruction-quiet (inst.Trap name rs rt code) at reads writes =
      trap name rs rt at (word_of (inst.Trap name rs rt code)) reads.0 reads.1.0
  instruction-quiet (inst.TrapImmediate name rs imm) at reads writes =
      trap-with name rs (extended_imm imm) at (word_of (inst.TrapImmediate name rs imm)) reads.0
  instruction-quiet (inst.Sync sa) at reads writes = refl
  instruction-quiet (inst.LoadLinked rs rt imm) at reads writes = loaded load_linked_helper rs rt imm at reads.0 writes.0
  instruction-quiet (inst.StoreConditional rs rt imm) at reads writes = changed store_conditional_helper rs rt imm at reads.0 reads.1.0
  instruction-quiet (inst.Reserved word) at reads writes = refl
  instruction-quiet other at reads writes = refl
