-- No branch of a unit's code goes past that code's end.
use Rattle.std.proofs.Common.{ℕ, ◌+◌, ◌*◌, ◌^◌, ◌≤◌, ◌==◌, Bool, true, false, if◌then◌else◌, List, [], ◌∷◌, ◌++◌, length, length-append, Option, Some, None, IsTrue, refl, arith, lit≤}
use Rattle.std.specs.Bool.{⊤}
use Rattle.std.proofs.lemmas.Bool.{and_from, le-leb}
use Rattle.std.specs.Prelude.{nat_le}
use Rattle.mips_definition.specs.Branches.{equal_likely, zero_likely, sign_likely}
use Rattle.mips_definition.specs.Effect.{fetch_fault, break_fault, reserved_fault, branch_in_slot_fault}
use Rattle.mips_decode.specs.Encoding.{word_of}
use Rattle.mips_definition.specs.Targets.{extended_imm, branch_target}
use Rattle.mips_definition.specs.declared.inst.Inst.{Inst}
use Rattle.mips_definition.specs.declared.inst.Inst.TheVariants as inst
use Rattle.mips_definition.specs.declared.names.arithmetic_name.ArithmeticName.{ArithmeticName}
use Rattle.mips_definition.specs.declared.names.arithmetic_name.ArithmeticName.TheVariants.{Add, Addu, Sub, Subu, And, Or, Xor, Nor, Slt, Sltu}
use Rattle.mips_definition.specs.declared.names.arithmetic_immediate_name.ArithmeticImmediateName.{ArithmeticImmediateName}
use Rattle.mips_definition.specs.declared.names.arithmetic_immediate_name.ArithmeticImmediateName.TheVariants.{Addi, Addiu, Slti, Sltiu}
use Rattle.mips_definition.specs.declared.names.logical_immediate_name.LogicalImmediateName.{LogicalImmediateName}
use Rattle.mips_definition.specs.declared.names.logical_immediate_name.LogicalImmediateName.TheVariants.{Andi, Ori, Xori}
use Rattle.mips_definition.specs.declared.names.shift_name.ShiftName.{ShiftName}
use Rattle.mips_definition.specs.declared.names.load_name.LoadName.{LoadName}
use Rattle.mips_definition.specs.declared.names.load_name.LoadName.TheVariants.{Lb, Lh, Lwl, Lw, Lbu, Lhu, Lwr}
use Rattle.mips_definition.specs.declared.names.trap_name.TrapName.{TrapName}
use Rattle.mips_definition.specs.declared.names.trap_name.TrapName.TheVariants.{Tge, Tgeu, Tlt, Tltu, Teq, Tne}
use Rattle.mips_definition.specs.declared.names.trap_immediate_name.TrapImmediateName.{TrapImmediateName}
use Rattle.mips_definition.specs.declared.names.trap_immediate_name.TrapImmediateName.TheVariants.{Tgei, Tgeiu, Tlti, Tltiu, Teqi, Tnei}
use Rattle.delay_slots.specs.declared.unit.Unit.{Unit as Word}
use Rattle.delay_slots.specs.declared.unit.Unit.TheVariants as units
use Rattle.jvm_definition.specs.declared.branch_name.BranchName.{BranchName}
use Rattle.jvm_definition.specs.declared.branch_name.BranchName.TheVariants.{Ifeq, Ifne, IfIcmplt, Goto}
use Rattle.jvm_definition.specs.declared.stack_name.StackName.TheVariants.{Pop}
use Rattle.jvm_definition.specs.declared.int_arithmetic.IntArithmetic.{IntArithmetic}
use Rattle.jvm_definition.specs.declared.int_arithmetic.IntArithmetic.TheVariants.{Iadd, Isub, Iand, Ior, Ixor}
use Rattle.jvm_definition.specs.declared.local_kind.LocalKind.TheVariants as local_kinds
use Rattle.jvm_definition.specs.declared.instruction.Instruction.TheVariants as instructions
use Rattle.emit_steps.specs.declared.step.Step.{Step}
use Rattle.emit_steps.specs.declared.step.Step.TheVariants.{Does, Skips, Leaves, Selects}
use Rattle.emit_steps.specs.Outcomes.{stays_within}
use Rattle.emit_layout.specs.FieldNumbers.{register_field}
use Rattle.emit_instructions.specs.Access.{get_register, put_register, get_field, put_field, push_word, keeps, get_turned, turned, arithmetic}
use Rattle.emit_instructions.specs.Accessing.{address_code, access_code, load_code, call_code}
use Rattle.emit_instructions.specs.Computing.{moved_code, combined_code, combined_with_code, set_code, chosen_code, arithmetic_code, arithmetic_immediate_code, logical_immediate_code, shift_name}
use Rattle.emit_instructions.specs.Faulting.{fault_code, unless_code, trap_code, trap_with_code, passing, passing_immediate}
use Rattle.emit_instructions.specs.Branching.{settle_code, goes_to_code, link_code, conditional_code, transfer_code, equal_test, zero_test, sign_test, sign_link, jump_link, behind_slot}
use Rattle.emit_instructions.specs.Helpers.{load_helper, store_helper, load_linked_helper, store_conditional_helper}
use Rattle.emit_instructions.specs.Units.{instruction_code, unit_code, next_address}
use Rattle.word_emitter.specs.Pieces.{units_code}

-- ---- step by step

-- a step goes no further than over so many steps
abbrev Reaches : Step → ℕ → Type 0
Reaches (Does instruction) = λ n. ⊤
Reaches (Skips name k) = λ n. k ≤ n
Reaches (Leaves target) = λ n. ⊤
Reaches (Selects s) = λ n. ⊤

abbrev Within : List Step → Type 0
Within [] = ⊤
Within (s ∷ code) = Reaches s (length code) × Within code

more-reach : (s : Step) (n k : ℕ) → n ≤ k → Reaches s n → Reaches s k
more-reach (Does instruction) n k few reaches = tt
more-reach (Skips name j) n k few reaches = omega (arith, few, reaches)
more-reach (Leaves target) n k few reaches = tt
more-reach (Selects s) n k few reaches = tt

both : (first second : List Step) → Within first → Within second → Within (first ++ second)
both [] second a b = b
both (s ∷ first) second a b =
    let sum = length-append first second in
    (more-reach s (length first) (length (first ++ second)) (omega (arith, sum)) a.0, both first second a.1 b)

stays : (code : List Step) → Within code → IsTrue (stays_within code)
stays [] within = refl
stays (Does instruction ∷ code) within = stays code within.1
stays (Skips name k ∷ code) within = and_from (nat_le k (length code)) (stays_within code) (le-leb k (length code) within.0) (stays code within.1)
stays (Leaves target ∷ code) within = stays code within.1
stays (Selects s ∷ code) within = stays code within.1

-- ---- registers

got-in-bank : (r n : ℕ) (b : Bool) → Reaches (if b then Does (instructions.Load local_kinds.Int r) else get_field (register_field r)) n
got-in-bank r n true = tt
got-in-bank r n false = tt

got-by-number : (bank r n : ℕ) (b : Bool)
    → Reaches (if b then push_word 0 else if keeps bank r then Does (instructions.Load local_kinds.Int r) else get_field (register_field r)) n
got-by-number bank r n true = tt
got-by-number bank r n false = got-in-bank r n (keeps bank r)

get : (bank r n : ℕ) → Reaches (get_register bank r) n
get bank r n = got-by-number bank r n (r == 0)

put-in-bank : (r n : ℕ) (b : Bool) → Reaches (if b then Does (instructions.Store local_kinds.Int r) else put_field (register_field r)) n
put-in-bank r n true = tt
put-in-bank r n false = tt

put-by-number : (bank r n : ℕ) (b : Bool)
    → Reaches (if b then Does (instructions.Stack Pop) else if keeps bank r then Does (instructions.Store local_kinds.Int r) else put_field
    (register_field r)) n
put-by-number bank r n true = tt
put-by-number bank r n false = put-in-bank r n (keeps bank r)

put : (bank r n : ℕ) → Reaches (put_register bank r) n
put bank r n = put-by-number bank r n (r == 0)

one-of : (b : Bool) (first second : List Step) → Within first → Within second → Within (if b then first else second)
one-of true first second a c = a
one-of false first second a c = c

-- ---- instructions

module _ (bank : ℕ) where
  moved : (rs rd : ℕ) → Within (moved_code bank rs rd)
  moved rs rd = (get bank rs _, (put bank rd _, tt))

  combined : (name : IntArithmetic) (rs rt rd : ℕ) → Within (combined_code bank name rs rt rd)
  combined name rs rt rd = (get bank rs _, (get bank rt _, (tt, (put bank rd _, tt))))

  chosen : (test : BranchName) (rd : ℕ) → Within (chosen_code bank test rd)
  chosen test rd = (lit≤ tt, (tt, (lit≤ tt, (tt, (put bank rd _, tt)))))

  moved-or-combined : (b : Bool) (name : IntArithmetic) (rs rt rd : ℕ)
      → Within (if b then moved_code bank rs rd else combined_code bank name rs rt rd)
  moved-or-combined true name rs rt rd = moved rs rd
  moved-or-combined false name rs rt rd = combined name rs rt rd

  below : (b : Bool) (rs rt rd : ℕ) → Within (if b then get_register bank rt ∷ chosen_code bank Ifne rd else get_turned bank rs ++ get_turned bank
      rt ++ chosen_code bank IfIcmplt rd)
  below true rs rt rd = (get bank rt _, chosen Ifne rd)
  below false rs rt rd = (get bank rs _, (tt, (tt, (get bank rt _, (tt, (tt, chosen IfIcmplt rd))))))

  arithmetic-within : (name : ArithmeticName) (rs rt rd at word : ℕ) → Within (arithmetic_code bank name rs rt rd at word)
  arithmetic-within Add rs rt rd at word = (
    get bank rs _,
    (
      get bank rt _,
      (tt, (tt, (get bank rs _, (tt, (tt, (tt, (get bank rt _, (tt, (tt, (lit≤ tt, (tt, (tt, (tt, (tt, (put bank rd _, tt))))))))))))))),
    ),
  )
  arithmetic-within Addu rs rt rd at word = moved-or-combined (rt == 0) Iadd rs rt rd
  arithmetic-within Sub rs rt rd at word = (
    get bank rs _,
    (
      get bank rt _,
      (tt, (tt, (get bank rs _, (tt, (get bank rs _, (get bank rt _, (tt, (tt, (lit≤ tt, (tt, (tt, (tt, (tt, (put bank rd _, tt)))))))))))))),
    ),
  )
  arithmetic-within Subu rs rt rd at word = combined Isub rs rt rd
  arithmetic-within And rs rt rd at word = combined Iand rs rt rd
  arithmetic-within Or rs rt rd at word = moved-or-combined (rt == 0) Ior rs rt rd
  arithmetic-within Xor rs rt rd at word = combined Ixor rs rt rd
  arithmetic-within Nor rs rt rd at word = (get bank rs _, (get bank rt _, (tt, (tt, (tt, (put bank rd _, tt))))))
  arithmetic-within Slt rs rt rd at word = (get bank rs _, (get bank rt _, chosen IfIcmplt rd))
  arithmetic-within Sltu rs rt rd at word = below (rs == 0) rs rt rd

  shifted-within : (a b : Bool) (name : ShiftName) (rt rd sa : ℕ)
      → Within (if a then Does instructions.Nop ∷ [] else if b then moved_code bank rt rd else get_register bank rt ∷ push_word sa ∷ Does
      (instructions.IntShift (shift_name name)) ∷ put_register bank rd ∷ [])
  shifted-within true b name rt rd sa = (tt, tt)
  shifted-within false true name rt rd sa = moved rt rd
  shifted-within false false name rt rd sa = (get bank rt _, (tt, (tt, (put bank rd _, tt))))

  set-within : (w rt : ℕ) → Within (set_code bank w rt)
  set-within w rt = (tt, (put bank rt _, tt))

  combined-with : (name : IntArithmetic) (rs w rt : ℕ) → Within (combined_with_code bank name rs w rt)
  combined-with name rs w rt = (get bank rs _, (tt, (tt, (put bank rt _, tt))))

  joined-with : (a b : Bool) (name : IntArithmetic) (rs w rt : ℕ)
      → Within (if a then set_code bank w rt else if b then moved_code bank rs rt else combined_with_code bank name rs w rt)
  joined-with true b name rs w rt = set-within w rt
  joined-with false true name rs w rt = moved rs rt
  joined-with false false name rs w rt = combined-with name rs w rt

  below-word : (b : Bool) (rs w rt : ℕ) → Within (if b then get_register bank rs ∷ chosen_code bank Ifeq rt else get_turned bank rs ++ push_word
      (turned w) ∷ chosen_code bank IfIcmplt rt)
  below-word true rs w rt = (get bank rs _, chosen Ifeq rt)
  below-word false rs w rt = (get bank rs _, (tt, (tt, (tt, chosen IfIcmplt rt))))

  immediate-within : (name : ArithmeticImmediateName) (rs rt imm at word : ℕ) → Within (arithmetic_immediate_code bank name rs rt imm at word)
  immediate-within Addi rs rt imm at word =
      (get bank rs _, (tt, (tt, (tt, (get bank rs _, (tt, (tt, (tt, (tt, (tt, (tt, (lit≤ tt, (tt, (tt, (tt, (tt, (put bank rt _, tt)))))))))))))))))
  immediate-within Addiu rs rt imm at word = joined-with (rs == 0) (extended_imm imm == 0) Iadd rs (extended_imm imm) rt
  immediate-within Slti rs rt imm at word = (get bank rs _, (tt, chosen IfIcmplt rt))
  immediate-within Sltiu rs rt imm at word = below-word (extended_imm imm == 1) rs (extended_imm imm) rt

  logical-within : (name : LogicalImmediateName) (rs rt imm : ℕ) → Within (logical_immediate_code bank name rs rt imm)
  logical-within Andi rs rt imm = combined-with Iand rs imm rt
  logical-within Ori rs rt imm = joined-with (rs == 0) (imm == 0) Ior rs imm rt
  logical-within Xori rs rt imm = combined-with Ixor rs imm rt

  -- loads and stores

  address-within : (b : Bool) (rs w : ℕ) → Within (if b then get_register bank rs ∷ [] else get_register bank rs ∷ push_word w ∷ arithmetic Iadd ∷ [])
  address-within true rs w = (get bank rs _, tt)
  address-within false rs w = (get bank rs _, (tt, (tt, tt)))

  access-within : (helper rs imm at : ℕ) → Within (access_code bank helper rs imm at)
  access-within helper rs imm at =
      both (address_code bank rs (extended_imm imm)) (push_word at ∷ Does (instructions.Call helper) ∷ []) (address-within (extended_imm imm == 0) rs
      (extended_imm imm)) (tt, (tt, tt))

  loaded : (helper rs rt imm at : ℕ) → Within (access_code bank helper rs imm at ++ put_register bank rt ∷ [])
  loaded helper rs rt imm at = both (access_code bank helper rs imm at) (put_register bank rt ∷ []) (access-within helper rs imm at)
      (put bank rt _, tt)

  load-within : (name : LoadName) (rs rt imm at : ℕ) → Within (load_code bank name rs rt imm at)
  load-within Lb rs rt imm at = loaded (load_helper Lb) rs rt imm at
  load-within Lh rs rt imm at = loaded (load_helper Lh) rs rt imm at
  load-within Lwl rs rt imm at = (get bank rt _, loaded (load_helper Lwl) rs rt imm at)
  load-within Lw rs rt imm at = loaded (load_helper Lw) rs rt imm at
  load-within Lbu rs rt imm at = loaded (load_helper Lbu) rs rt imm at
  load-within Lhu rs rt imm at = loaded (load_helper Lhu) rs rt imm at
  load-within Lwr rs rt imm at = (get bank rt _, loaded (load_helper Lwr) rs rt imm at)

  call-within : Within (call_code bank)
  call-within = (tt, (tt, (get bank 2 _, (get bank 4 _, (get bank 5 _, (get bank 6 _, (get bank 7 _, (tt, (put bank 2 _, (tt, (tt, tt)))))))))))

  -- traps

  fault-within : (kind at value : ℕ) → Within (fault_code kind at value)
  fault-within kind at value = (tt, (tt, (tt, (tt, tt))))

  unless-within : (test : BranchName) (at word : ℕ) → Within (unless_code test at word)
  unless-within test at word = (lit≤ tt, (tt, (tt, (tt, (tt, tt)))))

  trap-within : (name : TrapName) (rs rt at word : ℕ) → Within (trap_code bank name rs rt at word)
  trap-within Tge rs rt at word = (get bank rs _, (get bank rt _, unless-within (passing Tge) at word))
  trap-within Tgeu rs rt at word = (get bank rs _, (tt, (tt, (get bank rt _, (tt, (tt, unless-within (passing Tgeu) at word))))))
  trap-within Tlt rs rt at word = (get bank rs _, (get bank rt _, unless-within (passing Tlt) at word))
  trap-within Tltu rs rt at word = (get bank rs _, (tt, (tt, (get bank rt _, (tt, (tt, unless-within (passing Tltu) at word))))))
  trap-within Teq rs rt at word = (get bank rs _, (get bank rt _, unless-within (passing Teq) at word))
  trap-within Tne rs rt at word = (get bank rs _, (get bank rt _, unless-within (passing Tne) at word))

  trap-with-within : (name : TrapImmediateName) (rs w at word : ℕ) → Within (trap_with_code bank name rs w at word)
  trap-with-within Tgei rs w at word = (get bank rs _, (tt, unless-within (passing_immediate Tgei) at word))
  trap-with-within Tgeiu rs w at word = (get bank rs _, (tt, (tt, (tt, unless-within (passing_immediate Tgeiu) at word))))
  trap-with-within Tlti rs w at word = (get bank rs _, (tt, unless-within (passing_immediate Tlti) at word))
  trap-with-within Tltiu rs w at word = (get bank rs _, (tt, (tt, (tt, unless-within (passing_immediate Tltiu) at word))))
  trap-with-within Teqi rs w at word = (get bank rs _, (tt, unless-within (passing_immediate Teqi) at word))
  trap-with-within Tnei rs w at word = (get bank rs _, (tt, unless-within (passing_immediate Tnei) at word))

  instruction-within : (i : Inst) (at : ℕ) → Within (instruction_code bank i at)
  instruction-within (inst.Arithmetic name rs rt rd) at = arithmetic-within name rs rt rd at (word_of (inst.Arithmetic name rs rt rd))
  instruction-within (inst.VariableShift name rs rt rd) at = (get bank rt _, (get bank rs _, (tt, (put bank rd _, tt))))
  instruction-within (inst.Shift name rt rd sa) at = shifted-within (rd == 0) (sa == 0) name rt rd sa
  instruction-within (inst.Syscall code) at = call-within
  instruction-within (inst.Break code) at = fault-within break_fault at code
  instruction-within (inst.MoveFrom name rd) at = (tt, (put bank rd _, tt))
  instruction-within (inst.MoveTo name rs) at = (get bank rs _, (tt, tt))
  instruction-within (inst.Product name rs rt) at = (get bank rs _, (get bank rt _, (tt, tt)))
  instruction-within (inst.ArithmeticImmediate name rs rt imm) at = immediate-within name rs rt imm at
      (word_of (inst.ArithmeticImmediate name rs rt imm))
  instruction-within (inst.LogicalImmediate name rs rt imm) at = logical-within name rs rt imm
  instruction-within (inst.LoadUpper rt imm) at = set-within (imm * 2 ^ 16) rt
  instruction-within (inst.Load name rs rt imm) at = load-within name rs rt imm at
  instruction-within (inst.Store name rs rt imm) at = (get bank rt _, access-within (store_helper name) rs imm at)
  instruction-within (inst.Trap name rs rt code) at = trap-within name rs rt at (word_of (inst.Trap name rs rt code))
  instruction-within (inst.TrapImmediate name rs imm) at = trap-with-within name rs (extended_imm imm) at (word_of (inst.TrapImmediate name rs imm))
  instruction-within (inst.Sync sa) at = (tt, tt)
  instruction-within (inst.LoadLinked rs rt imm) at = loaded load_linked_helper rs rt imm at
  instruction-within (inst.StoreConditional rs rt imm) at = (get bank rt _, loaded store_conditional_helper rs rt imm at)
  instruction-within (inst.Reserved word) at = fault-within reserved_fault at word
  instruction-within _ at = tt

  -- branches

  link-within : (link : Option ℕ) (at : ℕ) → Within (link_code bank link at)
  link-within None at = tt
  link-within (Some r) at = (tt, (put bank r _, tt))

  module _ (slot : List Step) (slot-stays : Within slot) where
    goal-within : (link : List Step) → Within link → Within (settle_code ++ link ++ slot)
    goal-within link a = (tt, (tt, (tt, both link slot a slot-stays)))

    conditional-within : (likely : Bool) (test : BranchName) (target behind : ℕ) (link : List Step) → Within link
        → Within (conditional_code likely test target behind link slot)
    conditional-within false test target behind link a = both link slot a slot-stays
    conditional-within true test target behind link a =
        let taken : List Step = goes_to_code target ++ link ++ slot in
        let skip : Step = Skips Goto (4 + length link + length slot) in
        let first = length-append link slot in
        let second = length-append link (skip ∷ taken) in
        (omega (arith, second), (tt, (tt, (tt, (tt, both link (skip ∷ taken) a (omega (arith, first), (tt, goal-within link a)))))))

    transfer-within : (i : Inst) (at : ℕ) → Within (transfer_code bank i at slot)
    transfer-within (inst.BranchEqual name rs rt imm) at =
        (get bank rs _, (get bank rt _, conditional-within (equal_likely name) (equal_test name) (branch_target at imm) (behind_slot at) [] tt))
    transfer-within (inst.BranchZero name rs imm) at =
        (get bank rs _, conditional-within (zero_likely name) (zero_test name) (branch_target at imm) (behind_slot at) [] tt)
    transfer-within (inst.BranchSign name rs imm) at = (
      get bank rs _,
      conditional-within (sign_likely name) (sign_test name) (branch_target at imm) (behind_slot at)
          (link_code bank (sign_link name) at) (link-within (sign_link name) at),
    )
    transfer-within (inst.Jump name index) at =
        (tt, both (link_code bank (jump_link name) at) slot (link-within (jump_link name) at) slot-stays)
    transfer-within (inst.JumpRegister rs) at = (get bank rs _, slot-stays)
    transfer-within (inst.JumpAndLinkRegister rs rd) at =
        (get bank rs _, both (link_code bank (Some rd) at) slot (link-within (Some rd) at) slot-stays)
    transfer-within _ at = slot-stays

  unit-within : (unit : Word) (at : ℕ) → Within (unit_code bank unit at)
  unit-within (units.Plain i) at = instruction-within i at
  unit-within (units.Branch i slot) at = transfer-within (instruction_code bank slot (next_address at)) (instruction-within slot (next_address at)) i
      at
  unit-within (units.SlotMissing i) at =
      transfer-within (fault_code fetch_fault (next_address at) (next_address at)) (fault-within fetch_fault (next_address at) (next_address at)) i at
  unit-within (units.SlotIsBranch i word) at =
      transfer-within (fault_code branch_in_slot_fault (next_address at) word) (fault-within branch_in_slot_fault (next_address at) word) i at
  unit-within units.Call at = call-within
  unit-within (units.Trap kind value) at = fault-within kind at value

  units-within : (piece : List Word) (at : ℕ) → Within (units_code bank piece at)
  units-within [] at = tt
  units-within (unit ∷ piece) at = both (unit_code bank unit at) (units_code bank piece (at + 4)) (unit-within unit at) (units-within piece (at + 4))

  pub unit-stays : (unit : Word) (at : ℕ) → IsTrue (stays_within (unit_code bank unit at))
  unit-stays unit at = stays (unit_code bank unit at) (unit-within unit at)

  pub units-stay : (piece : List Word) (at : ℕ) → IsTrue (stays_within (units_code bank piece at))
  units-stay piece at = stays (units_code bank piece at) (units-within piece at)
