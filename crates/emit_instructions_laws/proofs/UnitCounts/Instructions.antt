-- What the code of an instruction counts.
use Rattle.std.proofs.Common.{◌≡◌, ℕ, ◌<◌, ◌==◌, Bool, if◌then◌else◌, List, [], ◌∷◌, ◌++◌, refl, append_assoc, subst, sym, arith, lit<}
use Rattle.run_definition.specs.declared.order.Order.{Order}
use Rattle.mips_definition.specs.Effect.{break_fault, reserved_fault}
use Rattle.mips_decode.specs.Encoding.{word_of}
use Rattle.mips_definition.specs.Targets.{extended_imm}
use Rattle.mips_definition.specs.declared.names.arithmetic_name.ArithmeticName.{ArithmeticName}
use Rattle.mips_definition.specs.declared.names.arithmetic_name.ArithmeticName.TheVariants as names
use Rattle.mips_definition.specs.declared.names.arithmetic_immediate_name.ArithmeticImmediateName.{ArithmeticImmediateName}
use Rattle.mips_definition.specs.declared.names.arithmetic_immediate_name.ArithmeticImmediateName.TheVariants.{Addi, Addiu, Slti, Sltiu}
use Rattle.mips_definition.specs.declared.names.logical_immediate_name.LogicalImmediateName.{LogicalImmediateName}
use Rattle.mips_definition.specs.declared.names.logical_immediate_name.LogicalImmediateName.TheVariants.{Andi, Ori, Xori}
use Rattle.mips_definition.specs.declared.names.shift_name.ShiftName.{ShiftName}
use Rattle.mips_definition.specs.declared.names.load_name.LoadName.{LoadName}
use Rattle.mips_definition.specs.declared.names.load_name.LoadName.TheVariants.{Lb, Lh, Lwl, Lw, Lbu, Lhu, Lwr}
use Rattle.mips_definition.specs.declared.names.store_name.StoreName.{StoreName}
use Rattle.mips_definition.specs.declared.names.store_name.StoreName.TheVariants.{Sb, Sh, Swl, Sw, Swr}
use Rattle.mips_definition.specs.declared.names.product_name.ProductName.{ProductName}
use Rattle.mips_definition.specs.declared.names.trap_name.TrapName.{TrapName}
use Rattle.mips_definition.specs.declared.names.trap_name.TrapName.TheVariants.{Tge, Tgeu, Tlt, Tltu, Teq, Tne}
use Rattle.mips_definition.specs.declared.names.trap_immediate_name.TrapImmediateName.{TrapImmediateName}
use Rattle.mips_definition.specs.declared.names.trap_immediate_name.TrapImmediateName.TheVariants.{Tgei, Tgeiu, Tlti, Tltiu, Teqi, Tnei}
use Rattle.mips_definition.specs.declared.inst.Inst.{Inst}
use Rattle.mips_definition.specs.declared.inst.Inst.TheVariants as inst
use Rattle.jvm_definition.specs.declared.int_arithmetic.IntArithmetic.{IntArithmetic}
use Rattle.jvm_definition.specs.declared.int_arithmetic.IntArithmetic.TheVariants.{Iadd, Isub, Iand, Ior, Ixor}
use Rattle.jvm_definition.specs.declared.branch_name.BranchName.{BranchName}
use Rattle.jvm_definition.specs.declared.branch_name.BranchName.TheVariants.{Ifeq, Ifne, IfIcmplt}
use Rattle.jvm_definition.specs.declared.instruction.Instruction.TheVariants.{Nop, IntShift, Call}
use Rattle.emit_steps.specs.declared.step.Step.{Step}
use Rattle.emit_steps.specs.declared.step.Step.TheVariants.{Does}
use Rattle.emit_instructions.specs.Access.{get_register, get_turned, put_register, push_word, arithmetic, turned}
use Rattle.emit_instructions.specs.Faulting.{fault_code, trap_code, trap_with_code}
use Rattle.emit_instructions.specs.Computing.{moved_code, combined_code, combined_or_moved_code, nor_code, chosen_code, slt_code, sltu_code, add_code, sub_code, arithmetic_code, shift_name, shift_code, set_code, combined_with_code, joined_with_code, addi_code, slti_code, sltiu_code, arithmetic_immediate_code, logical_immediate_code, product_code}
use Rattle.emit_instructions.specs.Accessing.{address_code, access_code, load_code, store_code, call_code}
use Rattle.emit_instructions.specs.Helpers.{load_helper, store_helper, product_helper, load_linked_helper, store_conditional_helper}
use Rattle.emit_instructions.specs.Units.{instruction_code}
use Rattle.emit_paths_laws.specs.Paths.{weigh}
use Rattle.emit_simulation_laws.specs.Sites.{helper_weight, whole_weight}
use Rattle.emit_instructions_laws.specs.Counting.{Counts, SparesHelpers, words_read_by}
use Rattle.emit_instructions_laws.proofs.UnitCounts.Weights.{loud, code-either, get-quiet, put-quiet, quiet-counts, counts-behind, call-counts}
use Rattle.emit_instructions_laws.proofs.UnitCounts.Helpers.{HelperReads, load-counts, linked-counts, store-counts, conditional-counts, product-counts, load-number, store-number, product-number}

-- ---- code that counts nothing

abbrev Quiet : List Step → Type 0
Quiet code = weigh loud code ≡ 0

pub system-quiet : (bank : ℕ) → Quiet (call_code bank)
system-quiet bank =
    omega (arith, get-quiet bank 2, get-quiet bank 4, get-quiet bank 5, get-quiet bank 6, get-quiet bank 7, put-quiet bank 2)

-- of two registers

moved-quiet : (bank rs rd : ℕ) → Quiet (moved_code bank rs rd)
moved-quiet bank rs rd = omega (arith, get-quiet bank rs, put-quiet bank rd)

combined-quiet : (bank : ℕ) (name : IntArithmetic) (rs rt rd : ℕ) → Quiet (combined_code bank name rs rt rd)
combined-quiet bank name rs rt rd = omega (arith, get-quiet bank rs, get-quiet bank rt, put-quiet bank rd)

joined-quiet : (bank : ℕ) (name : IntArithmetic) (rs rt rd : ℕ) → Quiet (combined_or_moved_code bank name rs rt rd)
joined-quiet bank name rs rt rd =
    code-either (rt == 0) (moved_code bank rs rd) (combined_code bank name rs rt rd) (moved-quiet bank rs rd) (combined-quiet bank name rs rt rd)

nor-quiet : (bank rs rt rd : ℕ) → Quiet (nor_code bank rs rt rd)
nor-quiet bank rs rt rd = omega (arith, get-quiet bank rs, get-quiet bank rt, put-quiet bank rd)

chosen-quiet : (bank : ℕ) (test : BranchName) (rd : ℕ) → Quiet (chosen_code bank test rd)
chosen-quiet bank test rd = omega (arith, put-quiet bank rd)

slt-quiet : (bank rs rt rd : ℕ) → Quiet (slt_code bank rs rt rd)
slt-quiet bank rs rt rd = omega (arith, get-quiet bank rs, get-quiet bank rt, put-quiet bank rd)

sltu-quiet : (bank rs rt rd : ℕ) → Quiet (sltu_code bank rs rt rd)
sltu-quiet bank rs rt rd =
    code-either (rs == 0) (get_register bank rt ∷ chosen_code bank Ifne rd) (get_turned bank rs ++ get_turned bank rt ++ chosen_code bank IfIcmplt rd)
    (omega (arith, get-quiet bank rt, put-quiet bank rd))
    (omega (arith, get-quiet bank rs, get-quiet bank rt, put-quiet bank rd))

add-quiet : (bank rs rt rd at word : ℕ) → Quiet (add_code bank rs rt rd at word)
add-quiet bank rs rt rd at word = omega (arith, get-quiet bank rs, get-quiet bank rt, put-quiet bank rd)

sub-quiet : (bank rs rt rd at word : ℕ) → Quiet (sub_code bank rs rt rd at word)
sub-quiet bank rs rt rd at word = omega (arith, get-quiet bank rs, get-quiet bank rt, put-quiet bank rd)

arithmetic-quiet : (bank : ℕ) (name : ArithmeticName) (rs rt rd at word : ℕ) → Quiet (arithmetic_code bank name rs rt rd at word)
arithmetic-quiet bank names.Add rs rt rd at word = add-quiet bank rs rt rd at word
arithmetic-quiet bank names.Addu rs rt rd at word = joined-quiet bank Iadd rs rt rd
arithmetic-quiet bank names.Sub rs rt rd at word = sub-quiet bank rs rt rd at word
arithmetic-quiet bank names.Subu rs rt rd at word = combined-quiet bank Isub rs rt rd
arithmetic-quiet bank names.And rs rt rd at word = combined-quiet bank Iand rs rt rd
arithmetic-quiet bank names.Or rs rt rd at word = joined-quiet bank Ior rs rt rd
arithmetic-quiet bank names.Xor rs rt rd at word = combined-quiet bank Ixor rs rt rd
arithmetic-quiet bank names.Nor rs rt rd at word = nor-quiet bank rs rt rd
arithmetic-quiet bank names.Slt rs rt rd at word = slt-quiet bank rs rt rd
arithmetic-quiet bank names.Sltu rs rt rd at word = sltu-quiet bank rs rt rd

shift-quiet : (bank : ℕ) (name : ShiftName) (rt rd sa : ℕ) → Quiet (shift_code bank name rt rd sa)
shift-quiet bank name rt rd sa =
    let whole : List Step = get_register bank rt ∷ push_word sa ∷ Does (IntShift (shift_name name)) ∷ put_register bank rd ∷ [] in
    let quiet : Quiet whole = omega (arith, get-quiet bank rt, put-quiet bank rd) in
    code-either (rd == 0) (Does Nop ∷ []) (if sa == 0 then moved_code bank rt rd else whole) refl
    (code-either (sa == 0) (moved_code bank rt rd) whole (moved-quiet bank rt rd) quiet)

-- of a register and an immediate

joined-with-quiet : (bank : ℕ) (name : IntArithmetic) (rs w rt : ℕ) → Quiet (joined_with_code bank name rs w rt)
joined-with-quiet bank name rs w rt =
    code-either (rs == 0) (set_code bank w rt) (if w == 0 then moved_code bank rs rt else combined_with_code bank name rs w rt)
    (omega (arith, put-quiet bank rt))
    (code-either (w == 0) (moved_code bank rs rt) (combined_with_code bank name rs w rt) (moved-quiet bank rs rt)
    (omega (arith, get-quiet bank rs, put-quiet bank rt)))

addi-quiet : (bank rs w rt at word : ℕ) → Quiet (addi_code bank rs w rt at word)
addi-quiet bank rs w rt at word = omega (arith, get-quiet bank rs, put-quiet bank rt)

slti-quiet : (bank rs w rt : ℕ) → Quiet (slti_code bank rs w rt)
slti-quiet bank rs w rt = omega (arith, get-quiet bank rs, put-quiet bank rt)

sltiu-quiet : (bank rs w rt : ℕ) → Quiet (sltiu_code bank rs w rt)
sltiu-quiet bank rs w rt =
    code-either (w == 1) (get_register bank rs ∷ chosen_code bank Ifeq rt) (get_turned bank rs ++ push_word (turned w) ∷ chosen_code bank IfIcmplt rt)
    (omega (arith, get-quiet bank rs, put-quiet bank rt))
    (omega (arith, get-quiet bank rs, put-quiet bank rt))

immediate-quiet : (bank : ℕ) (name : ArithmeticImmediateName) (rs rt imm at word : ℕ) → Quiet (arithmetic_immediate_code bank name rs rt imm at word)
immediate-quiet bank Addi rs rt imm at word = addi-quiet bank rs (extended_imm imm) rt at word
immediate-quiet bank Addiu rs rt imm at word = joined-with-quiet bank Iadd rs (extended_imm imm) rt
immediate-quiet bank Slti rs rt imm at word = slti-quiet bank rs (extended_imm imm) rt
immediate-quiet bank Sltiu rs rt imm at word = sltiu-quiet bank rs (extended_imm imm) rt

logical-quiet : (bank : ℕ) (name : LogicalImmediateName) (rs rt imm : ℕ) → Quiet (logical_immediate_code bank name rs rt imm)
logical-quiet bank Andi rs rt imm = omega (arith, get-quiet bank rs, put-quiet bank rt)
logical-quiet bank Ori rs rt imm = joined-with-quiet bank Ior rs imm rt
logical-quiet bank Xori rs rt imm = omega (arith, get-quiet bank rs, put-quiet bank rt)

-- traps

trap-quiet : (bank : ℕ) (name : TrapName) (rs rt at word : ℕ) → Quiet (trap_code bank name rs rt at word)
trap-quiet bank Tge rs rt at word = omega (arith, get-quiet bank rs, get-quiet bank rt)
trap-quiet bank Tgeu rs rt at word = omega (arith, get-quiet bank rs, get-quiet bank rt)
trap-quiet bank Tlt rs rt at word = omega (arith, get-quiet bank rs, get-quiet bank rt)
trap-quiet bank Tltu rs rt at word = omega (arith, get-quiet bank rs, get-quiet bank rt)
trap-quiet bank Teq rs rt at word = omega (arith, get-quiet bank rs, get-quiet bank rt)
trap-quiet bank Tne rs rt at word = omega (arith, get-quiet bank rs, get-quiet bank rt)

trap-with-quiet : (bank : ℕ) (name : TrapImmediateName) (rs w at word : ℕ) → Quiet (trap_with_code bank name rs w at word)
trap-with-quiet bank Tgei rs w at word = omega (arith, get-quiet bank rs)
trap-with-quiet bank Tgeiu rs w at word = omega (arith, get-quiet bank rs)
trap-with-quiet bank Tlti rs w at word = omega (arith, get-quiet bank rs)
trap-with-quiet bank Tltiu rs w at word = omega (arith, get-quiet bank rs)
trap-with-quiet bank Teqi rs w at word = omega (arith, get-quiet bank rs)
trap-with-quiet bank Tnei rs w at word = omega (arith, get-quiet bank rs)

-- ---- code that calls a helper

address-quiet : (bank rs w : ℕ) → Quiet (address_code bank rs w)
address-quiet bank rs w =
    code-either (w == 0) (get_register bank rs ∷ []) (get_register bank rs ∷ push_word w ∷ arithmetic Iadd ∷ [])
    (omega (arith, get-quiet bank rs)) (omega (arith, get-quiet bank rs))

one-quiet : (bank r : ℕ) → Quiet (get_register bank r ∷ [])
one-quiet bank r = omega (arith, get-quiet bank r)

put-one-quiet : (bank r : ℕ) → Quiet (put_register bank r ∷ [])
put-one-quiet bank r = omega (arith, put-quiet bank r)

module _ (helpers : HelperReads) (is_span : ℕ → Bool) (spares : SparesHelpers is_span) (order : Order) (bank : ℕ) where
  -- an access, and code behind it that counts nothing
  access-counts : (n h rs imm at : ℕ) (behind : List Step) → h < 20 → Quiet behind → Counts is_span n 0 (λ weight. helper_weight order weight h) → Counts is_span n 0 (whole_weight order (access_code bank h rs imm at ++ behind))
  access-counts n h rs imm at behind below quiet c =
      let address = address_code bank rs (extended_imm imm) in
      subst (λ code. Counts is_span n 0 (whole_weight order code)) (sym (append_assoc address (push_word at ∷ Does (Call h) ∷ []) behind))
      (counts-behind is_span order n address (push_word at ∷ Does (Call h) ∷ behind) (address-quiet bank rs (extended_imm imm))
      (counts-behind is_span order n (push_word at ∷ []) (Does (Call h) ∷ behind) refl
      (call-counts is_span order n h behind (spares h below) quiet c)))

  -- a register is pushed before it
  pushed-access : (n h r rs imm at : ℕ) (behind : List Step) → h < 20 → Quiet behind → Counts is_span n 0 (λ weight. helper_weight order weight h) → Counts is_span n 0 (whole_weight order (get_register bank r ∷ (access_code bank h rs imm at ++ behind)))
  pushed-access n h r rs imm at behind below quiet c =
      counts-behind is_span order n (get_register bank r ∷ []) (access_code bank h rs imm at ++ behind) (one-quiet bank r)
      (access-counts n h rs imm at behind below quiet c)

  loads-count : (name : LoadName) (rs rt imm at : ℕ) → Counts is_span 1 0 (whole_weight order (load_code bank name rs rt imm at))
  loads-count Lb rs rt imm at = access-counts 1 (load_helper Lb) rs imm at (put_register bank rt ∷ []) (load-number Lb) (put-one-quiet bank rt) (load-counts helpers is_span spares order Lb)
  loads-count Lh rs rt imm at = access-counts 1 (load_helper Lh) rs imm at (put_register bank rt ∷ []) (load-number Lh) (put-one-quiet bank rt) (load-counts helpers is_span spares order Lh)
  loads-count Lw rs rt imm at = access-counts 1 (load_helper Lw) rs imm at (put_register bank rt ∷ []) (load-number Lw) (put-one-quiet bank rt) (load-counts helpers is_span spares order Lw)
  loads-count Lbu rs rt imm at = access-counts 1 (load_helper Lbu) rs imm at (put_register bank rt ∷ []) (load-number Lbu) (put-one-quiet bank rt) (load-counts helpers is_span spares order Lbu)
  loads-count Lhu rs rt imm at = access-counts 1 (load_helper Lhu) rs imm at (put_register bank rt ∷ []) (load-number Lhu) (put-one-quiet bank rt) (load-counts helpers is_span spares order Lhu)
  loads-count Lwl rs rt imm at = pushed-access 1 (load_helper Lwl) rt rs imm at (put_register bank rt ∷ []) (load-number Lwl) (put-one-quiet bank rt) (load-counts helpers is_span spares order Lwl)
  loads-count Lwr rs rt imm at = pushed-access 1 (load_helper Lwr) rt rs imm at (put_register bank rt ∷ []) (load-number Lwr) (put-one-quiet bank rt) (load-counts helpers is_span spares order Lwr)

  -- nothing stands behind a store
  store-by : (n h r rs imm at : ℕ) → h < 20 → Counts is_span n 0 (λ weight. helper_weight order weight h) → Counts is_span n 0 (whole_weight order (get_register bank r ∷ access_code bank h rs imm at))
  store-by n h r rs imm at below c =
      let address = address_code bank rs (extended_imm imm) in
      counts-behind is_span order n (get_register bank r ∷ []) (access_code bank h rs imm at) (one-quiet bank r)
      (counts-behind is_span order n address (push_word at ∷ Does (Call h) ∷ []) (address-quiet bank rs (extended_imm imm))
      (counts-behind is_span order n (push_word at ∷ []) (Does (Call h) ∷ []) refl
      (call-counts is_span order n h [] (spares h below) refl c)))

  stores-count : (name : StoreName) (rs rt imm at : ℕ) → Counts is_span (words_read_by (inst.Store name rs rt imm)) 0 (whole_weight order (store_code bank name rs rt imm at))
  stores-count Sb rs rt imm at = store-by 1 (store_helper Sb) rt rs imm at (store-number Sb) (store-counts helpers is_span spares order Sb)
  stores-count Sh rs rt imm at = store-by 1 (store_helper Sh) rt rs imm at (store-number Sh) (store-counts helpers is_span spares order Sh)
  stores-count Swl rs rt imm at = store-by 1 (store_helper Swl) rt rs imm at (store-number Swl) (store-counts helpers is_span spares order Swl)
  stores-count Sw rs rt imm at = store-by 0 (store_helper Sw) rt rs imm at (store-number Sw) (store-counts helpers is_span spares order Sw)
  stores-count Swr rs rt imm at = store-by 1 (store_helper Swr) rt rs imm at (store-number Swr) (store-counts helpers is_span spares order Swr)

  products-count : (name : ProductName) (rs rt : ℕ) → Counts is_span 0 0 (whole_weight order (product_code bank name rs rt))
  products-count name rs rt =
      counts-behind is_span order 0 (get_register bank rs ∷ get_register bank rt ∷ []) (Does (Call (product_helper name)) ∷ [])
      (omega (arith, get-quiet bank rs, get-quiet bank rt))
      (call-counts is_span order 0 (product_helper name) [] (spares (product_helper name) (product-number name)) refl
      (product-counts helpers is_span spares order name))

  -- ---- every instruction

  pub instruction-counts : (i : Inst) (at : ℕ) → Counts is_span (words_read_by i) 0 (whole_weight order (instruction_code bank i at))
  instruction-counts (inst.Arithmetic name rs rt rd) at = quiet-counts is_span order _ (arithmetic-quiet bank name rs rt rd at (word_of (inst.Arithmetic name rs rt rd)))
  instruction-counts (inst.VariableShift name rs rt rd) at = quiet-counts is_span order (instruction_code bank (inst.VariableShift name rs rt rd) at) (omega (arith, get-quiet bank rs, get-quiet bank rt, put-quiet bank rd))
  instruction-counts (inst.Shift name rt rd sa) at = quiet-counts is_span order (shift_code bank name rt rd sa) (shift-quiet bank name rt rd sa)
  instruction-counts (inst.Syscall code) at = quiet-counts is_span order (call_code bank) (system-quiet bank)
  instruction-counts (inst.Break code) at = quiet-counts is_span order (fault_code break_fault at code) refl
  instruction-counts (inst.MoveFrom name rd) at = quiet-counts is_span order (instruction_code bank (inst.MoveFrom name rd) at) (omega (arith, put-quiet bank rd))
  instruction-counts (inst.MoveTo name rs) at = quiet-counts is_span order (instruction_code bank (inst.MoveTo name rs) at) (omega (arith, get-quiet bank rs))
  instruction-counts (inst.Product name rs rt) at = products-count name rs rt
  instruction-counts (inst.ArithmeticImmediate name rs rt imm) at = quiet-counts is_span order _ (immediate-quiet bank name rs rt imm at (word_of (inst.ArithmeticImmediate name rs rt imm)))
  instruction-counts (inst.LogicalImmediate name rs rt imm) at = quiet-counts is_span order (logical_immediate_code bank name rs rt imm) (logical-quiet bank name rs rt imm)
  instruction-counts (inst.LoadUpper rt imm) at = quiet-counts is_span order (instruction_code bank (inst.LoadUpper rt imm) at) (omega (arith, put-quiet bank rt))
  instruction-counts (inst.Load name rs rt imm) at = loads-count name rs rt imm at
  instruction-counts (inst.Store name rs rt imm) at = stores-count name rs rt imm at
  instruction-counts (inst.Trap name rs rt code) at = quiet-counts is_span order _ (trap-quiet bank name rs rt at (word_of (inst.Trap name rs rt code)))
  instruction-counts (inst.TrapImmediate name rs imm) at = quiet-counts is_span order _ (trap-with-quiet bank name rs (extended_imm imm) at (word_of (inst.TrapImmediate name rs imm)))
  instruction-counts (inst.Sync sa) at = quiet-counts is_span order (Does Nop ∷ []) refl
  instruction-counts (inst.LoadLinked rs rt imm) at =
      access-counts 1 load_linked_helper rs imm at (put_register bank rt ∷ []) (lit< tt) (put-one-quiet bank rt) (linked-counts helpers is_span spares order)
  instruction-counts (inst.StoreConditional rs rt imm) at =
      pushed-access 0 store_conditional_helper rt rs imm at (put_register bank rt ∷ []) (lit< tt) (put-one-quiet bank rt) (conditional-counts helpers is_span spares order)
  instruction-counts (inst.Reserved word) at = quiet-counts is_span order (fault_code reserved_fault at word) refl
  instruction-counts _ at = quiet-counts is_span order [] refl
