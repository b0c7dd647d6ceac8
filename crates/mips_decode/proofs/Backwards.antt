-- The word of a word's instruction is the word again.
use Rattle.std.proofs.Common.{◌≡◌, ℕ, ◌-◌, ◌/◌, ◌%◌, ◌^◌, ◌==◌, Bool, true, false, cond, ◌||◌, if◌then◌else◌, Option, Some, List, [], ◌∷◌, refl, sym, ap, ◌∙◌, arith}
use Rattle.std.specs.Prelude.{find, bit_and}
use Rattle.std.proofs.lemmas.Bool.{eqb-true}
use Rattle.std.proofs.lemmas.Nat.{and_mod, and_mask}
use Rattle.std.proofs.Math.Nat.{mod-mod}
use Rattle.run_definition.specs.Words.{IsWord}
use Rattle.mips_definition.specs.declared.inst.Inst.TheVariants.{Reserved, Float}
use Rattle.mips_definition.specs.declared.names.arithmetic_name.ArithmeticName.{ArithmeticName}
use Rattle.mips_definition.specs.declared.names.arithmetic_name.ArithmeticName.TheVariants.{Add, Addu, Sub, Subu, And, Or, Xor, Nor, Slt, Sltu}
use Rattle.mips_definition.specs.declared.names.variable_shift_name.VariableShiftName.{VariableShiftName}
use Rattle.mips_definition.specs.declared.names.variable_shift_name.VariableShiftName.TheVariants.{Sllv, Srlv, Srav}
use Rattle.mips_definition.specs.declared.names.shift_name.ShiftName.{ShiftName}
use Rattle.mips_definition.specs.declared.names.shift_name.ShiftName.TheVariants.{Sll, Srl, Sra}
use Rattle.mips_definition.specs.declared.names.hi_lo.HiLo.{HiLo}
use Rattle.mips_definition.specs.declared.names.hi_lo.HiLo.TheVariants.{Hi, Lo}
use Rattle.mips_definition.specs.declared.names.product_name.ProductName.{ProductName}
use Rattle.mips_definition.specs.declared.names.product_name.ProductName.TheVariants.{Mult, Multu, Div, Divu}
use Rattle.mips_definition.specs.declared.names.branch_sign_name.BranchSignName.{BranchSignName}
use Rattle.mips_definition.specs.declared.names.branch_sign_name.BranchSignName.TheVariants.{Bltz, Bgez, Bltzal, Bgezal, Bltzl, Bgezl, Bltzall, Bgezall}
use Rattle.mips_definition.specs.declared.names.jump_name.JumpName.{JumpName}
use Rattle.mips_definition.specs.declared.names.jump_name.JumpName.TheVariants.{J, Jal}
use Rattle.mips_definition.specs.declared.names.branch_equal_name.BranchEqualName.{BranchEqualName}
use Rattle.mips_definition.specs.declared.names.branch_equal_name.BranchEqualName.TheVariants.{Beq, Bne, Beql, Bnel}
use Rattle.mips_definition.specs.declared.names.branch_zero_name.BranchZeroName.{BranchZeroName}
use Rattle.mips_definition.specs.declared.names.branch_zero_name.BranchZeroName.TheVariants.{Blez, Bgtz, Blezl, Bgtzl}
use Rattle.mips_definition.specs.declared.names.arithmetic_immediate_name.ArithmeticImmediateName.{ArithmeticImmediateName}
use Rattle.mips_definition.specs.declared.names.arithmetic_immediate_name.ArithmeticImmediateName.TheVariants.{Addi, Addiu, Slti, Sltiu}
use Rattle.mips_definition.specs.declared.names.logical_immediate_name.LogicalImmediateName.{LogicalImmediateName}
use Rattle.mips_definition.specs.declared.names.logical_immediate_name.LogicalImmediateName.TheVariants.{Andi, Ori, Xori}
use Rattle.mips_definition.specs.declared.names.load_name.LoadName.{LoadName}
use Rattle.mips_definition.specs.declared.names.load_name.LoadName.TheVariants.{Lb, Lh, Lwl, Lw, Lbu, Lhu, Lwr}
use Rattle.mips_definition.specs.declared.names.store_name.StoreName.{StoreName}
use Rattle.mips_definition.specs.declared.names.store_name.StoreName.TheVariants.{Sb, Sh, Swl, Sw, Swr}
use Rattle.mips_definition.specs.declared.names.trap_name.TrapName.{TrapName}
use Rattle.mips_definition.specs.declared.names.trap_name.TrapName.TheVariants.{Tge, Tgeu, Tlt, Tltu, Teq, Tne}
use Rattle.mips_definition.specs.declared.names.trap_immediate_name.TrapImmediateName.{TrapImmediateName}
use Rattle.mips_definition.specs.declared.names.trap_immediate_name.TrapImmediateName.TheVariants.{Tgei, Tgeiu, Tlti, Tltiu, Teqi, Tnei}
use Rattle.mips_definition.specs.Table.{Row, instruction_table, fits_row, read_row, inst, op_of, rs_of, rt_of, rd_of, sa_of, funct_of, arithmetic, variable_shift, shift, jump_register, jump_and_link_register, syscall, break, move_from, move_to, product, branch_sign, jump, branch_equal, branch_zero, arithmetic_immediate, logical_immediate, load_upper, load, store, trap, trap_immediate, sync, load_linked, store_conditional}
use Rattle.mips_decode.specs.Encoding.{word_of, arithmetic_funct, variable_shift_funct, shift_funct, move_from_funct, move_to_funct, product_funct, branch_sign_rt, jump_op, branch_equal_op, branch_zero_op, arithmetic_immediate_op, logical_immediate_op, load_op, store_op, trap_funct, trap_immediate_rt}
use Rattle.mips_decode.proofs.Rows.{and_field}

-- where the mask takes a whole field, the word has the value's field
field_from_fit : (w m v at n : ℕ) → bit_and w m ≡ v → m / 2 ^ at % 2 ^ n ≡ 2 ^ n - 1 → w / 2 ^ at % 2 ^ n ≡ v / 2 ^ at % 2 ^ n
field_from_fit w m v at n e whole =
    sym (mod-mod (w / 2 ^ at) (2 ^ n)) ∙ sym (and_mask (w / 2 ^ at % 2 ^ n) n) ∙ ap (bit_and (w / 2 ^ at % 2 ^ n)) (sym whole)
    ∙ sym (and_field w m at n) ∙ ap (λ (x : ℕ). x / 2 ^ at % 2 ^ n) e

-- what a word that fits a row has in the fields of the row's mask
record Agrees (w : ℕ) (row : Row) : Type 0 where
  op : op_of row.mask ≡ 63 → op_of w ≡ op_of row.value
  rs : rs_of row.mask ≡ 31 → rs_of w ≡ rs_of row.value
  rt : rt_of row.mask ≡ 31 → rt_of w ≡ rt_of row.value
  rd : rd_of row.mask ≡ 31 → rd_of w ≡ rd_of row.value
  sa : sa_of row.mask ≡ 31 → sa_of w ≡ sa_of row.value
  funct : funct_of row.mask ≡ 63 → funct_of w ≡ funct_of row.value

agrees : (w : ℕ) (row : Row) → fits_row w row ≡ true → Agrees w row
agrees w row fit = let e = eqb-true (bit_and w row.mask) row.value fit in record {
  op = λ whole. field_from_fit w row.mask row.value 26 6 e whole;
  rs = λ whole. field_from_fit w row.mask row.value 21 5 e whole;
  rt = λ whole. field_from_fit w row.mask row.value 16 5 e whole;
  rd = λ whole. field_from_fit w row.mask row.value 11 5 e whole;
  sa = λ whole. field_from_fit w row.mask row.value 6 5 e whole;
  funct = λ whole. sym (mod-mod w (2 ^ 6)) ∙ sym (and_mask (w % 2 ^ 6) 6) ∙ ap (bit_and (w % 2 ^ 6)) (sym whole)
      ∙ sym (and_mod w row.mask 6) ∙ ap funct_of e;
}

-- ---- form by form: the word of the form's instruction, where the fields that it does not keep are as they must be
arithmetic_back : (name : ArithmeticName) (w : ℕ) → IsWord w → op_of w ≡ 0 → funct_of w ≡ arithmetic_funct name → sa_of w ≡ 0
    → word_of (arithmetic name w) ≡ w
arithmetic_back name w word a b c = omega arith

variable_shift_back : (name : VariableShiftName) (w : ℕ) → IsWord w → op_of w ≡ 0 → funct_of w ≡ variable_shift_funct name → sa_of w ≡ 0
    → word_of (variable_shift name w) ≡ w
variable_shift_back name w word a b c = omega arith

shift_back : (name : ShiftName) (w : ℕ) → IsWord w → op_of w ≡ 0 → funct_of w ≡ shift_funct name → rs_of w ≡ 0
    → word_of (shift name w) ≡ w
shift_back name w word a b c = omega arith

jump_register_back : (w : ℕ) → IsWord w → op_of w ≡ 0 → funct_of w ≡ 0x08 → rt_of w ≡ 0 → rd_of w ≡ 0 → sa_of w ≡ 0
    → word_of (jump_register w) ≡ w
jump_register_back w word a b c d e = omega arith

jump_and_link_register_back : (w : ℕ) → IsWord w → op_of w ≡ 0 → funct_of w ≡ 0x09 → rt_of w ≡ 0 → sa_of w ≡ 0
    → word_of (jump_and_link_register w) ≡ w
jump_and_link_register_back w word a b c d = omega arith

syscall_back : (w : ℕ) → IsWord w → op_of w ≡ 0 → funct_of w ≡ 0x0C
    → word_of (syscall w) ≡ w
syscall_back w word a b = omega arith

break_back : (w : ℕ) → IsWord w → op_of w ≡ 0 → funct_of w ≡ 0x0D
    → word_of (break w) ≡ w
break_back w word a b = omega arith

move_from_back : (name : HiLo) (w : ℕ) → IsWord w → op_of w ≡ 0 → funct_of w ≡ move_from_funct name → rs_of w ≡ 0 → rt_of w ≡ 0 → sa_of w ≡ 0
    → word_of (move_from name w) ≡ w
move_from_back name w word a b c d e = omega arith

move_to_back : (name : HiLo) (w : ℕ) → IsWord w → op_of w ≡ 0 → funct_of w ≡ move_to_funct name → rt_of w ≡ 0 → rd_of w ≡ 0 → sa_of w ≡ 0
    → word_of (move_to name w) ≡ w
move_to_back name w word a b c d e = omega arith

product_back : (name : ProductName) (w : ℕ) → IsWord w → op_of w ≡ 0 → funct_of w ≡ product_funct name → rd_of w ≡ 0 → sa_of w ≡ 0
    → word_of (product name w) ≡ w
product_back name w word a b c d = omega arith

branch_sign_back : (name : BranchSignName) (w : ℕ) → IsWord w → op_of w ≡ 1 → rt_of w ≡ branch_sign_rt name
    → word_of (branch_sign name w) ≡ w
branch_sign_back name w word a b = omega arith

jump_back : (name : JumpName) (w : ℕ) → IsWord w → op_of w ≡ jump_op name
    → word_of (jump name w) ≡ w
jump_back name w word a = omega arith

branch_equal_back : (name : BranchEqualName) (w : ℕ) → IsWord w → op_of w ≡ branch_equal_op name
    → word_of (branch_equal name w) ≡ w
branch_equal_back name w word a = omega arith

branch_zero_back : (name : BranchZeroName) (w : ℕ) → IsWord w → op_of w ≡ branch_zero_op name → rt_of w ≡ 0
    → word_of (branch_zero name w) ≡ w
branch_zero_back name w word a b = omega arith

arithmetic_immediate_back : (name : ArithmeticImmediateName) (w : ℕ) → IsWord w → op_of w ≡ arithmetic_immediate_op name
    → word_of (arithmetic_immediate name w) ≡ w
arithmetic_immediate_back name w word a = omega arith

logical_immediate_back : (name : LogicalImmediateName) (w : ℕ) → IsWord w → op_of w ≡ logical_immediate_op name
    → word_of (logical_immediate name w) ≡ w
logical_immediate_back name w word a = omega arith

load_upper_back : (w : ℕ) → IsWord w → op_of w ≡ 0x0F → rs_of w ≡ 0
    → word_of (load_upper w) ≡ w
load_upper_back w word a b = omega arith

load_back : (name : LoadName) (w : ℕ) → IsWord w → op_of w ≡ load_op name
    → word_of (load name w) ≡ w
load_back name w word a = omega arith

store_back : (name : StoreName) (w : ℕ) → IsWord w → op_of w ≡ store_op name
    → word_of (store name w) ≡ w
store_back name w word a = omega arith

trap_back : (name : TrapName) (w : ℕ) → IsWord w → op_of w ≡ 0 → funct_of w ≡ trap_funct name
    → word_of (trap name w) ≡ w
trap_back name w word a b = omega arith

trap_immediate_back : (name : TrapImmediateName) (w : ℕ) → IsWord w → op_of w ≡ 1 → rt_of w ≡ trap_immediate_rt name
    → word_of (trap_immediate name w) ≡ w
trap_immediate_back name w word a b = omega arith

sync_back : (w : ℕ) → IsWord w → op_of w ≡ 0 → funct_of w ≡ 0x0F → rs_of w ≡ 0 → rt_of w ≡ 0 → rd_of w ≡ 0
    → word_of (sync w) ≡ w
sync_back w word a b c d e = omega arith

load_linked_back : (w : ℕ) → IsWord w → op_of w ≡ 0x30
    → word_of (load_linked w) ≡ w
load_linked_back w word a = omega arith

store_conditional_back : (w : ℕ) → IsWord w → op_of w ≡ 0x38
    → word_of (store_conditional w) ≡ w
store_conditional_back w word a = omega arith

-- every row gives the word back
abbrev EachBack : ℕ → List Row → Type 0
EachBack w [] = Unit {0}
EachBack w (row ∷ rows) = (Agrees w row → word_of (row.read w) ≡ w) × EachBack w rows

table_back : (w : ℕ) → IsWord w → EachBack w instruction_table
table_back w word = (
  λ a. variable_shift_back Sllv w word (a.op refl) (a.funct refl) (a.sa refl),
  (
    λ a. variable_shift_back Srlv w word (a.op refl) (a.funct refl) (a.sa refl),
    (
      λ a. variable_shift_back Srav w word (a.op refl) (a.funct refl) (a.sa refl),
      (
        λ a. arithmetic_back Add w word (a.op refl) (a.funct refl) (a.sa refl),
        (
          λ a. arithmetic_back Addu w word (a.op refl) (a.funct refl) (a.sa refl),
          (
            λ a. arithmetic_back Sub w word (a.op refl) (a.funct refl) (a.sa refl),
            (
              λ a. arithmetic_back Subu w word (a.op refl) (a.funct refl) (a.sa refl),
              (
                λ a. arithmetic_back And w word (a.op refl) (a.funct refl) (a.sa refl),
                (
                  λ a. arithmetic_back Or w word (a.op refl) (a.funct refl) (a.sa refl),
                  (
                    λ a. arithmetic_back Xor w word (a.op refl) (a.funct refl) (a.sa refl),
                    (
                      λ a. arithmetic_back Nor w word (a.op refl) (a.funct refl) (a.sa refl),
                      (
                        λ a. arithmetic_back Slt w word (a.op refl) (a.funct refl) (a.sa refl),
                        (
                          λ a. arithmetic_back Sltu w word (a.op refl) (a.funct refl) (a.sa refl),
                          (
                            λ a. shift_back Sll w word (a.op refl) (a.funct refl) (a.rs refl),
                            (
                              λ a. shift_back Srl w word (a.op refl) (a.funct refl) (a.rs refl),
                              (
                                λ a. shift_back Sra w word (a.op refl) (a.funct refl) (a.rs refl),
                                (
                                  λ a. jump_register_back w word (a.op refl) (a.funct refl) (a.rt refl) (a.rd refl) (a.sa refl),
                                  (
                                    λ a. jump_and_link_register_back w word (a.op refl) (a.funct refl) (a.rt refl) (a.sa refl),
                                    (
                                      λ a. syscall_back w word (a.op refl) (a.funct refl),
                                      (
                                        λ a. break_back w word (a.op refl) (a.funct refl),
                                        (
                                          λ a. sync_back w word (a.op refl) (a.funct refl) (a.rs refl) (a.rt refl) (a.rd refl),
                                          (
                                            λ a. move_from_back Hi w word (a.op refl) (a.funct refl) (a.rs refl) (a.rt refl) (a.sa refl),
                                            (
                                              λ a. move_from_back Lo w word (a.op refl) (a.funct refl) (a.rs refl) (a.rt refl) (a.sa refl),
                                              (
                                                λ a. move_to_back Hi w word (a.op refl) (a.funct refl) (a.rt refl) (a.rd refl) (a.sa refl),
                                                (
                                                  λ a. move_to_back Lo w word (a.op refl) (a.funct refl) (a.rt refl) (a.rd refl) (a.sa refl),
                                                  (
                                                    λ a. product_back Mult w word (a.op refl) (a.funct refl) (a.rd refl) (a.sa refl),
                                                    (
                                                      λ a. product_back Multu w word (a.op refl) (a.funct refl) (a.rd refl) (a.sa refl),
                                                      (
                                                        λ a. product_back Div w word (a.op refl) (a.funct refl) (a.rd refl) (a.sa refl),
                                                        (
                                                          λ a. product_back Divu w word (a.op refl) (a.funct refl) (a.rd refl) (a.sa refl),
                                                          (
                                                            λ a. trap_back Tge w word (a.op refl) (a.funct refl),
                                                            (
                                                              λ a. trap_back Tgeu w word (a.op refl) (a.funct refl),
                                                              (
                                                                λ a. trap_back Tlt w word (a.op refl) (a.funct refl),
                                                                (
                                                                  λ a. trap_back Tltu w word (a.op refl) (a.funct refl),
                                                                  (
                                                                    λ a. trap_back Teq w word (a.op refl) (a.funct refl),
                                                                    (
                                                                      λ a. trap_back Tne w word (a.op refl) (a.funct refl),
                                                                      (
                                                                        λ a. branch_sign_back Bltz w word (a.op refl) (a.rt refl),
                                                                        (
                                                                          λ a. branch_sign_back Bgez w word (a.op refl) (a.rt refl),
                                                                          (
                                                                            λ a. branch_sign_back Bltzal w word (a.op refl) (a.rt refl),
                                                                            (
                                                                              λ a. branch_sign_back Bgezal w word (a.op refl) (a.rt refl),
                                                                              (
                                                                                λ a. branch_sign_back Bltzl w word (a.op refl) (a.rt refl),
                                                                                (
                                                                                  λ a. branch_sign_back Bgezl w word (a.op refl) (a.rt refl),
                                                                                  (
                                                                                    λ a. branch_sign_back Bltzall w word (a.op refl) (a.rt refl),
                                                                                    (
                                                                                      λ a. branch_sign_back Bgezall w word (a.op refl) (a.rt refl),
                                                                                      (
                                                                                        λ a. trap_immediate_back Tgei w word (a.op refl) (a.rt refl),
                                                                                        (
                                                                                          λ a. trap_immediate_back Tgeiu w word (a.op refl) (a.rt refl),
                                                                                          (
                                                                                            λ a. trap_immediate_back Tlti w word (a.op refl) (a.rt refl),
                                                                                            (
                                                                                              λ a. trap_immediate_back Tltiu w word (a.op refl) (a.rt refl),
                                                                                              (
                                                                                                λ a. trap_immediate_back Teqi w word (a.op refl) (a.rt refl),
                                                                                                (
                                                                                                  λ a. trap_immediate_back Tnei w word (a.op refl) (a.rt refl),
                                                                                                  (
                                                                                                    λ a. jump_back J w word (a.op refl),
                                                                                                    (
                                                                                                      λ a. jump_back Jal w word (a.op refl),
                                                                                                      (
                                                                                                        λ a. branch_equal_back Beq w word (a.op refl),
                                                                                                        (
                                                                                                          λ a. branch_equal_back Bne w word (a.op refl),
                                                                                                          (
                                                                                                            λ a. branch_equal_back Beql w word (a.op refl),
                                                                                                            (
                                                                                                              λ a. branch_equal_back Bnel w word (a.op refl),
                                                                                                              (
                                                                                                                λ a. arithmetic_immediate_back Addi w word (a.op refl),
                                                                                                                (
                                                                                                                  λ a. arithmetic_immediate_back Addiu w word (a.op refl),
                                                                                                                  (
                                                                                                                    λ a. arithmetic_immediate_back Slti w word (a.op refl),
                                                                                                                    (
                                                                                                                      λ a. arithmetic_immediate_back Sltiu w word (a.op refl),
                                                                                                                      (
                                                                                                                        λ a. logical_immediate_back Andi w word (a.op refl),
                                                                                                                        (
                                                                                                                          λ a. logical_immediate_back Ori w word (a.op refl),
                                                                                                                          (
                                                                                                                            λ a. logical_immediate_back Xori w word (a.op refl),
                                                                                                                            (
                                                                                                                              λ a. branch_zero_back Blez w word (a.op refl) (a.rt refl),
                                                                                                                              (
                                                                                                                                λ a. branch_zero_back Bgtz w word (a.op refl) (a.rt refl),
                                                                                                                                (
                                                                                                                                  λ a. branch_zero_back Blezl w word (a.op refl) (a.rt refl),
                                                                                                                                  (
                                                                                                                                    λ a. branch_zero_back Bgtzl w word (a.op refl) (a.rt refl),
                                                                                                                                    (
                                                                                                                                      λ a. load_upper_back w word (a.op refl) (a.rs refl),
                                                                                                                                      (
                                                                                                                                        λ a. load_back Lb w word (a.op refl),
                                                                                                                                        (
                                                                                                                                          λ a. load_back Lh w word (a.op refl),
                                                                                                                                          (
                                                                                                                                            λ a. load_back Lwl w word (a.op refl),
                                                                                                                                            (
                                                                                                                                              λ a. load_back Lw w word (a.op refl),
                                                                                                                                              (
                                                                                                                                                λ a. load_back Lbu w word (a.op refl),
                                                                                                                                                (
                                                                                                                                                  λ a. load_back Lhu w word (a.op refl),
                                                                                                                                                  (
                                                                                                                                                    λ a. load_back Lwr w word (a.op refl),
                                                                                                                                                    (
                                                                                                                                                      λ a. store_back Sb w word (a.op refl),
                                                                                                                                                      (
                                                                                                                                                        λ a. store_back Sh w word (a.op refl),
                                                                                                                                                        (
                                                                                                                                                          λ a. store_back Swl w word (a.op refl),
                                                                                                                                                          (
                                                                                                                                                            λ a. store_back Sw w word (a.op refl),
                                                                                                                                                            (
                                                                                                                                                              λ a. store_back Swr w word (a.op refl),
                                                                                                                                                              (
                                                                                                                                                                λ a. load_linked_back w word (a.op refl),
                                                                                                                                                                (
                                                                                                                                                                  λ a. store_conditional_back w word (a.op refl),
                                                                                                                                                                  tt,
                                                                                                                                                                ),
                                                                                                                                                              ),
                                                                                                                                                            ),
                                                                                                                                                          ),
                                                                                                                                                        ),
                                                                                                                                                      ),
                                                                                                                                                    ),
                                                                                                                                                  ),
                                                                                                                                                ),
                                                                                                                                              ),
                                                                                                                                            ),
                                                                                                                                          ),
                                                                                                                                        ),
                                                                                                                                      ),
                                                                                                                                    ),
                                                                                                                                  ),
                                                                                                                                ),
                                                                                                                              ),
                                                                                                                            ),
                                                                                                                          ),
                                                                                                                        ),
                                                                                                                      ),
                                                                                                                    ),
                                                                                                                  ),
                                                                                                                ),
                                                                                                              ),
                                                                                                            ),
                                                                                                          ),
                                                                                                        ),
                                                                                                      ),
                                                                                                    ),
                                                                                                  ),
                                                                                                ),
                                                                                              ),
                                                                                            ),
                                                                                          ),
                                                                                        ),
                                                                                      ),
                                                                                    ),
                                                                                  ),
                                                                                ),
                                                                              ),
                                                                            ),
                                                                          ),
                                                                        ),
                                                                      ),
                                                                    ),
                                                                  ),
                                                                ),
                                                              ),
                                                            ),
                                                          ),
                                                        ),
                                                      ),
                                                    ),
                                                  ),
                                                ),
                                              ),
                                            ),
                                          ),
                                        ),
                                      ),
                                    ),
                                  ),
                                ),
                              ),
                            ),
                          ),
                        ),
                      ),
                    ),
                  ),
                ),
              ),
            ),
          ),
        ),
      ),
    ),
  ),
)

one_back : (w : ℕ) (row : Row) (found : Option Row) → (Agrees w row → word_of (row.read w) ≡ w) → word_of (read_row w found) ≡ w
    → (here : Bool) → fits_row w row ≡ here → word_of (read_row w (cond here (Some row) found)) ≡ w
one_back w row found back rest true fit = back (agrees w row fit)
one_back w row found back rest false fit = rest

no_row_back : (w : ℕ) (float : Bool) → word_of (if float then Float w else Reserved w) ≡ w
no_row_back w true = refl
no_row_back w false = refl

first_back : (w : ℕ) (rows : List Row) → EachBack w rows → word_of (read_row w (find (fits_row w) rows)) ≡ w
first_back w [] each = no_row_back w (op_of w == 0x11 || op_of w == 0x31 || op_of w == 0x39)
first_back w (row ∷ rows) each = one_back w row (find (fits_row w) rows) each.0 (first_back w rows each.1) (fits_row w row) refl

-- the word of a word's instruction
pub word_of-inst : (w : ℕ) → IsWord w → word_of (inst w) ≡ w
unfolding inst
word_of-inst w word = first_back w instruction_table (table_back w word)
