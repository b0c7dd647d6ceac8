-- The mnemonics, in lower case.
use Rattle.std.specs.Prelude.{ℕ, ◌++◌, List, [], ◌∷◌, find, Option, bytes_eq, codes}
use Rattle.asm_lines.specs.declared.mnemonic.Mnemonic.{Mnemonic}
use Rattle.asm_lines.specs.declared.mnemonic.Mnemonic.TheVariants.{Arithmetic, VariableShift, Shift, JumpRegister, JumpAndLinkRegister, Syscall, Break, MoveFrom, MoveTo, Product, BranchSign, Jump, BranchEqual, BranchZero, ArithmeticImmediate, LogicalImmediate, LoadUpper, Load, Store, Trap, TrapImmediate, Sync, LoadLinked, StoreConditional}
use Rattle.mips_definition.specs.Mnemonics.{arithmetic_text, variable_shift_text, shift_text, hi_lo_text, product_text, branch_sign_text, jump_text, branch_equal_text, branch_zero_text, arithmetic_immediate_text, logical_immediate_text, load_text, store_text, trap_text, trap_immediate_text}
use Rattle.mips_definition.specs.declared.names.arithmetic_name.ArithmeticName.TheVariants.{Add, Addu, Sub, Subu, And, Or, Xor, Nor, Slt, Sltu}
use Rattle.mips_definition.specs.declared.names.variable_shift_name.VariableShiftName.TheVariants.{Sllv, Srlv, Srav}
use Rattle.mips_definition.specs.declared.names.shift_name.ShiftName.TheVariants.{Sll, Srl, Sra}
use Rattle.mips_definition.specs.declared.names.hi_lo.HiLo.TheVariants.{Hi, Lo}
use Rattle.mips_definition.specs.declared.names.product_name.ProductName.TheVariants.{Mult, Multu, Div, Divu}
use Rattle.mips_definition.specs.declared.names.branch_sign_name.BranchSignName.TheVariants.{Bltz, Bgez, Bltzal, Bgezal, Bltzl, Bgezl, Bltzall, Bgezall}
use Rattle.mips_definition.specs.declared.names.jump_name.JumpName.TheVariants.{J, Jal}
use Rattle.mips_definition.specs.declared.names.branch_equal_name.BranchEqualName.TheVariants.{Beq, Bne, Beql, Bnel}
use Rattle.mips_definition.specs.declared.names.branch_zero_name.BranchZeroName.TheVariants.{Blez, Bgtz, Blezl, Bgtzl}
use Rattle.mips_definition.specs.declared.names.arithmetic_immediate_name.ArithmeticImmediateName.TheVariants.{Addi, Addiu, Slti, Sltiu}
use Rattle.mips_definition.specs.declared.names.logical_immediate_name.LogicalImmediateName.TheVariants.{Andi, Ori, Xori}
use Rattle.mips_definition.specs.declared.names.load_name.LoadName.TheVariants.{Lb, Lh, Lwl, Lw, Lbu, Lhu, Lwr}
use Rattle.mips_definition.specs.declared.names.store_name.StoreName.TheVariants.{Sb, Sh, Swl, Sw, Swr}
use Rattle.mips_definition.specs.declared.names.trap_name.TrapName.TheVariants.{Tge, Tgeu, Tlt, Tltu, Teq, Tne}
use Rattle.mips_definition.specs.declared.names.trap_immediate_name.TrapImmediateName.TheVariants.{Tgei, Tgeiu, Tlti, Tltiu, Teqi, Tnei}

-- the text of a mnemonic
abbrev pub mnemonic_text : Mnemonic → List ℕ
mnemonic_text (Arithmetic name) = arithmetic_text name
mnemonic_text (VariableShift name) = variable_shift_text name
mnemonic_text (Shift name) = shift_text name
mnemonic_text JumpRegister = codes "jr"
mnemonic_text JumpAndLinkRegister = codes "jalr"
mnemonic_text Syscall = codes "syscall"
mnemonic_text Break = codes "break"
mnemonic_text (MoveFrom name) = codes "mf" ++ hi_lo_text name
mnemonic_text (MoveTo name) = codes "mt" ++ hi_lo_text name
mnemonic_text (Product name) = product_text name
mnemonic_text (BranchSign name) = branch_sign_text name
mnemonic_text (Jump name) = jump_text name
mnemonic_text (BranchEqual name) = branch_equal_text name
mnemonic_text (BranchZero name) = branch_zero_text name
mnemonic_text (ArithmeticImmediate name) = arithmetic_immediate_text name
mnemonic_text (LogicalImmediate name) = logical_immediate_text name
mnemonic_text LoadUpper = codes "lui"
mnemonic_text (Load name) = load_text name
mnemonic_text (Store name) = store_text name
mnemonic_text (Trap name) = trap_text name
mnemonic_text (TrapImmediate name) = trap_immediate_text name
mnemonic_text Sync = codes "sync"
mnemonic_text LoadLinked = codes "ll"
mnemonic_text StoreConditional = codes "sc"

abbrev pub mnemonics : List Mnemonic
mnemonics = Arithmetic Add ∷ Arithmetic Addu ∷ Arithmetic Sub ∷ Arithmetic Subu ∷ Arithmetic And
    ∷ Arithmetic Or
    ∷ Arithmetic Xor ∷ Arithmetic Nor ∷ Arithmetic Slt ∷ Arithmetic Sltu
    ∷ VariableShift Sllv ∷ VariableShift Srlv ∷ VariableShift Srav ∷ Shift Sll ∷ Shift Srl
    ∷ Shift Sra
    ∷ JumpRegister ∷ JumpAndLinkRegister ∷ Syscall ∷ Break ∷ MoveFrom Hi ∷ MoveFrom Lo ∷ MoveTo Hi
    ∷ MoveTo Lo
    ∷ Product Mult ∷ Product Multu ∷ Product Div ∷ Product Divu
    ∷ BranchSign Bltz ∷ BranchSign Bgez ∷ BranchSign Bltzal ∷ BranchSign Bgezal
    ∷ BranchSign Bltzl ∷ BranchSign Bgezl ∷ BranchSign Bltzall ∷ BranchSign Bgezall ∷ Jump J
    ∷ Jump Jal
    ∷ BranchEqual Beq ∷ BranchEqual Bne ∷ BranchEqual Beql ∷ BranchEqual Bnel
    ∷ BranchZero Blez ∷ BranchZero Bgtz ∷ BranchZero Blezl ∷ BranchZero Bgtzl
    ∷ ArithmeticImmediate Addi ∷ ArithmeticImmediate Addiu ∷ ArithmeticImmediate Slti
    ∷ ArithmeticImmediate Sltiu
    ∷ LogicalImmediate Andi ∷ LogicalImmediate Ori ∷ LogicalImmediate Xori ∷ LoadUpper
    ∷ Load Lb ∷ Load Lh ∷ Load Lwl ∷ Load Lw ∷ Load Lbu ∷ Load Lhu ∷ Load Lwr
    ∷ Store Sb ∷ Store Sh ∷ Store Swl ∷ Store Sw ∷ Store Swr
    ∷ Trap Tge ∷ Trap Tgeu ∷ Trap Tlt ∷ Trap Tltu ∷ Trap Teq ∷ Trap Tne
    ∷ TrapImmediate Tgei ∷ TrapImmediate Tgeiu ∷ TrapImmediate Tlti ∷ TrapImmediate Tltiu
    ∷ TrapImmediate Teqi ∷ TrapImmediate Tnei
    ∷ Sync ∷ LoadLinked ∷ StoreConditional ∷ []

-- the first of these mnemonics that has a text
abbrev pub mnemonic_among : List Mnemonic → List ℕ → Option Mnemonic
mnemonic_among ms word = find (λ m. bytes_eq (mnemonic_text m) word) ms

-- the mnemonic that a word is
abbrev pub mnemonic_of : List ℕ → Option Mnemonic
mnemonic_of word = mnemonic_among mnemonics word
