-- The forms of operands, and the word that an instruction's line stands for.
use Rattle.std.specs.Prelude.{ℕ, List, [], ◌∷◌, Result, Ok, Err, slice_index}
use Rattle.mips_definition.specs.declared.inst.Inst.{Inst}
use Rattle.mips_definition.specs.declared.inst.Inst.TheVariants as inst
use Rattle.mips_decode.specs.Encoding.{word_of}
use Rattle.asm_lines.specs.declared.mnemonic.Mnemonic.{Mnemonic}
use Rattle.asm_lines.specs.declared.mnemonic.Mnemonic.TheVariants.{Arithmetic, VariableShift, Shift, JumpRegister, JumpAndLinkRegister, Syscall, Break, MoveFrom, MoveTo, Product, BranchSign, Jump, BranchEqual, BranchZero, ArithmeticImmediate, LogicalImmediate, LoadUpper, Load, Store, Trap, TrapImmediate, Sync, LoadLinked, StoreConditional}
use Rattle.asm_lines.specs.Lexical.{operand_texts}
use Rattle.asm_lines.specs.Operands.{LabelList, both_values, one, register_operand, immediate, amount, code_operand, trap_code, in_memory, target, branch_to, jump_to}

-- what an operand may be: a register, a shift amount, a code, a trap's code, an immediate from -32768 or from 0 on,
-- `imm($rs)`, and the target of a branch or of a jump
pub data OperandForm : Type 0 where
  Register : OperandForm
  Amount : OperandForm
  Code : OperandForm
  TrapCode : OperandForm
  Signed : OperandForm
  Unsigned : OperandForm
  InMemory : OperandForm
  Near : OperandForm
  Far : OperandForm

-- the operands of a mnemonic
abbrev pub operand_forms : Mnemonic → List OperandForm
operand_forms (Arithmetic name) = Register ∷ Register ∷ Register ∷ []
operand_forms (VariableShift name) = Register ∷ Register ∷ Register ∷ []
operand_forms (Shift name) = Register ∷ Register ∷ Amount ∷ []
operand_forms JumpRegister = Register ∷ []
operand_forms JumpAndLinkRegister = Register ∷ Register ∷ []
operand_forms Syscall = Code ∷ []
operand_forms Break = Code ∷ []
operand_forms (MoveFrom name) = Register ∷ []
operand_forms (MoveTo name) = Register ∷ []
operand_forms (Product name) = Register ∷ Register ∷ []
operand_forms (BranchSign name) = Register ∷ Near ∷ []
operand_forms (Jump name) = Far ∷ []
operand_forms (BranchEqual name) = Register ∷ Register ∷ Near ∷ []
operand_forms (BranchZero name) = Register ∷ Near ∷ []
operand_forms (ArithmeticImmediate name) = Register ∷ Register ∷ Signed ∷ []
operand_forms (LogicalImmediate name) = Register ∷ Register ∷ Unsigned ∷ []
operand_forms LoadUpper = Register ∷ Unsigned ∷ []
operand_forms (Load name) = Register ∷ InMemory ∷ []
operand_forms (Store name) = Register ∷ InMemory ∷ []
operand_forms (Trap name) = Register ∷ Register ∷ TrapCode ∷ []
operand_forms (TrapImmediate name) = Register ∷ Signed ∷ []
operand_forms Sync = Amount ∷ []
operand_forms LoadLinked = Register ∷ InMemory ∷ []
operand_forms StoreConditional = Register ∷ InMemory ∷ []

-- the values of an operand of a form, of an instruction at an address
abbrev pub values : LabelList → ℕ → OperandForm → List ℕ → Result (List ℕ) ℕ
values labels at Register text = one (register_operand text)
values labels at Amount text = one (amount text)
values labels at Code text = one (code_operand text)
values labels at TrapCode text = one (trap_code text)
values labels at Signed text = one (immediate 32768 labels text)
values labels at Unsigned text = one (immediate 0 labels text)
values labels at InMemory text = in_memory labels text
values labels at Near text = one (branch_to at (target labels text))
values labels at Far text = one (jump_to at (target labels text))

-- the values of all operands, as many as there are forms
abbrev pub all_values : LabelList → ℕ → List OperandForm → List (List ℕ) → Result (List ℕ) ℕ
all_values labels at [] [] = Ok []
all_values labels at [] (text ∷ texts) = Err 2
all_values labels at (form ∷ forms) [] = Err 2
all_values labels at (form ∷ forms) (text ∷ texts) =
    both_values (values labels at form text) (all_values labels at forms texts)

-- the instruction of a mnemonic with the values of its operands in their order
abbrev pub inst_of_operands : Mnemonic → (ℕ → ℕ) → Inst
inst_of_operands (Arithmetic name) v = inst.Arithmetic name (v 1) (v 2) (v 0)
inst_of_operands (VariableShift name) v = inst.VariableShift name (v 2) (v 1) (v 0)
inst_of_operands (Shift name) v = inst.Shift name (v 1) (v 0) (v 2)
inst_of_operands JumpRegister v = inst.JumpRegister (v 0)
inst_of_operands JumpAndLinkRegister v = inst.JumpAndLinkRegister (v 1) (v 0)
inst_of_operands Syscall v = inst.Syscall (v 0)
inst_of_operands Break v = inst.Break (v 0)
inst_of_operands (MoveFrom name) v = inst.MoveFrom name (v 0)
inst_of_operands (MoveTo name) v = inst.MoveTo name (v 0)
inst_of_operands (Product name) v = inst.Product name (v 0) (v 1)
inst_of_operands (BranchSign name) v = inst.BranchSign name (v 0) (v 1)
inst_of_operands (Jump name) v = inst.Jump name (v 0)
inst_of_operands (BranchEqual name) v = inst.BranchEqual name (v 0) (v 1) (v 2)
inst_of_operands (BranchZero name) v = inst.BranchZero name (v 0) (v 1)
inst_of_operands (ArithmeticImmediate name) v = inst.ArithmeticImmediate name (v 1) (v 0) (v 2)
inst_of_operands (LogicalImmediate name) v = inst.LogicalImmediate name (v 1) (v 0) (v 2)
inst_of_operands LoadUpper v = inst.LoadUpper (v 0) (v 1)
inst_of_operands (Load name) v = inst.Load name (v 2) (v 0) (v 1)
inst_of_operands (Store name) v = inst.Store name (v 2) (v 0) (v 1)
inst_of_operands (Trap name) v = inst.Trap name (v 0) (v 1) (v 2)
inst_of_operands (TrapImmediate name) v = inst.TrapImmediate name (v 0) (v 1)
inst_of_operands Sync v = inst.Sync (v 0)
inst_of_operands LoadLinked v = inst.LoadLinked (v 2) (v 0) (v 1)
inst_of_operands StoreConditional v = inst.StoreConditional (v 2) (v 0) (v 1)

abbrev pub word_with : Mnemonic → Result (List ℕ) ℕ → Result ℕ ℕ
word_with m (Err k) = Err k
word_with m (Ok vs) = Ok (word_of (inst_of_operands m (λ i. slice_index vs i)))

-- the word of an instruction's line at an address, or its kind of fault
abbrev pub instruction_word : LabelList → ℕ → Mnemonic → List ℕ → Result ℕ ℕ
instruction_word labels at m rest = word_with m (all_values labels at (operand_forms m) (operand_texts rest))
