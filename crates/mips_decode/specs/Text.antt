-- The assembly text of an instruction: its mnemonic, a space, and its operands with commas and no spaces. Numbers are
-- decimal, the immediates of arithmetic, traps and memory are signed, and a target is `0x` and eight upper-case digits.
use Rattle.std.specs.Prelude.{ℕ, true, ◌-◌, ◌++◌, List, [], ◌∷◌, length, replicate, codes}
use Rattle.std.specs.Fmt.{decimal, signed_decimal, digits}
use Rattle.mips_definition.specs.declared.inst.Inst.{Inst}
use Rattle.mips_definition.specs.declared.inst.Inst.TheVariants.{Arithmetic, VariableShift, Shift, JumpRegister, JumpAndLinkRegister, Syscall, Break, MoveFrom, MoveTo, Product, BranchSign, Jump, BranchEqual, BranchZero, ArithmeticImmediate, LogicalImmediate, LoadUpper, Load, Store, Trap, TrapImmediate, Sync, LoadLinked, StoreConditional, Reserved, Float}
use Rattle.mips_definition.specs.Mnemonics.{arithmetic_text, variable_shift_text, shift_text, hi_lo_text, product_text, branch_sign_text, jump_text, branch_equal_text, branch_zero_text, arithmetic_immediate_text, logical_immediate_text, load_text, store_text, trap_text, trap_immediate_text}
use Rattle.mips_definition.specs.Targets.{signed_imm, branch_target, jump_target}

-- the pieces one after the other
abbrev pub joined_by_pieces : List (List ℕ) → List ℕ
joined_by_pieces [] = []
joined_by_pieces (piece ∷ []) = piece
joined_by_pieces (piece ∷ next ∷ pieces) = piece ++ joined_by_pieces (next ∷ pieces)

-- `0x` and eight upper-case hexadecimal digits
abbrev pub hex_text : ℕ → List ℕ
hex_text w = let ds = digits 16 true w in codes "0x" ++ (replicate (8 - length ds) 48 ++ ds)

-- the text of the instruction at the address
abbrev pub text_of : Inst → ℕ → List ℕ
text_of (Arithmetic name rs rt rd) at =
    joined_by_pieces (arithmetic_text name ∷ codes " $" ∷ decimal rd ∷ codes ",$" ∷ decimal rs ∷ codes ",$"
    ∷ decimal rt ∷ [])
text_of (VariableShift name rs rt rd) at =
    joined_by_pieces (variable_shift_text name ∷ codes " $" ∷ decimal rd ∷ codes ",$" ∷ decimal rt
    ∷ codes ",$" ∷ decimal rs ∷ [])
text_of (Shift name rt rd sa) at =
    joined_by_pieces (shift_text name ∷ codes " $" ∷ decimal rd ∷ codes ",$" ∷ decimal rt ∷ codes ","
    ∷ decimal sa ∷ [])
text_of (JumpRegister rs) at = joined_by_pieces (codes "jr $" ∷ decimal rs ∷ [])
text_of (JumpAndLinkRegister rs rd) at =
    joined_by_pieces (codes "jalr $" ∷ decimal rd ∷ codes ",$" ∷ decimal rs ∷ [])
text_of (Syscall code) at = joined_by_pieces (codes "syscall " ∷ decimal code ∷ [])
text_of (Break code) at = joined_by_pieces (codes "break " ∷ decimal code ∷ [])
text_of (MoveFrom name rd) at = joined_by_pieces (codes "mf" ∷ hi_lo_text name ∷ codes " $" ∷ decimal rd ∷ [])
text_of (MoveTo name rs) at = joined_by_pieces (codes "mt" ∷ hi_lo_text name ∷ codes " $" ∷ decimal rs ∷ [])
text_of (Product name rs rt) at =
    joined_by_pieces (product_text name ∷ codes " $" ∷ decimal rs ∷ codes ",$" ∷ decimal rt ∷ [])
text_of (BranchSign name rs imm) at =
    joined_by_pieces (branch_sign_text name ∷ codes " $" ∷ decimal rs ∷ codes ","
    ∷ hex_text (branch_target at imm) ∷ [])
text_of (Jump name index) at =
    joined_by_pieces (jump_text name ∷ codes " " ∷ hex_text (jump_target at index) ∷ [])
text_of (BranchEqual name rs rt imm) at = joined_by_pieces
    (branch_equal_text name ∷ codes " $" ∷ decimal rs ∷ codes ",$" ∷ decimal rt ∷ codes ","
    ∷ hex_text (branch_target at imm) ∷ [])
text_of (BranchZero name rs imm) at =
    joined_by_pieces (branch_zero_text name ∷ codes " $" ∷ decimal rs ∷ codes ","
    ∷ hex_text (branch_target at imm) ∷ [])
text_of (ArithmeticImmediate name rs rt imm) at = joined_by_pieces
    (arithmetic_immediate_text name ∷ codes " $" ∷ decimal rt ∷ codes ",$" ∷ decimal rs ∷ codes ","
    ∷ signed_decimal (signed_imm imm) ∷ [])
text_of (LogicalImmediate name rs rt imm) at =
    joined_by_pieces (logical_immediate_text name ∷ codes " $" ∷ decimal rt ∷ codes ",$" ∷ decimal rs
    ∷ codes "," ∷ decimal imm ∷ [])
text_of (LoadUpper rt imm) at = joined_by_pieces (codes "lui $" ∷ decimal rt ∷ codes "," ∷ decimal imm ∷ [])
text_of (Load name rs rt imm) at = joined_by_pieces
    (load_text name ∷ codes " $" ∷ decimal rt ∷ codes "," ∷ signed_decimal (signed_imm imm)
    ∷ codes "($" ∷ decimal rs ∷ codes ")" ∷ [])
text_of (Store name rs rt imm) at = joined_by_pieces
    (store_text name ∷ codes " $" ∷ decimal rt ∷ codes "," ∷ signed_decimal (signed_imm imm)
    ∷ codes "($" ∷ decimal rs ∷ codes ")" ∷ [])
text_of (Trap name rs rt code) at =
    joined_by_pieces (trap_text name ∷ codes " $" ∷ decimal rs ∷ codes ",$" ∷ decimal rt ∷ codes ","
    ∷ decimal code ∷ [])
text_of (TrapImmediate name rs imm) at =
    joined_by_pieces (trap_immediate_text name ∷ codes " $" ∷ decimal rs ∷ codes ","
    ∷ signed_decimal (signed_imm imm) ∷ [])
text_of (Sync sa) at = joined_by_pieces (codes "sync " ∷ decimal sa ∷ [])
text_of (LoadLinked rs rt imm) at = joined_by_pieces
    (codes "ll $" ∷ decimal rt ∷ codes "," ∷ signed_decimal (signed_imm imm) ∷ codes "($"
    ∷ decimal rs ∷ codes ")" ∷ [])
text_of (StoreConditional rs rt imm) at = joined_by_pieces
    (codes "sc $" ∷ decimal rt ∷ codes "," ∷ signed_decimal (signed_imm imm) ∷ codes "($"
    ∷ decimal rs ∷ codes ")" ∷ [])
text_of (Reserved w) at = joined_by_pieces (codes ".word " ∷ hex_text w ∷ [])
text_of (Float w) at = joined_by_pieces (codes ".word " ∷ hex_text w ∷ [])
