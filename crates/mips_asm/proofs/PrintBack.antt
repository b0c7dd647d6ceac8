-- The text of each instruction assembles to its word.
use Rattle.std.proofs.Common.{◌≡◌, ℕ, ◌^◌, ◌<◌, ◌++◌, true, false, cond, List, [], ◌∷◌, map, arith, refl, ap, ◌∙◌, subst, Some, Result, Ok}
use Rattle.std.specs.Prelude.{◌==◌, ◌||◌, find, slice_index, codes}
use Rattle.std.specs.Fmt.{decimal, signed_decimal}
use Rattle.asm_lines.specs.Lines.{line_of_text}
use Rattle.asm_lines.specs.Mnemonics.{mnemonic_text}
use Rattle.asm_lines.specs.Operands.{amount, both_values, branch_to, code_operand, immediate, in_memory, jump_to, one, register_operand, target, trap_code}
use Rattle.asm_lines.specs.declared.mnemonic.Mnemonic.{Mnemonic}
use Rattle.asm_lines.specs.declared.mnemonic.Mnemonic.TheVariants as mnemonic
use Rattle.run_definition.specs.Words.{IsWord}
use Rattle.mips_definition.specs.declared.inst.Inst.{Inst}
use Rattle.mips_definition.specs.declared.inst.Inst.TheVariants.{Arithmetic, VariableShift, Shift, JumpRegister, JumpAndLinkRegister, Syscall, Break, MoveFrom, MoveTo, Product, BranchSign, Jump, BranchEqual, BranchZero, ArithmeticImmediate, LogicalImmediate, LoadUpper, Load, Store, Trap, TrapImmediate, Sync, LoadLinked, StoreConditional, Reserved, Float}
use Rattle.mips_decode.specs.Encoding.{word_of}
use Rattle.mips_definition.specs.Table as rows
use Rattle.mips_definition.specs.Table.{Row, fits_row, inst, no_row, read_row, instruction_table}
use Rattle.mips_definition.specs.Targets.{branch_target, jump_target, signed_imm}
use Rattle.mips_decode.specs.Text.{hex_text, text_of}
use Rattle.mips_decode.proofs.Backwards.{word_of-inst}
use Rattle.mips_asm.specs.Instructions.{all_values, operand_forms, inst_of_operands}
use Rattle.mips_asm.proofs.PrintLines.{AreOperands, Assembles, assembles_instruction, assembles_word, is_operand, joined_operands, line_of_words, lines_of_words, operands_of_joined}
use Rattle.mips_asm.proofs.PrintMnemonics.{mnemonic_plain, mnemonic_word}
use Rattle.mips_asm.proofs.PrintValues.{branch_operand, decimal_operand, hex_number, hex_operand, jump_operand, memory_operand, memory_text, printed_branch, printed_jump, printed_memory, printed_number, printed_register, printed_signed, printed_unsigned, plain_register, signed_operand}

-- a mnemonic and operands assemble to the word of their values
printed : (m : Mnemonic) (a : List ℕ) (more : List (List ℕ)) (vs : List ℕ) → is_operand a ≡ true → AreOperands more
    → all_values [] 0x00400000 (operand_forms m) (a ∷ more) ≡ Ok vs
    → Assembles (mnemonic_text m ++ 32 ∷ joined_operands (a ∷ more)) (word_of (inst_of_operands m (λ i. slice_index vs i)))
printed m a more vs h hs values =
    let text = mnemonic_text m ++ 32 ∷ joined_operands (a ∷ more) in
    assembles_instruction text m (joined_operands (a ∷ more)) vs
    (ap (λ ls. map line_of_text ls) (lines_of_words (mnemonic_text m) a more (mnemonic_plain m) h hs)
    ∙ ap (λ l. l ∷ []) (line_of_words (mnemonic_text m) a more (mnemonic_plain m) h hs ∙ mnemonic_word m (joined_operands (a ∷ more))))
    (ap (λ ops. all_values [] 0x00400000 (operand_forms m) ops) (operands_of_joined a more h hs) ∙ values)

one_of : (a : Result ℕ ℕ) (x : ℕ) → a ≡ Ok x → both_values (one a) (Ok []) ≡ Ok (x ∷ [])
one_of a x e = rw e refl

two_of : (a b : Result ℕ ℕ) (x y : ℕ) → a ≡ Ok x → b ≡ Ok y → both_values (one a) (both_values (one b) (Ok [])) ≡ Ok (x ∷ y ∷ [])
two_of a b x y e f = rw (e, f) refl

three_of : (a b c : Result ℕ ℕ) (x y z : ℕ) → a ≡ Ok x → b ≡ Ok y → c ≡ Ok z → both_values (one a) (both_values (one b) (both_values (one c) (Ok []))) ≡ Ok (x ∷ y ∷ z ∷ [])
three_of a b c x y z e f g = rw (e, f, g) refl

memory_of : (a : Result ℕ ℕ) (b : Result (List ℕ) ℕ) (x y z : ℕ) → a ≡ Ok x → b ≡ Ok (y ∷ z ∷ []) → both_values (one a) (both_values b (Ok [])) ≡ Ok (x ∷ y ∷ z ∷ [])
memory_of a b x y z e f = rw (e, f) refl

-- the fields are as wide as the table has them
abbrev pub IsPrintable : Inst → Type 0
IsPrintable (Arithmetic name rs rt rd) = (rs < 32) × (rt < 32) × (rd < 32)
IsPrintable (VariableShift name rs rt rd) = (rs < 32) × (rt < 32) × (rd < 32)
IsPrintable (Shift name rt rd sa) = (rt < 32) × (rd < 32) × (sa < 32)
IsPrintable (JumpRegister rs) = rs < 32
IsPrintable (JumpAndLinkRegister rs rd) = (rs < 32) × (rd < 32)
IsPrintable (Syscall code) = code < 2 ^ 20
IsPrintable (Break code) = code < 2 ^ 20
IsPrintable (MoveFrom name rd) = rd < 32
IsPrintable (MoveTo name rs) = rs < 32
IsPrintable (Product name rs rt) = (rs < 32) × (rt < 32)
IsPrintable (BranchSign name rs imm) = (rs < 32) × (imm < 2 ^ 16)
IsPrintable (Jump name index) = index < 2 ^ 26
IsPrintable (BranchEqual name rs rt imm) = (rs < 32) × (rt < 32) × (imm < 2 ^ 16)
IsPrintable (BranchZero name rs imm) = (rs < 32) × (imm < 2 ^ 16)
IsPrintable (ArithmeticImmediate name rs rt imm) = (rs < 32) × (rt < 32) × (imm < 2 ^ 16)
IsPrintable (LogicalImmediate name rs rt imm) = (rs < 32) × (rt < 32) × (imm < 2 ^ 16)
IsPrintable (LoadUpper rt imm) = (rt < 32) × (imm < 2 ^ 16)
IsPrintable (Load name rs rt imm) = (rs < 32) × (rt < 32) × (imm < 2 ^ 16)
IsPrintable (Store name rs rt imm) = (rs < 32) × (rt < 32) × (imm < 2 ^ 16)
IsPrintable (Trap name rs rt code) = (rs < 32) × (rt < 32) × (code < 2 ^ 10)
IsPrintable (TrapImmediate name rs imm) = (rs < 32) × (imm < 2 ^ 16)
IsPrintable (Sync sa) = sa < 32
IsPrintable (LoadLinked rs rt imm) = (rs < 32) × (rt < 32) × (imm < 2 ^ 16)
IsPrintable (StoreConditional rs rt imm) = (rs < 32) × (rt < 32) × (imm < 2 ^ 16)
IsPrintable (Reserved w) = w < 2 ^ 32
IsPrintable (Float w) = w < 2 ^ 32

word_text : (w : ℕ) → w < 2 ^ 32 → Assembles (codes ".word" ++ 32 ∷ hex_text w) w
word_text w h =
    let text = codes ".word" ++ 32 ∷ hex_text w in
    assembles_word text (hex_text w) w
    (ap (λ ls. map line_of_text ls) (lines_of_words (codes ".word") (hex_text w) [] refl (hex_operand w h) tt)
    ∙ ap (λ l. l ∷ []) (line_of_words (codes ".word") (hex_text w) [] refl (hex_operand w h) tt))
    (hex_number w h)

-- the text of an instruction at 00400000 assembles to its word
pub text_back : (i : Inst) → IsPrintable i → Assembles (text_of i 0x00400000) (word_of i)
text_back (Arithmetic name rs rt rd) h =
    printed (mnemonic.Arithmetic name) (36 ∷ decimal rd) ((36 ∷ decimal rs) ∷ (36 ∷ decimal rt) ∷ []) (rd ∷ rs ∷ rt ∷ []) (plain_register rd h.2)
    (plain_register rs h.0, (plain_register rt h.1, tt))
    (three_of (register_operand (36 ∷ decimal rd)) (register_operand (36 ∷ decimal rs)) (register_operand (36 ∷ decimal rt)) rd rs rt (printed_register rd h.2) (printed_register rs h.0) (printed_register rt h.1))
text_back (VariableShift name rs rt rd) h =
    printed (mnemonic.VariableShift name) (36 ∷ decimal rd) ((36 ∷ decimal rt) ∷ (36 ∷ decimal rs) ∷ []) (rd ∷ rt ∷ rs ∷ []) (plain_register rd h.2)
    (plain_register rt h.1, (plain_register rs h.0, tt))
    (three_of (register_operand (36 ∷ decimal rd)) (register_operand (36 ∷ decimal rt)) (register_operand (36 ∷ decimal rs)) rd rt rs (printed_register rd h.2) (printed_register rt h.1) (printed_register rs h.0))
text_back (Shift name rt rd sa) h =
    printed (mnemonic.Shift name) (36 ∷ decimal rd) ((36 ∷ decimal rt) ∷ decimal sa ∷ []) (rd ∷ rt ∷ sa ∷ []) (plain_register rd h.1)
    (plain_register rt h.0, (decimal_operand sa (omega (arith, h.2)), tt))
    (three_of (register_operand (36 ∷ decimal rd)) (register_operand (36 ∷ decimal rt)) (amount (decimal sa)) rd rt sa (printed_register rd h.1) (printed_register rt h.0) (printed_number 0 31 5 sa (omega (arith, h.2)) (omega (arith, h.2)) (omega (arith, h.2))))
text_back (JumpRegister rs) h =
    printed mnemonic.JumpRegister (36 ∷ decimal rs) [] (rs ∷ []) (plain_register rs h) tt (one_of (register_operand (36 ∷ decimal rs)) rs (printed_register rs h))
text_back (JumpAndLinkRegister rs rd) h =
    printed mnemonic.JumpAndLinkRegister (36 ∷ decimal rd) ((36 ∷ decimal rs) ∷ []) (rd ∷ rs ∷ []) (plain_register rd h.1) (plain_register rs h.0, tt)
    (two_of (register_operand (36 ∷ decimal rd)) (register_operand (36 ∷ decimal rs)) rd rs (printed_register rd h.1) (printed_register rs h.0))
text_back (Syscall n) h =
    printed mnemonic.Syscall (decimal n) [] (n ∷ []) (decimal_operand n (omega (arith, h))) tt
    (one_of (code_operand (decimal n)) n (printed_number 0 1048575 20 n (omega (arith, h)) (omega (arith, h)) (omega (arith, h))))
text_back (Break n) h =
    printed mnemonic.Break (decimal n) [] (n ∷ []) (decimal_operand n (omega (arith, h))) tt
    (one_of (code_operand (decimal n)) n (printed_number 0 1048575 20 n (omega (arith, h)) (omega (arith, h)) (omega (arith, h))))
text_back (MoveFrom name rd) h =
    printed (mnemonic.MoveFrom name) (36 ∷ decimal rd) [] (rd ∷ []) (plain_register rd h) tt (one_of (register_operand (36 ∷ decimal rd)) rd (printed_register rd h))
text_back (MoveTo name rs) h =
    printed (mnemonic.MoveTo name) (36 ∷ decimal rs) [] (rs ∷ []) (plain_register rs h) tt (one_of (register_operand (36 ∷ decimal rs)) rs (printed_register rs h))
text_back (Product name rs rt) h =
    printed (mnemonic.Product name) (36 ∷ decimal rs) ((36 ∷ decimal rt) ∷ []) (rs ∷ rt ∷ []) (plain_register rs h.0) (plain_register rt h.1, tt)
    (two_of (register_operand (36 ∷ decimal rs)) (register_operand (36 ∷ decimal rt)) rs rt (printed_register rs h.0) (printed_register rt h.1))
text_back (BranchSign name rs imm) h =
    let to = hex_text (branch_target 0x00400000 imm) in
    printed (mnemonic.BranchSign name) (36 ∷ decimal rs) (to ∷ []) (rs ∷ imm ∷ []) (plain_register rs h.0) (branch_operand imm, tt)
    (two_of (register_operand (36 ∷ decimal rs)) (branch_to 0x00400000 (target [] to)) rs imm (printed_register rs h.0) (printed_branch imm h.1))
text_back (Jump name index) h =
    let to = hex_text (jump_target 0x00400000 index) in
    printed (mnemonic.Jump name) to [] (index ∷ []) (jump_operand index h) tt (one_of (jump_to 0x00400000 (target [] to)) index (printed_jump index h))
text_back (BranchEqual name rs rt imm) h =
    let to = hex_text (branch_target 0x00400000 imm) in
    printed (mnemonic.BranchEqual name) (36 ∷ decimal rs) ((36 ∷ decimal rt) ∷ to ∷ []) (rs ∷ rt ∷ imm ∷ []) (plain_register rs h.0)
    (plain_register rt h.1, (branch_operand imm, tt))
    (three_of (register_operand (36 ∷ decimal rs)) (register_operand (36 ∷ decimal rt)) (branch_to 0x00400000 (target [] to)) rs rt imm (printed_register rs h.0) (printed_register rt h.1) (printed_branch imm h.2))
text_back (BranchZero name rs imm) h =
    let to = hex_text (branch_target 0x00400000 imm) in
    printed (mnemonic.BranchZero name) (36 ∷ decimal rs) (to ∷ []) (rs ∷ imm ∷ []) (plain_register rs h.0) (branch_operand imm, tt)
    (two_of (register_operand (36 ∷ decimal rs)) (branch_to 0x00400000 (target [] to)) rs imm (printed_register rs h.0) (printed_branch imm h.1))
text_back (ArithmeticImmediate name rs rt imm) h =
    let text = signed_decimal (signed_imm imm) in
    printed (mnemonic.ArithmeticImmediate name) (36 ∷ decimal rt) ((36 ∷ decimal rs) ∷ text ∷ []) (rt ∷ rs ∷ imm ∷ []) (plain_register rt h.1)
    (plain_register rs h.0, (signed_operand imm h.2, tt))
    (three_of (register_operand (36 ∷ decimal rt)) (register_operand (36 ∷ decimal rs)) (immediate 32768 [] text) rt rs imm (printed_register rt h.1) (printed_register rs h.0) (printed_signed imm h.2))
text_back (LogicalImmediate name rs rt imm) h =
    printed (mnemonic.LogicalImmediate name) (36 ∷ decimal rt) ((36 ∷ decimal rs) ∷ decimal imm ∷ []) (rt ∷ rs ∷ imm ∷ []) (plain_register rt h.1)
    (plain_register rs h.0, (decimal_operand imm (omega (arith, h.2)), tt))
    (three_of (register_operand (36 ∷ decimal rt)) (register_operand (36 ∷ decimal rs)) (immediate 0 [] (decimal imm)) rt rs imm (printed_register rt h.1) (printed_register rs h.0) (printed_unsigned 0 imm h.2))
text_back (LoadUpper rt imm) h =
    printed mnemonic.LoadUpper (36 ∷ decimal rt) (decimal imm ∷ []) (rt ∷ imm ∷ []) (plain_register rt h.0) (decimal_operand imm (omega (arith, h.1)), tt)
    (two_of (register_operand (36 ∷ decimal rt)) (immediate 0 [] (decimal imm)) rt imm (printed_register rt h.0) (printed_unsigned 0 imm h.1))
text_back (Load name rs rt imm) h =
    printed (mnemonic.Load name) (36 ∷ decimal rt) (memory_text imm rs ∷ []) (rt ∷ imm ∷ rs ∷ []) (plain_register rt h.1) (memory_operand imm rs h.2 h.0, tt)
    (memory_of (register_operand (36 ∷ decimal rt)) (in_memory [] (memory_text imm rs)) rt imm rs (printed_register rt h.1) (printed_memory imm rs h.2 h.0))
text_back (Store name rs rt imm) h =
    printed (mnemonic.Store name) (36 ∷ decimal rt) (memory_text imm rs ∷ []) (rt ∷ imm ∷ rs ∷ []) (plain_register rt h.1) (memory_operand imm rs h.2 h.0, tt)
    (memory_of (register_operand (36 ∷ decimal rt)) (in_memory [] (memory_text imm rs)) rt imm rs (printed_register rt h.1) (printed_memory imm rs h.2 h.0))
text_back (Trap name rs rt n) h =
    printed (mnemonic.Trap name) (36 ∷ decimal rs) ((36 ∷ decimal rt) ∷ decimal n ∷ []) (rs ∷ rt ∷ n ∷ []) (plain_register rs h.0)
    (plain_register rt h.1, (decimal_operand n (omega (arith, h.2)), tt))
    (three_of (register_operand (36 ∷ decimal rs)) (register_operand (36 ∷ decimal rt)) (trap_code (decimal n)) rs rt n (printed_register rs h.0) (printed_register rt h.1) (printed_number 0 1023 10 n (omega (arith, h.2)) (omega (arith, h.2)) (omega (arith, h.2))))
text_back (TrapImmediate name rs imm) h =
    let text = signed_decimal (signed_imm imm) in
    printed (mnemonic.TrapImmediate name) (36 ∷ decimal rs) (text ∷ []) (rs ∷ imm ∷ []) (plain_register rs h.0) (signed_operand imm h.1, tt)
    (two_of (register_operand (36 ∷ decimal rs)) (immediate 32768 [] text) rs imm (printed_register rs h.0) (printed_signed imm h.1))
text_back (Sync sa) h =
    printed mnemonic.Sync (decimal sa) [] (sa ∷ []) (decimal_operand sa (omega (arith, h))) tt
    (one_of (amount (decimal sa)) sa (printed_number 0 31 5 sa (omega (arith, h)) (omega (arith, h)) (omega (arith, h))))
text_back (LoadLinked rs rt imm) h =
    printed mnemonic.LoadLinked (36 ∷ decimal rt) (memory_text imm rs ∷ []) (rt ∷ imm ∷ rs ∷ []) (plain_register rt h.1) (memory_operand imm rs h.2 h.0, tt)
    (memory_of (register_operand (36 ∷ decimal rt)) (in_memory [] (memory_text imm rs)) rt imm rs (printed_register rt h.1) (printed_memory imm rs h.2 h.0))
text_back (StoreConditional rs rt imm) h =
    printed mnemonic.StoreConditional (36 ∷ decimal rt) (memory_text imm rs ∷ []) (rt ∷ imm ∷ rs ∷ []) (plain_register rt h.1) (memory_operand imm rs h.2 h.0, tt)
    (memory_of (register_operand (36 ∷ decimal rt)) (in_memory [] (memory_text imm rs)) rt imm rs (printed_register rt h.1) (printed_memory imm rs h.2 h.0))
text_back (Reserved w) h = word_text w h
text_back (Float w) h = word_text w h

-- ---- what words mean has such fields
three_registers : (w : ℕ) → (rows.rs_of w < 32) × (rows.rt_of w < 32) × (rows.rd_of w < 32)
three_registers w = (omega arith, omega arith, omega arith)

with_imm : (w : ℕ) → (rows.rs_of w < 32) × (rows.rt_of w < 32) × (rows.imm_of w < 2 ^ 16)
with_imm w = (omega arith, omega arith, omega arith)

abbrev AllRead : ℕ → List Row → Type 0
AllRead w [] = Unit {0}
AllRead w (r ∷ rest) = IsPrintable (r.read w) × AllRead w rest

read_printable : (w : ℕ) (rest : List Row) → AllRead w rest → IsPrintable (no_row w) → IsPrintable (read_row w (find (fits_row w) rest))
read_printable w [] h n = n
read_printable w (r ∷ rest) h n =
    elim (fits_row w r) as (λ t. IsPrintable (read_row w (cond t (Some r) (find (fits_row w) rest))))
    [ true ↦ h.0 | false ↦ read_printable w rest h.1 n ]

all_read : (w : ℕ) → AllRead w instruction_table
all_read w =
    (three_registers w, (three_registers w, (three_registers w, (three_registers w, (three_registers w, (three_registers w, (three_registers w, (three_registers w, (three_registers w, (three_registers w, (three_registers w, (three_registers w, (three_registers w, ((omega arith, omega arith, omega arith), ((omega arith, omega arith, omega arith), ((omega arith, omega arith, omega arith), (omega arith, ((omega arith, omega arith), (omega arith, (omega arith, (omega arith, (omega arith, (omega arith, (omega arith, (omega arith, ((omega arith, omega arith), ((omega arith, omega arith), ((omega arith, omega arith), ((omega arith, omega arith), ((omega arith, omega arith, omega arith), ((omega arith, omega arith, omega arith), ((omega arith, omega arith, omega arith), ((omega arith, omega arith, omega arith), ((omega arith, omega arith, omega arith), ((omega arith, omega arith, omega arith), ((omega arith, omega arith), ((omega arith, omega arith), ((omega arith, omega arith), ((omega arith, omega arith), ((omega arith, omega arith), ((omega arith, omega arith), ((omega arith, omega arith), ((omega arith, omega arith), ((omega arith, omega arith), ((omega arith, omega arith), ((omega arith, omega arith), ((omega arith, omega arith), ((omega arith, omega arith), ((omega arith, omega arith), (omega arith, (omega arith, (with_imm w, (with_imm w, (with_imm w, (with_imm w, (with_imm w, (with_imm w, (with_imm w, (with_imm w, (with_imm w, (with_imm w, (with_imm w, ((omega arith, omega arith), ((omega arith, omega arith), ((omega arith, omega arith), ((omega arith, omega arith), ((omega arith, omega arith), (with_imm w, (with_imm w, (with_imm w, (with_imm w, (with_imm w, (with_imm w, (with_imm w, (with_imm w, (with_imm w, (with_imm w, (with_imm w, (with_imm w, (with_imm w, (with_imm w, tt)))))))))))))))))))))))))))))))))))))))))))))))))))))))))))))))))))))))))))))))))

no_row_printable : (w : ℕ) → w < 2 ^ 32 → IsPrintable (no_row w)
no_row_printable w h =
    elim (rows.op_of w == 0x11 || rows.op_of w == 0x31 || rows.op_of w == 0x39) as (λ t. IsPrintable (cond t (Float w) (Reserved w))) [ true ↦ h | false ↦ h ]

printable : (w : ℕ) → w < 2 ^ 32 → IsPrintable (inst w)
unfolding inst
printable w h = read_printable w instruction_table (all_read w) (no_row_printable w h)

pub word_back : (w : ℕ) → IsWord w → Assembles (text_of (inst w) 0x00400000) w
word_back w h = subst (λ v. Assembles (text_of (inst w) 0x00400000) v) (word_of-inst w h) (text_back (inst w) (printable w h))
