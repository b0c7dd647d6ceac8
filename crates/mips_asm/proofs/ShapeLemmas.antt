-- The values of operands by their number, and that no kind is below 2.
use Rattle.std.proofs.Common.{◌≡◌, ℕ, ◌+◌, ◌-◌, ◌/◌, ◌%◌, ◌^◌, ◌≤◌, ◌&&◌, Bool, true, false, cond, List, [], ◌∷◌, length, take, drop, arith, refl, ap, sym, ◌∙◌, Option, Some, None, Result, Ok, Err}
use Rattle.std.specs.Prelude.{◌==◌, nat_le, nat_lt, codes, slice_index}
use Rattle.std.specs.Str.{byte}
use Rattle.asm_lines.specs.Cuts.{pair_list}
use Rattle.asm_lines.specs.Lexical.{is_name}
use Rattle.asm_lines.specs.Numbers.{written_number, register_of, is_between, low_bits_of}
use Rattle.asm_lines.specs.declared.number.Number.{Number}
use Rattle.asm_lines.specs.Operands.{LabelList, label_address, around, amount, both_values, branch_to, by_halves, code_operand, half_of, immediate, in_memory, in_range, jump_to, last_opening, lower_half, name_within, number_operand, numbered, one, or_kind, register_operand, target, trap_code, upper_half}
use Rattle.mips_asm.specs.Instructions.{OperandForm, Register, Amount, Code, TrapCode, Signed, Unsigned, InMemory, Near, Far, values, all_values}
use Rattle.mips_asm.specs.Shapes.{both_of, list_of_one, list_of_two, list_of_three}

one_more : (f : OperandForm) (fs : List OperandForm) (t : List ℕ) (ts : List (List ℕ)) → (length (t ∷ ts) == length (f ∷ fs)) ≡ (length ts == length fs)
one_more f fs t ts = grind arith

pub three_values : (a b c : Result ℕ ℕ) → list_of_three (both_of a (both_of b c)) ≡ both_values (one a) (both_values (one b) (both_values (one c) (Ok [])))
three_values (Ok a) (Ok b) (Ok c) = refl
three_values (Ok a) (Ok b) (Err c) = refl
three_values (Ok a) (Err b) (Ok c) = refl
three_values (Ok a) (Err b) (Err c) = refl
three_values (Err a) (Ok b) (Ok c) = refl
three_values (Err a) (Ok b) (Err c) = refl
three_values (Err a) (Err b) (Ok c) = refl
three_values (Err a) (Err b) (Err c) = refl

pub two_values : (a b : Result ℕ ℕ) → list_of_two (both_of a b) ≡ both_values (one a) (both_values (one b) (Ok []))
two_values (Ok a) (Ok b) = refl
two_values (Ok a) (Err b) = refl
two_values (Err a) (Ok b) = refl
two_values (Err a) (Err b) = refl

pub one_value : (a : Result ℕ ℕ) → list_of_one a ≡ both_values (one a) (Ok [])
one_value (Ok a) = refl
one_value (Err a) = refl

-- no fault of an operand has a kind below 2
abbrev pub IsHigh : {A : Type 0} → Result A ℕ → Type 0
IsHigh (Ok x) = Unit {0}
IsHigh (Err k) = 2 ≤ k

high_one : (r : Result ℕ ℕ) → IsHigh r → IsHigh (one r)
high_one (Ok x) h = tt
high_one (Err k) h = h

high_both : (a b : Result (List ℕ) ℕ) → IsHigh a → IsHigh b → IsHigh (both_values a b)
high_both (Ok a) (Ok b) g h = tt
high_both (Ok a) (Err k) g h = h
high_both (Err k) (Ok b) g h = g
high_both (Err j) (Err k) g h = omega arith

high_or_kind : {A : Type 0} (k : ℕ) (o : Option A) → 2 ≤ k → IsHigh (or_kind k o)
high_or_kind k None h = h
high_or_kind k (Some x) h = tt

high_test : (t : Bool) (x : ℕ) → IsHigh {A = ℕ} (cond t (Ok x) (Err 3))
high_test true x = tt
high_test false x = omega arith

high_in_range : (low high bits : ℕ) (n : Option Number) → IsHigh (in_range low high bits n)
high_in_range low high bits None = omega arith
high_in_range low high bits (Some n) = high_test (is_between low high n) (low_bits_of bits n)

high_half : (half : ℕ → ℕ) (o : Option ℕ) → IsHigh (half_of half o)
high_half half None = omega arith
high_half half (Some a) = tt

high_halves : (labels : LabelList) (upper lower : Option (List ℕ)) (r : Result ℕ ℕ) → IsHigh r → IsHigh (by_halves labels upper lower r)
high_halves labels (Some name) lower r h = high_half upper_half (label_address labels name)
high_halves labels None (Some name) r h = high_half lower_half (label_address labels name)
high_halves labels None None r h = h

high_immediate : (low : ℕ) (labels : LabelList) (text : List ℕ) → IsHigh (immediate low labels text)
high_immediate low labels text =
    high_halves labels (name_within (codes "%hi(") text) (name_within (codes "%lo(") text) (number_operand low 65535 16 text)
    (high_in_range low 65535 16 (written_number text))

high_around : (labels : LabelList) (inner : List ℕ) (o : Option ℕ) → IsHigh (around labels inner o)
high_around labels inner None = omega arith
high_around labels inner (Some i) =
    high_both (one (immediate 32768 labels (take i inner))) (one (register_operand (drop (i + 1) inner)))
    (high_one (immediate 32768 labels (take i inner)) (high_immediate 32768 labels (take i inner)))
    (high_one (register_operand (drop (i + 1) inner)) (high_or_kind 2 (register_of (drop (i + 1) inner)) (omega arith)))

high_cond : {A : Type 0} (t : Bool) (r s : Result A ℕ) → IsHigh r → IsHigh s → IsHigh (cond t r s)
high_cond true r s g h = g
high_cond false r s g h = h

high_in_memory : (labels : LabelList) (text : List ℕ) → IsHigh (in_memory labels text)
high_in_memory labels text =
    let inner = take (length text - 1) text in
    high_cond (slice_index text (length text - 1) == byte ")") (around labels inner (last_opening inner)) (Err 2)
    (high_around labels inner (last_opening inner)) (omega arith)

high_numbered : (n : Option Number) → IsHigh (numbered n)
high_numbered None = omega arith
high_numbered (Some n) = high_test (is_between 0 (2 ^ 32 - 1) n) n.magnitude

high_target : (labels : LabelList) (text : List ℕ) → IsHigh (target labels text)
high_target labels text =
    high_cond (is_name text) (or_kind 5 (label_address labels text)) (numbered (written_number text))
    (high_or_kind 5 (label_address labels text) (omega arith)) (high_numbered (written_number text))

high_branch : (at : ℕ) (r : Result ℕ ℕ) → IsHigh r → IsHigh (branch_to at r)
high_branch at (Err k) h = h
high_branch at (Ok to) h = high_test (to % 4 == 0 && nat_le (at + 4) (to + 2 ^ 17) && nat_lt to (at + 4 + 2 ^ 17)) ((to + 2 ^ 18 - (at + 4)) / 4 % 2 ^ 16)

high_jump : (at : ℕ) (r : Result ℕ ℕ) → IsHigh r → IsHigh (jump_to at r)
high_jump at (Err k) h = h
high_jump at (Ok to) h = high_test (to % 4 == 0 && to / 2 ^ 28 == (at + 4) / 2 ^ 28) (to / 4 % 2 ^ 26)

pub high_values : (labels : LabelList) (at : ℕ) (form : OperandForm) (text : List ℕ) → IsHigh (values labels at form text)
high_values labels at Register text = high_one (register_operand text) (high_or_kind 2 (register_of text) (omega arith))
high_values labels at Amount text = high_one (amount text) (high_in_range 0 31 5 (written_number text))
high_values labels at Code text = high_one (code_operand text) (high_in_range 0 1048575 20 (written_number text))
high_values labels at TrapCode text = high_one (trap_code text) (high_in_range 0 1023 10 (written_number text))
high_values labels at Signed text = high_one (immediate 32768 labels text) (high_immediate 32768 labels text)
high_values labels at Unsigned text = high_one (immediate 0 labels text) (high_immediate 0 labels text)
high_values labels at InMemory text = high_in_memory labels text
high_values labels at Near text = high_one (branch_to at (target labels text)) (high_branch at (target labels text) (high_target labels text))
high_values labels at Far text = high_one (jump_to at (target labels text)) (high_jump at (target labels text) (high_target labels text))

both_wrong : (r : Result (List ℕ) ℕ) → IsHigh r → both_values r (Err 2) ≡ Err 2
both_wrong (Ok xs) h = refl
both_wrong (Err k) h = ap (λ n. Err n) (omega arith)

-- of another number of operands the kind is 2
pub other_count : (labels : LabelList) (at : ℕ) (fs : List OperandForm) (texts : List (List ℕ))
    → (length texts == length fs) ≡ false → all_values labels at fs texts ≡ Err 2
other_count labels at [] [] h = cc
other_count labels at [] (t ∷ ts) h = refl
other_count labels at (f ∷ fs) [] h = refl
other_count labels at (f ∷ fs) (t ∷ ts) h =
    ap (λ r. both_values (values labels at f t) r) (other_count labels at fs ts (sym (one_more f fs t ts) ∙ h))
    ∙ both_wrong (values labels at f t) (high_values labels at f t)

pub memory_values : (a : Result ℕ ℕ) (b : Result (ℕ × ℕ) ℕ) (c : Result (List ℕ) ℕ) → pair_list b ≡ c → list_of_three (both_of a b) ≡ both_values (one a) (both_values c (Ok []))
memory_values (Ok a) (Ok b) c h = rw (← h) refl
memory_values (Ok a) (Err b) c h = rw (← h) refl
memory_values (Err a) (Ok b) c h = rw (← h) refl
memory_values (Err a) (Err b) c h = rw (← h) refl
