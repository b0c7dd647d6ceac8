-- What printed operands stand for.
use Rattle.std.proofs.Common.{◌≡◌, ℕ, pos, negsuc, ◌+◌, ◌-◌, ◌*◌, ◌/◌, ◌%◌, ◌^◌, ◌<◌, ◌≤◌, ◌++◌, Bool, true, false, cond, List, [], ◌∷◌, length, get_or, take, drop, replicate, suc, zero, append_assoc, length-append, arith, refl, ap, sym, ◌∙◌, Some, None, Result, Ok, Err}
use Rattle.std.specs.Prelude.{◌==◌, ◌&&◌, nat_le, nat_lt, option_map, ◌-ℤ◌}
use Rattle.std.specs.Fmt.{decimal, signed_decimal, digits}
use Rattle.std.specs.Char as char
use Rattle.std.specs.Str.Parse.{AllDigits, IsNumeral, digits_value, digits_value_after}
use Rattle.std.proofs.lemmas.Fmt.{decimal_is_IsNumeral, digits_is_IsNumeral, decimal_digit, first_decimal}
use Rattle.asm_lines.specs.Lexical.{all}
use Rattle.asm_lines.specs.Numbers.{below_32, digit_value, digits_after, digits_number, has_leading_zero, hexadecimal_or_decimal, written_number}
use Rattle.asm_lines.specs.Operands.{around, both_values, branch_to, immediate, in_memory, last_opening, later, one, in_range, jump_to, number_operand, numbered, or_kind, register_operand, target}
use Rattle.mips_decode.specs.Text.{hex_text}
use Rattle.mips_definition.specs.Targets.{branch_target, jump_target, signed_imm}
use Rattle.std.proofs.lemmas.Int.{ints}
use Rattle.asm_lines.proofs.MemoryLemmas.{in_memory_end}
use Rattle.mips_asm.proofs.PrintLines.{all_append, is_operand, is_plain, both_of_them}

same_digit : (c : ℕ) → char.digit_value c < 16 → digit_value c ≡ char.digit_value c
same_digit c h = grind arith

other_than : (c k : ℕ) → 16 ≤ char.digit_value k → char.digit_value c < 16 → (c == k) ≡ false
other_than c k g h = by (c == k) refl
  where
    by : (t : Bool) → (c == k) ≡ t → t ≡ false
    by true e = absurd (let f : c ≡ k = grind arith in omega (arith, ap char.digit_value f))
    by false e = refl

-- digits are plain bytes
plain_digit : (c : ℕ) → char.digit_value c < 16 → is_plain c ≡ true
plain_digit c h =
    rw (other_than c 32 (omega arith) h, other_than c 9 (omega arith) h, other_than c 10 (omega arith) h, other_than c 35 (omega arith) h, other_than c 44 (omega arith) h, other_than c 58 (omega arith) h) refl

plain_digits : (base : ℕ) (ds : List ℕ) → base ≤ 16 → AllDigits base ds → all is_plain ds ≡ true
plain_digits base [] h d = refl
plain_digits base (c ∷ cs) h d = both_of_them (is_plain c) (all is_plain cs) (plain_digit c (omega (arith, d.0))) (plain_digits base cs h d.1)

digits_read : (base high : ℕ) (ds : List ℕ) → base ≤ 16 → AllDigits base ds → digits_after base high ds ≡ Some (digits_value_after base high ds)
digits_read base high [] h d = refl
digits_read base high (c ∷ cs) h d =
    let e = same_digit c (omega (arith, d.0)) in
    let below : nat_lt (char.digit_value c) base ≡ true = grind (arith, d.0) in
    ap (λ n. cond (nat_lt n base) (digits_after base (high * base + n) cs) None) e
    ∙ ap (λ t. cond t (digits_after base (high * base + char.digit_value c) cs) None) below
    ∙ digits_read base (high * base + char.digit_value c) cs h d.1

numeral_read : (base : ℕ) (ds : List ℕ) → base ≤ 16 → IsNumeral base ds → digits_number base ds ≡ Some (digits_value base ds)
numeral_read base [] h d = absurd (omega (arith, d.0))
numeral_read base (c ∷ cs) h d = digits_read base 0 (c ∷ cs) h d.1

no_x : (p q : Bool) → q ≡ false → (p && q) ≡ false
no_x true q h = h
no_x false q h = refl

number_read : (ds : List ℕ) → IsNumeral 10 ds → written_number ds ≡ Some (record { negative = false; magnitude = digits_value 10 ds })
number_read [] d = absurd (omega (arith, d.0))
number_read (b ∷ []) d =
    ap (λ t. cond t (option_map (λ n. record { negative = true; magnitude = n }) (digits_number 10 [])) (option_map (λ n. record { negative = false; magnitude = n }) (digits_number 10 (b ∷ []))))
    (other_than b 45 (omega arith) (omega (arith, d.1.0)))
    ∙ ap (λ o. option_map (λ n. record { negative = false; magnitude = n }) o) (numeral_read 10 (b ∷ []) (omega arith) d)
number_read (b ∷ c ∷ bs) d =
    ap (λ t. cond t (option_map (λ n. record { negative = true; magnitude = n }) (digits_number 10 (c ∷ bs))) (option_map (λ n. record { negative = false; magnitude = n }) (hexadecimal_or_decimal (b ∷ c ∷ bs))))
    (other_than b 45 (omega arith) (omega (arith, d.1.0)))
    ∙ ap (λ t. option_map (λ n. record { negative = false; magnitude = n }) (cond t (digits_number 16 bs) (digits_number 10 (b ∷ c ∷ bs))))
    (no_x (b == 48) (c == 120) (other_than c 120 (omega arith) (omega (arith, d.1.1.0))))
    ∙ ap (λ o. option_map (λ n. record { negative = false; magnitude = n }) o) (numeral_read 10 (b ∷ c ∷ bs) (omega arith) d)

operand_digits : (base : ℕ) (ds : List ℕ) → base ≤ 16 → IsNumeral base ds → is_operand ds ≡ true
operand_digits base [] h d = absurd (omega (arith, d.0))
operand_digits base (c ∷ cs) h d = plain_digits base (c ∷ cs) h d.1

-- ---- decimal numbers
pub decimal_operand : (n : ℕ) → n < 2 ^ 64 → is_operand (decimal n) ≡ true
decimal_operand n h = operand_digits 10 (decimal n) (omega arith) (decimal_is_IsNumeral n h).0

pub decimal_plain : (n : ℕ) → n < 2 ^ 64 → all is_plain (decimal n) ≡ true
decimal_plain n h = plain_digits 10 (decimal n) (omega arith) (decimal_is_IsNumeral n h).0.1

decimal_number : (n : ℕ) → n < 2 ^ 64 → digits_number 10 (decimal n) ≡ Some n
decimal_number n h =
    let d = decimal_is_IsNumeral n h in
    numeral_read 10 (decimal n) (omega arith) d.0 ∙ ap (λ v. Some v) d.1

decimal_read : (n : ℕ) → n < 2 ^ 64 → written_number (decimal n) ≡ Some (record { negative = false; magnitude = n })
decimal_read n h =
    let d = decimal_is_IsNumeral n h in
    number_read (decimal n) d.0 ∙ ap (λ v. Some (record { negative = false; magnitude = v })) d.1

pub printed_number : (low high bits n : ℕ) → n ≤ high → n % 2 ^ bits ≡ n → n < 2 ^ 64 → number_operand low high bits (decimal n) ≡ Ok n
printed_number low high bits n h same g =
    let within : nat_le n high ≡ true = grind arith in
    ap (λ o. in_range low high bits o) (decimal_read n g)
    ∙ ap (λ t. cond t (Ok (n % 2 ^ bits)) (Err 3)) within ∙ ap (λ v. Ok v) same

-- ---- registers
single_zero : (ds : List ℕ) (b : ℕ) → ds ≡ b ∷ [] → has_leading_zero ds ≡ false
single_zero ds b e = ap has_leading_zero e

leading : (ds : List ℕ) → 48 < get_or ds 0 0 → has_leading_zero ds ≡ false
leading [] h = refl
leading (b ∷ []) h = refl
leading (b ∷ c ∷ bs) h = grind (arith, h)

no_leading_zero : (n : ℕ) → n < 2 ^ 64 → has_leading_zero (decimal n) ≡ false
no_leading_zero zero h = single_zero (decimal 0) 48 (decimal_digit 0 (omega arith))
no_leading_zero (suc n) h = leading (decimal (suc n)) (first_decimal (suc n) (omega arith) h)

pub printed_register : (r : ℕ) → r < 32 → register_operand (36 ∷ decimal r) ≡ Ok r
printed_register r h =
    let big : r < 2 ^ 64 = omega arith in
    let small : nat_lt r 32 ≡ true = grind arith in
    ap (λ t. or_kind 2 (cond t None (below_32 (digits_number 10 (decimal r))))) (no_leading_zero r big)
    ∙ ap (λ o. or_kind 2 (below_32 o)) (decimal_number r big)
    ∙ ap (λ t. or_kind 2 (cond t (Some r) None)) small

pub plain_register : (r : ℕ) → r < 32 → is_operand (36 ∷ decimal r) ≡ true
plain_register r h = both_of_them true (all is_plain (decimal r)) refl (decimal_plain r (omega arith))

-- ---- immediates
not_half : (low : ℕ) (b : ℕ) (bs : List ℕ) → (b == 37) ≡ false → immediate low [] (b ∷ bs) ≡ number_operand low 65535 16 (b ∷ bs)
not_half low b bs h = rw h refl

immediate_digits : (low : ℕ) (ds : List ℕ) → IsNumeral 10 ds → immediate low [] ds ≡ number_operand low 65535 16 ds
immediate_digits low [] d = absurd (omega (arith, d.0))
immediate_digits low (b ∷ bs) d = not_half low b bs (other_than b 37 (omega arith) (omega (arith, d.1.0)))

pub printed_unsigned : (low n : ℕ) → n < 2 ^ 16 → immediate low [] (decimal n) ≡ Ok n
printed_unsigned low n h =
    immediate_digits low (decimal n) (decimal_is_IsNumeral n (omega arith)).0 ∙ printed_number low 65535 16 n (omega arith) (omega arith) (omega arith)

minus_read : (m : ℕ) → m < 2 ^ 64 → written_number (45 ∷ decimal m) ≡ Some (record { negative = true; magnitude = m })
minus_read m h = ap (λ o. option_map (λ n. record { negative = true; magnitude = n }) o) (decimal_number m h)

minus_in_range : (m imm : ℕ) → nat_le m 32768 ≡ true → (2 ^ 16 - m) % 2 ^ 16 ≡ imm
    → in_range 32768 65535 16 (Some (record { negative = true; magnitude = m })) ≡ Ok imm
minus_in_range m imm within same = rw (within, same) refl

minus_immediate : (m imm : ℕ) → m + imm ≡ 2 ^ 16 → 1 ≤ m → m ≤ 32768 → immediate 32768 [] (45 ∷ decimal m) ≡ Ok imm
minus_immediate m imm e some few =
    ap (λ o. in_range 32768 65535 16 o) (minus_read m (omega arith)) ∙ minus_in_range m imm (grind arith) (omega arith)

minus_imm : (imm : ℕ) → imm < 2 ^ 16 → pos imm -ℤ pos (2 ^ 16) ≡ negsuc (2 ^ 16 - imm - 1)
minus_imm imm h = omega (arith, ints)

signed_text : (imm : ℕ) → imm < 2 ^ 16 → nat_lt imm (2 ^ 15) ≡ false → signed_decimal (signed_imm imm) ≡ 45 ∷ decimal (2 ^ 16 - imm)
signed_text imm h e =
    let k : suc (2 ^ 16 - imm - 1) ≡ 2 ^ 16 - imm = omega arith in
    ap (λ t. signed_decimal (cond t (pos imm) (pos imm -ℤ pos (2 ^ 16)))) e ∙ ap (λ z. signed_decimal z) (minus_imm imm h)
    ∙ ap (λ n. 45 ∷ decimal n) k

unsigned_text : (imm : ℕ) → nat_lt imm (2 ^ 15) ≡ true → signed_decimal (signed_imm imm) ≡ decimal imm
unsigned_text imm e = ap (λ t. signed_decimal (cond t (pos imm) (pos imm -ℤ pos (2 ^ 16)))) e

pub printed_signed : (imm : ℕ) → imm < 2 ^ 16 → immediate 32768 [] (signed_decimal (signed_imm imm)) ≡ Ok imm
printed_signed imm h = by (nat_lt imm (2 ^ 15)) refl
  where
    by : (t : Bool) → nat_lt imm (2 ^ 15) ≡ t → immediate 32768 [] (signed_decimal (signed_imm imm)) ≡ Ok imm
    by true e = ap (λ text. immediate 32768 [] text) (unsigned_text imm e) ∙ printed_unsigned 32768 imm h
    by false e =
        let big : 2 ^ 15 ≤ imm = grind arith in
        ap (λ text. immediate 32768 [] text) (signed_text imm h e) ∙ minus_immediate (2 ^ 16 - imm) imm (omega arith) (omega arith) (omega arith)

pub signed_operand : (imm : ℕ) → imm < 2 ^ 16 → is_operand (signed_decimal (signed_imm imm)) ≡ true
signed_operand imm h = by (nat_lt imm (2 ^ 15)) refl
  where
    by : (t : Bool) → nat_lt imm (2 ^ 15) ≡ t → is_operand (signed_decimal (signed_imm imm)) ≡ true
    by true e = ap (λ text. is_operand text) (unsigned_text imm e) ∙ decimal_operand imm (omega arith)
    by false e =
        ap (λ text. is_operand text) (signed_text imm h e)
        ∙ both_of_them true (all is_plain (decimal (2 ^ 16 - imm))) refl (decimal_plain (2 ^ 16 - imm) (omega arith))

-- ---- hexadecimal numbers
zeros_before : (k : ℕ) (ds : List ℕ) → digits_after 16 0 (replicate k 48 ++ ds) ≡ digits_after 16 0 ds
zeros_before zero ds = refl
zeros_before (suc k) ds = zeros_before k ds

not_empty : (base : ℕ) (xs : List ℕ) → 0 < length xs → digits_number base xs ≡ digits_after base 0 xs
not_empty base [] h = absurd (omega (arith, h))
not_empty base (x ∷ xs) h = refl

plain_zeros : (k : ℕ) → all is_plain (replicate k 48) ≡ true
plain_zeros zero = refl
plain_zeros (suc k) = plain_zeros k

hex_digits : (w : ℕ) → w < 2 ^ 32 → digits_number 16 (replicate (8 - length (digits 16 true w)) 48 ++ digits 16 true w) ≡ Some w
hex_digits w h =
    let ds = digits 16 true w in
    let d = digits_is_IsNumeral 16 true (omega arith) (omega arith) w (omega arith) in
    not_empty 16 (replicate (8 - length ds) 48 ++ ds) (omega (arith, d.0.0, length-append (replicate (8 - length ds) 48) ds))
    ∙ zeros_before (8 - length ds) ds ∙ digits_read 16 0 ds (omega arith) d.0.1 ∙ ap (λ v. Some v) d.1

pub hex_read : (w : ℕ) → w < 2 ^ 32 → written_number (hex_text w) ≡ Some (record { negative = false; magnitude = w })
hex_read w h = ap (λ o. option_map (λ n. record { negative = false; magnitude = n }) o) (hex_digits w h)

pub hex_operand : (w : ℕ) → w < 2 ^ 32 → is_operand (hex_text w) ≡ true
hex_operand w h =
    let ds = digits 16 true w in
    let d = digits_is_IsNumeral 16 true (omega arith) (omega arith) w (omega arith) in
    all_append is_plain (replicate (8 - length ds) 48) ds (plain_zeros (8 - length ds)) (plain_digits 16 ds (omega arith) d.0.1)

-- ---- targets
hex_target : (t : ℕ) → t < 2 ^ 32 → target [] (hex_text t) ≡ Ok t
hex_target t h =
    let within : nat_le t (2 ^ 32 - 1) ≡ true = grind arith in
    ap (λ o. numbered o) (hex_read t h) ∙ ap (λ x. cond x (Ok t) (Err 3)) within

branch_near : (imm t : ℕ) → imm < 2 ^ 16 → t % 4 ≡ 0 → 0x00400004 ≤ t + 2 ^ 17 → t < 0x00400004 + 2 ^ 17
    → (t + 2 ^ 18 - 0x00400004) / 4 % 2 ^ 16 ≡ imm → branch_to 0x00400000 (Ok t) ≡ Ok imm
branch_near imm t h a b c e =
    let p : (t % 4 == 0) ≡ true = grind arith in
    let q : nat_le 0x00400004 (t + 2 ^ 17) ≡ true = grind arith in
    let r : nat_lt t (0x00400004 + 2 ^ 17) ≡ true = grind arith in
    rw (p, q, r, e) refl

pub printed_branch : (imm : ℕ) → imm < 2 ^ 16 → branch_to 0x00400000 (target [] (hex_text (branch_target 0x00400000 imm))) ≡ Ok imm
printed_branch imm h = by (nat_lt imm (2 ^ 15)) refl
  where
    by : (t : Bool) → nat_lt imm (2 ^ 15) ≡ t → branch_to 0x00400000 (target [] (hex_text (branch_target 0x00400000 imm))) ≡ Ok imm
    by true e =
        let small : imm < 2 ^ 15 = grind arith in
        let is : branch_target 0x00400000 imm ≡ 0x00400004 + 4 * imm = rw e (omega arith) in
        ap (λ t. branch_to 0x00400000 (target [] (hex_text t))) is ∙ ap (λ r. branch_to 0x00400000 r) (hex_target (0x00400004 + 4 * imm) (omega arith))
        ∙ branch_near imm (0x00400004 + 4 * imm) h (omega arith) (omega arith) (omega arith) (omega arith)
    by false e =
        let big : 2 ^ 15 ≤ imm = grind arith in
        let is : branch_target 0x00400000 imm ≡ 0x003C0004 + 4 * imm = rw e (omega arith) in
        ap (λ t. branch_to 0x00400000 (target [] (hex_text t))) is ∙ ap (λ r. branch_to 0x00400000 r) (hex_target (0x003C0004 + 4 * imm) (omega arith))
        ∙ branch_near imm (0x003C0004 + 4 * imm) h (omega arith) (omega arith) (omega arith) (omega arith)

pub branch_operand : (imm : ℕ) → is_operand (hex_text (branch_target 0x00400000 imm)) ≡ true
branch_operand imm = hex_operand (branch_target 0x00400000 imm) (omega arith)

pub printed_jump : (index : ℕ) → index < 2 ^ 26 → jump_to 0x00400000 (target [] (hex_text (jump_target 0x00400000 index))) ≡ Ok index
printed_jump index h =
    let is : jump_target 0x00400000 index ≡ 4 * index = omega arith in
    let p : (4 * index % 4 == 0) ≡ true = grind arith in
    let q : (4 * index / 2 ^ 28 == 0) ≡ true = grind arith in
    let e : 4 * index / 4 % 2 ^ 26 ≡ index = omega arith in
    ap (λ t. jump_to 0x00400000 (target [] (hex_text t))) is ∙ ap (λ r. jump_to 0x00400000 r) (hex_target (4 * index) (omega arith))
    ∙ rw (p, q, e) refl

pub jump_operand : (index : ℕ) → index < 2 ^ 26 → is_operand (hex_text (jump_target 0x00400000 index)) ≡ true
jump_operand index h = hex_operand (jump_target 0x00400000 index) (omega arith)

-- ---- operands of loads and stores
no_opening : (ds : List ℕ) → AllDigits 10 ds → last_opening ds ≡ None
no_opening [] d = refl
no_opening (c ∷ cs) d =
    ap (λ o. later (c == 40) o) (no_opening cs d.1) ∙ ap (λ t. later t None) (other_than c 40 (omega arith) (omega (arith, d.0)))

opening_behind : (xs ys : List ℕ) → last_opening ys ≡ Some 0 → last_opening (xs ++ ys) ≡ Some (length xs)
opening_behind [] ys h = h
opening_behind (x ∷ xs) ys h = ap (λ o. later (x == 40) o) (opening_behind xs ys h) ∙ ap (λ n. Some n) (omega arith)

take_front : (xs ys : List ℕ) → take (length xs) (xs ++ ys) ≡ xs
take_front [] ys = refl
take_front (x ∷ xs) ys = ap (λ zs. x ∷ zs) (take_front xs ys)

drop_front : (xs : List ℕ) (y : ℕ) (ys : List ℕ) → drop (length xs + 1) (xs ++ y ∷ ys) ≡ ys
drop_front xs y ys = let e : length xs + 1 ≡ suc (length xs) = omega arith in ap (λ n. drop n (xs ++ y ∷ ys)) e ∙ by xs
  where
    by : (zs : List ℕ) → drop (suc (length zs)) (zs ++ y ∷ ys) ≡ ys
    by [] = refl
    by (z ∷ zs) = by zs

both_halves : (a b : Result ℕ ℕ) (x y : ℕ) → a ≡ Ok x → b ≡ Ok y → both_values (one a) (one b) ≡ Ok (x ∷ y ∷ [])
both_halves a b x y e f = rw (e, f) refl

around_halves : (front back : List ℕ) (x y : ℕ) → immediate 32768 [] front ≡ Ok x → register_operand back ≡ Ok y
    → around [] (front ++ 40 ∷ back) (Some (length front)) ≡ Ok (x ∷ y ∷ [])
around_halves front back x y e f =
    both_halves (immediate 32768 [] (take (length front) (front ++ 40 ∷ back))) (register_operand (drop (length front + 1) (front ++ 40 ∷ back))) x y
    (ap (λ text. immediate 32768 [] text) (take_front front (40 ∷ back)) ∙ e)
    (ap (λ text. register_operand text) (drop_front front 40 back) ∙ f)

abbrev pub memory_text : ℕ → ℕ → List ℕ
memory_text imm rs = signed_decimal (signed_imm imm) ++ (40 ∷ 36 ∷ (decimal rs ++ 41 ∷ []))

pub printed_memory : (imm rs : ℕ) → imm < 2 ^ 16 → rs < 32 → in_memory [] (memory_text imm rs) ≡ Ok (imm ∷ rs ∷ [])
printed_memory imm rs h r =
    let front = signed_decimal (signed_imm imm) in
    let back = 36 ∷ decimal rs in
    let opening : last_opening (40 ∷ back) ≡ Some 0 = ap (λ o. later true (later false o)) (no_opening (decimal rs) (decimal_is_IsNumeral rs (omega arith)).0.1) in
    ap (λ text. in_memory [] text) (sym (append_assoc front (40 ∷ back) (41 ∷ [])))
    ∙ in_memory_end [] (front ++ 40 ∷ back) 41
    ∙ ap (λ o. around [] (front ++ 40 ∷ back) o) (opening_behind front (40 ∷ back) opening)
    ∙ around_halves front back imm rs (printed_signed imm h) (printed_register rs r)

operand_append : (xs ys : List ℕ) → is_operand xs ≡ true → all is_plain ys ≡ true → is_operand (xs ++ ys) ≡ true
operand_append [] ys h k = cc
operand_append (x ∷ xs) ys h k = all_append is_plain (x ∷ xs) ys h k

pub memory_operand : (imm rs : ℕ) → imm < 2 ^ 16 → rs < 32 → is_operand (memory_text imm rs) ≡ true
memory_operand imm rs h r =
    operand_append (signed_decimal (signed_imm imm)) (40 ∷ 36 ∷ (decimal rs ++ 41 ∷ [])) (signed_operand imm h)
    (all_append is_plain (decimal rs) (41 ∷ []) (decimal_plain rs (omega arith)) refl)

pub hex_number : (w : ℕ) → w < 2 ^ 32 → number_operand (2 ^ 31) (2 ^ 32 - 1) 32 (hex_text w) ≡ Ok w
hex_number w h =
    let within : nat_le w (2 ^ 32 - 1) ≡ true = grind arith in
    let same : w % 2 ^ 32 ≡ w = omega arith in
    ap (λ o. in_range (2 ^ 31) (2 ^ 32 - 1) 32 o) (hex_read w h) ∙ ap (λ t. cond t (Ok (w % 2 ^ 32)) (Err 3)) within ∙ ap (λ v. Ok v) same
