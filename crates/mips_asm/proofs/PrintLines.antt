-- Lines of a word and operands.
use Rattle.std.proofs.Common.{◌≡◌, ℕ, ◌++◌, Bool, true, false, cond, List, [], ◌∷◌, map, append_assoc, refl, ap, sym, ◌∙◌, Some, None, Ok}
use Rattle.std.specs.Prelude.{◌==◌, ◌&&◌, slice_index}
use Rattle.std.specs.List.{slice_split, onto_first}
use Rattle.asm_lines.specs.Lexical.{after_word, all, bare_line, before_byte, from, is_blank, is_dark, is_name, lines_of_text, operand_texts, trimmed_line, up_to_last}
use Rattle.asm_lines.specs.Lines.{Word, Instruction, bare_line_is, by_label, by_word, label_of, line_of_text}
use Rattle.asm_lines.specs.declared.mnemonic.Mnemonic.{Mnemonic}
use Rattle.asm_lines.proofs.LexicalLemmas.{name_before_end, up_to_dark}
use Rattle.mips_decode.specs.Encoding.{word_of}
use Rattle.mips_asm.specs.Instructions.{all_values, operand_forms, inst_of_operands, word_with}
use Rattle.mips_asm.specs.Program.{as_list, asm_fault, data_words, fault_by, lines_fault_from, labels_from, parsed_lines, start_place, text_words, word_value, words_from, words_in}

-- ---- bytes
abbrev pub is_not : ℕ → ℕ → Bool
is_not a b = cond (b == a) false true

-- a byte of a word or an operand: no blank, no line feed, and none of `#`, `,` and `:`
abbrev pub is_plain : ℕ → Bool
is_plain b = is_not 32 b && (is_not 9 b && (is_not 10 b && (is_not 35 b && (is_not 44 b && is_not 58 b))))

-- a byte within a line
abbrev pub is_inner : ℕ → Bool
is_inner b = is_not 10 b && is_not 35 b

abbrev pub is_operand : List ℕ → Bool
is_operand [] = false
is_operand (b ∷ bs) = all is_plain (b ∷ bs)

pub left_of : (p q : Bool) → (p && q) ≡ true → p ≡ true
left_of true q h = refl
left_of false q h = cc

pub right_of : (p q : Bool) → (p && q) ≡ true → q ≡ true
right_of true q h = h
right_of false q h = cc

pub both_of_them : (p q : Bool) → p ≡ true → q ≡ true → (p && q) ≡ true
both_of_them p q a b = rw (a, b) refl

not_equal : (t : Bool) → cond t false true ≡ true → t ≡ false
not_equal true h = cc
not_equal false h = refl

pub no_space : (b : ℕ) → is_plain b ≡ true → (b == 32) ≡ false
no_space b h = not_equal (b == 32) (left_of _ _ h)

after_space : (b : ℕ) → is_plain b ≡ true → (is_not 9 b && (is_not 10 b && (is_not 35 b && (is_not 44 b && is_not 58 b)))) ≡ true
after_space b h = right_of (is_not 32 b) (is_not 9 b && (is_not 10 b && (is_not 35 b && (is_not 44 b && is_not 58 b)))) h

no_tab : (b : ℕ) → is_plain b ≡ true → (b == 9) ≡ false
no_tab b h = not_equal (b == 9) (left_of (is_not 9 b) (is_not 10 b && (is_not 35 b && (is_not 44 b && is_not 58 b))) (after_space b h))

after_tab : (b : ℕ) → is_plain b ≡ true → (is_not 10 b && (is_not 35 b && (is_not 44 b && is_not 58 b))) ≡ true
after_tab b h = right_of (is_not 9 b) (is_not 10 b && (is_not 35 b && (is_not 44 b && is_not 58 b))) (after_space b h)

after_feed : (b : ℕ) → is_plain b ≡ true → (is_not 35 b && (is_not 44 b && is_not 58 b)) ≡ true
after_feed b h = right_of (is_not 10 b) (is_not 35 b && (is_not 44 b && is_not 58 b)) (after_tab b h)

inner_plain : (b : ℕ) → is_plain b ≡ true → is_inner b ≡ true
inner_plain b h =
    both_of_them (is_not 10 b) (is_not 35 b)
    (left_of (is_not 10 b) (is_not 35 b && (is_not 44 b && is_not 58 b)) (after_tab b h))
    (left_of (is_not 35 b) (is_not 44 b && is_not 58 b) (after_feed b h))

after_comment : (b : ℕ) → is_plain b ≡ true → (is_not 44 b && is_not 58 b) ≡ true
after_comment b h = right_of (is_not 35 b) (is_not 44 b && is_not 58 b) (after_feed b h)

no_comma : (b : ℕ) → is_plain b ≡ true → is_not 44 b ≡ true
no_comma b h = left_of (is_not 44 b) (is_not 58 b) (after_comment b h)

no_colon : (b : ℕ) → is_plain b ≡ true → (b == 58) ≡ false
no_colon b h = not_equal (b == 58) (right_of (is_not 44 b) (is_not 58 b) (after_comment b h))

-- ---- lists of bytes
pub all_weaker : (p q : ℕ → Bool) → ((b : ℕ) → p b ≡ true → q b ≡ true) → (bs : List ℕ) → all p bs ≡ true → all q bs ≡ true
all_weaker p q w [] h = refl
all_weaker p q w (b ∷ bs) h =
    both_of_them (q b) (all q bs) (w b (left_of (p b) (all p bs) h)) (all_weaker p q w bs (right_of (p b) (all p bs) h))

pub all_append : (p : ℕ → Bool) (xs ys : List ℕ) → all p xs ≡ true → all p ys ≡ true → all p (xs ++ ys) ≡ true
all_append p [] ys g h = h
all_append p (x ∷ xs) ys g h =
    both_of_them (p x) (all p (xs ++ ys)) (left_of (p x) (all p xs) g) (all_append p xs ys (right_of (p x) (all p xs) g) h)

-- no byte of these passes
abbrev Lacks : (ℕ → Bool) → List ℕ → Type 0
Lacks p bs = all (λ b. cond (p b) false true) bs ≡ true

head_lacks : (p : ℕ → Bool) (b : ℕ) (bs : List ℕ) → Lacks p (b ∷ bs) → p b ≡ false
head_lacks p b bs h = not_equal (p b) (left_of (cond (p b) false true) (all (λ x. cond (p x) false true) bs) h)

tail_lacks : (p : ℕ → Bool) (b : ℕ) (bs : List ℕ) → Lacks p (b ∷ bs) → Lacks p bs
tail_lacks p b bs h = right_of (cond (p b) false true) (all (λ x. cond (p x) false true) bs) h

one_part : (p : ℕ → Bool) (bs : List ℕ) → Lacks p bs → slice_split p bs ≡ bs ∷ []
one_part p [] h = refl
one_part p (b ∷ bs) h =
    ap (λ t. cond t ([] ∷ slice_split p bs) (onto_first b (slice_split p bs))) (head_lacks p b bs h)
    ∙ ap (λ parts. onto_first b parts) (one_part p bs (tail_lacks p b bs h))

first_part : (p : ℕ → Bool) (xs : List ℕ) (c : ℕ) (ys : List ℕ) → Lacks p xs → p c ≡ true → slice_split p (xs ++ c ∷ ys) ≡ xs ∷ slice_split p ys
first_part p [] c ys h e = ap (λ t. cond t ([] ∷ slice_split p ys) (onto_first c (slice_split p ys))) e
first_part p (x ∷ xs) c ys h e =
    ap (λ t. cond t ([] ∷ slice_split p (xs ++ c ∷ ys)) (onto_first x (slice_split p (xs ++ c ∷ ys)))) (head_lacks p x xs h)
    ∙ ap (λ parts. onto_first x parts) (first_part p xs c ys (tail_lacks p x xs h) e)

before_none : (p : ℕ → Bool) (bs : List ℕ) → Lacks p bs → before_byte p bs ≡ bs
before_none p [] h = refl
before_none p (b ∷ bs) h =
    ap (λ t. cond t [] (b ∷ before_byte p bs)) (head_lacks p b bs h) ∙ ap (λ xs. b ∷ xs) (before_none p bs (tail_lacks p b bs h))

before_first : (p : ℕ → Bool) (xs : List ℕ) (c : ℕ) (ys : List ℕ) → Lacks p xs → p c ≡ true → before_byte p (xs ++ c ∷ ys) ≡ xs
before_first p [] c ys h e = ap (λ t. cond t [] (c ∷ before_byte p ys)) e
before_first p (x ∷ xs) c ys h e =
    ap (λ t. cond t [] (x ∷ before_byte p (xs ++ c ∷ ys))) (head_lacks p x xs h) ∙ ap (λ zs. x ∷ zs) (before_first p xs c ys (tail_lacks p x xs h) e)

from_first : (p : ℕ → Bool) (xs : List ℕ) (c : ℕ) (ys : List ℕ) → Lacks p xs → p c ≡ true → from p (xs ++ c ∷ ys) ≡ c ∷ ys
from_first p [] c ys h e = ap (λ t. cond t (c ∷ ys) (from p ys)) e
from_first p (x ∷ xs) c ys h e =
    ap (λ t. cond t (x ∷ (xs ++ c ∷ ys)) (from p (xs ++ c ∷ ys))) (head_lacks p x xs h) ∙ from_first p xs c ys (tail_lacks p x xs h) e

-- a list that ends with a plain byte
record EndsPlain (bs : List ℕ) : Type 0 where
  front : List ℕ
  last : ℕ
  is : bs ≡ front ++ last ∷ []
  plain : is_plain last ≡ true

end_of : (b : ℕ) (bs : List ℕ) → all is_plain (b ∷ bs) ≡ true → EndsPlain (b ∷ bs)
end_of b [] h = record { front = []; last = b; is = refl; plain = left_of (is_plain b) true h }
end_of b (c ∷ bs) h =
    let e = end_of c bs (right_of (is_plain b) (all is_plain (c ∷ bs)) h) in
    record { front = b ∷ e.front; last = e.last; is = ap (λ xs. b ∷ xs) e.is; plain = e.plain }

end_behind : (xs : List ℕ) (c : ℕ) (ys : List ℕ) → EndsPlain ys → EndsPlain (xs ++ c ∷ ys)
end_behind xs c ys e =
    record { front = xs ++ c ∷ e.front; last = e.last; is = ap (λ zs. xs ++ c ∷ zs) e.is ∙ sym (append_assoc xs (c ∷ e.front) (e.last ∷ [])); plain = e.plain }

no_blank : (other b : ℕ) → (b == 32) ≡ false → (b == other) ≡ false → is_blank other b ≡ false
no_blank other b g h = rw (g, h) refl

-- what begins and ends with plain bytes has no blanks at its ends
trimmed_same : (other b : ℕ) (bs : List ℕ) → is_blank other b ≡ false → ((c : ℕ) → is_plain c ≡ true → is_blank other c ≡ false)
    → EndsPlain (b ∷ bs) → trimmed_line other (b ∷ bs) ≡ b ∷ bs
trimmed_same other b bs dark h e =
    ap (λ t. up_to_last other (cond (cond t false true) (b ∷ bs) (from (is_dark other) bs))) dark
    ∙ ap (λ xs. up_to_last other xs) e.is ∙ up_to_dark other e.front e.last (h e.last e.plain) ∙ sym e.is

dark_32 : (c : ℕ) → is_plain c ≡ true → is_blank 32 c ≡ false
dark_32 c h = no_blank 32 c (no_space c h) (no_space c h)

dark_9 : (c : ℕ) → is_plain c ≡ true → is_blank 9 c ≡ false
dark_9 c h = no_blank 9 c (no_space c h) (no_tab c h)

-- ---- operands, with commas between them
abbrev pub joined_operands : List (List ℕ) → List ℕ
joined_operands [] = []
joined_operands (a ∷ []) = a
joined_operands (a ∷ b ∷ cs) = a ++ 44 ∷ joined_operands (b ∷ cs)

abbrev pub AreOperands : List (List ℕ) → Type 0
AreOperands [] = Unit {0}
AreOperands (a ∷ more) = (is_operand a ≡ true) × AreOperands more

plain_operand : (a : List ℕ) → is_operand a ≡ true → all is_plain a ≡ true
plain_operand [] h = refl
plain_operand (b ∷ bs) h = h

split_operands : (a : List ℕ) (more : List (List ℕ)) → is_operand a ≡ true → AreOperands more
    → slice_split (λ b. b == 44) (joined_operands (a ∷ more)) ≡ a ∷ more
split_operands a [] h hs = one_part (λ b. b == 44) a (all_weaker is_plain (λ b. cond (b == 44) false true) no_comma a (plain_operand a h))
split_operands a (b ∷ cs) h hs =
    first_part (λ b. b == 44) a 44 (joined_operands (b ∷ cs)) (all_weaker is_plain (λ b. cond (b == 44) false true) no_comma a (plain_operand a h)) refl
    ∙ ap (λ parts. a ∷ parts) (split_operands b cs hs.0 hs.1)

trim_operand : (a : List ℕ) → is_operand a ≡ true → trimmed_line 32 a ≡ a
trim_operand [] h = cc
trim_operand (b ∷ bs) h = trimmed_same 32 b bs (dark_32 b (left_of (is_plain b) (all is_plain bs) h)) dark_32 (end_of b bs h)

trim_operands : (more : List (List ℕ)) → AreOperands more → map (trimmed_line 32) more ≡ more
trim_operands [] h = refl
trim_operands (a ∷ more) h = ap (λ x. x ∷ map (trimmed_line 32) more) (trim_operand a h.0) ∙ ap (λ xs. a ∷ xs) (trim_operands more h.1)

pub operands_of_joined : (a : List ℕ) (more : List (List ℕ)) → is_operand a ≡ true → AreOperands more → operand_texts (joined_operands (a ∷ more)) ≡ a ∷ more
operands_of_joined a more h hs = ap (λ parts. map (trimmed_line 32) parts) (split_operands a more h hs) ∙ trim_operands (a ∷ more) (h, hs)

inner_operands : (a : List ℕ) (more : List (List ℕ)) → is_operand a ≡ true → AreOperands more → all is_inner (joined_operands (a ∷ more)) ≡ true
inner_operands a [] h hs = all_weaker is_plain is_inner inner_plain a (plain_operand a h)
inner_operands a (b ∷ cs) h hs =
    all_append is_inner a (44 ∷ joined_operands (b ∷ cs)) (all_weaker is_plain is_inner inner_plain a (plain_operand a h)) (inner_operands b cs hs.0 hs.1)

end_operands : (a : List ℕ) (more : List (List ℕ)) → is_operand a ≡ true → AreOperands more → EndsPlain (joined_operands (a ∷ more))
end_operands [] [] h hs = absurd (cc)
end_operands (x ∷ xs) [] h hs = end_of x xs h
end_operands a (b ∷ cs) h hs = end_behind a 44 (joined_operands (b ∷ cs)) (end_operands b cs hs.0 hs.1)

dark_operands : (a : List ℕ) (more : List (List ℕ)) → is_operand a ≡ true → from (is_dark 32) (joined_operands (a ∷ more)) ≡ joined_operands (a ∷ more)
dark_operands [] more h = cc
dark_operands (x ∷ xs) [] h = ap (λ t. cond (cond t false true) (x ∷ xs) (from (is_dark 32) xs)) (dark_32 x (left_of (is_plain x) (all is_plain xs) h))
dark_operands (x ∷ xs) (b ∷ cs) h =
    ap (λ t. cond (cond t false true) (x ∷ (xs ++ 44 ∷ joined_operands (b ∷ cs))) (from (is_dark 32) (xs ++ 44 ∷ joined_operands (b ∷ cs))))
    (dark_32 x (left_of (is_plain x) (all is_plain xs) h))

-- ---- lines
no_label : (xs : List ℕ) (e : EndsPlain xs) → label_of xs ≡ None
no_label xs e =
    ap (λ ys. label_of ys) e.is ∙ name_before_end 58 e.front e.last ∙ ap (λ t. cond (t && is_name e.front) (Some e.front) None) (no_colon e.last e.plain)

worded : (m : ℕ) (ms rest : List ℕ) → all is_plain (m ∷ ms) ≡ true → all is_inner rest ≡ true → EndsPlain rest
    → from (is_dark 32) rest ≡ rest → line_of_text ((m ∷ ms) ++ 32 ∷ rest) ≡ by_word (m ∷ ms) rest
worded m ms rest h inner e dark =
    let text = (m ∷ ms) ++ 32 ∷ rest in
    let ends = end_behind (m ∷ ms) 32 rest e in
    let spaces = all_weaker is_plain (λ b. cond (b == 32) false true) (λ b k. left_of (is_not 32 b) (is_not 9 b && (is_not 10 b && (is_not 35 b && (is_not 44 b && is_not 58 b)))) k) (m ∷ ms) h in
    let all_inner = all_append is_inner (m ∷ ms) (32 ∷ rest) (all_weaker is_plain is_inner inner_plain (m ∷ ms) h) inner in
    let comments = all_weaker is_inner (λ b. cond (b == 35) false true) (λ b k. right_of (is_not 10 b) (is_not 35 b) k) text all_inner in
    let bare : bare_line text ≡ text =
    ap (λ xs. trimmed_line 9 xs) (before_none (λ b. b == 35) text comments)
    ∙ trimmed_same 9 m (ms ++ 32 ∷ rest) (dark_9 m (left_of (is_plain m) (all is_plain ms) h)) dark_9 ends in
    ap (λ xs. bare_line_is xs) bare
    ∙ ap (λ o. by_label text o) (no_label text ends)
    ∙ ap (λ w. by_word w (after_word text)) (before_first (λ b. b == 32) (m ∷ ms) 32 rest spaces refl)
    ∙ ap (λ r. by_word (m ∷ ms) (from (is_dark 32) r)) (from_first (λ b. b == 32) (m ∷ ms) 32 rest spaces refl)
    ∙ ap (λ r. by_word (m ∷ ms) r) dark

-- a line of a word and operands
pub line_of_words : (w a : List ℕ) (more : List (List ℕ)) → is_operand w ≡ true → is_operand a ≡ true → AreOperands more
    → line_of_text (w ++ 32 ∷ joined_operands (a ∷ more)) ≡ by_word w (joined_operands (a ∷ more))
line_of_words [] a more g h hs = cc
line_of_words (m ∷ ms) a more g h hs =
    worded m ms (joined_operands (a ∷ more)) g (inner_operands a more h hs) (end_operands a more h hs) (dark_operands a more h)

pub lines_of_words : (w a : List ℕ) (more : List (List ℕ)) → is_operand w ≡ true → is_operand a ≡ true → AreOperands more
    → lines_of_text (w ++ 32 ∷ joined_operands (a ∷ more)) ≡ (w ++ 32 ∷ joined_operands (a ∷ more)) ∷ []
lines_of_words w a more g h hs =
    let inner = all_append is_inner w (32 ∷ joined_operands (a ∷ more)) (all_weaker is_plain is_inner inner_plain w (plain_operand w g)) (inner_operands a more h hs) in
    one_part (λ b. b == 10) (w ++ 32 ∷ joined_operands (a ∷ more))
    (all_weaker is_inner (λ b. cond (b == 10) false true) (λ b k. left_of (is_not 10 b) (is_not 35 b) k) (w ++ 32 ∷ joined_operands (a ∷ more)) inner)

-- ---- texts of one line
-- a text assembles to one word of text
abbrev pub Assembles : List ℕ → ℕ → Type 0
Assembles text w = (asm_fault text ≡ None) × (text_words text ≡ w ∷ []) × (data_words text ≡ [])

pub assembles_instruction : (text : List ℕ) (m : Mnemonic) (rest : List ℕ) (vs : List ℕ) → parsed_lines text ≡ Instruction m rest ∷ []
    → all_values [] 0x00400000 (operand_forms m) (operand_texts rest) ≡ Ok vs
    → Assembles text (word_of (inst_of_operands m (λ i. slice_index vs i)))
assembles_instruction text m rest vs is values = (
  ap (λ ls. lines_fault_from (labels_from start_place ls) [] start_place 1 ls) is ∙ ap (λ r. fault_by 1 (as_list (word_with m r)) None) values,
  ap (λ ls. words_from false (labels_from start_place ls) [] start_place ls) is ∙ ap (λ r. words_in false start_place (as_list (word_with m r)) ++ []) values,
  ap (λ ls. words_from true (labels_from start_place ls) [] start_place ls) is ∙ ap (λ r. words_in true start_place (as_list (word_with m r)) ++ []) values,
)

pub assembles_word : (text rest : List ℕ) (w : ℕ) → parsed_lines text ≡ Word rest ∷ [] → word_value rest ≡ Ok w → Assembles text w
assembles_word text rest w is value = (
  ap (λ ls. lines_fault_from (labels_from start_place ls) [] start_place 1 ls) is ∙ ap (λ r. fault_by 1 (as_list r) None) value,
  ap (λ ls. words_from false (labels_from start_place ls) [] start_place ls) is ∙ ap (λ r. words_in false start_place (as_list r) ++ []) value,
  ap (λ ls. words_from true (labels_from start_place ls) [] start_place ls) is ∙ ap (λ r. words_in true start_place (as_list r) ++ []) value,
)
