-- Labels with the same addresses give the same words.
use Rattle.std.proofs.Common.{◌≡◌, ℕ, ◌+◌, ◌-◌, ◌++◌, Bool, true, false, cond, List, [], ◌∷◌, length, take, drop, refl, ap, sym, ◌∙◌, Option, Some, None, is_some, Result, Ok, Err}
use Rattle.std.specs.Prelude.{◌==◌, codes, slice_index}
use Rattle.std.specs.Str.{byte}
use Rattle.asm_lines.specs.Lexical.{is_name, operand_texts}
use Rattle.asm_lines.specs.Lines.{Line, Nothing, Label, TextSegment, DataSegment, Word, Space, Instruction, NoForm}
use Rattle.asm_lines.specs.Numbers.{written_number}
use Rattle.asm_lines.specs.Operands.{LabelList, label_address, around, both_values, branch_to, by_halves, half_of, immediate, in_memory, jump_to, last_opening, lower_half, name_within, number_operand, numbered, one, or_kind, register_operand, target, upper_half}
use Rattle.mips_asm.specs.Instructions.{OperandForm, Register, Amount, Code, TrapCode, Signed, Unsigned, InMemory, Near, Far, all_values, operand_forms, values, word_with}
use Rattle.mips_asm.specs.Passes.{fault_marked, first_again, is_line, unmarked, words_left}
use Rattle.mips_asm.specs.declared.place.Place.{Place}
use Rattle.mips_asm.specs.Program.{address, as_list, asm_fault, place_after, fault_by, filled, is_within_limits, labels_from, line_words, parsed_lines, start_place, kind_unless, with_label, words_from, words_in}
use Rattle.mips_asm.proofs.PassLemmas.{fault_by_mark}

abbrev pub AreAlike : LabelList → LabelList → Type 0
AreAlike a b = (name : List ℕ) → label_address a name ≡ label_address b name

alike_halves : (a b : LabelList) (upper lower : Option (List ℕ)) (r : Result ℕ ℕ) → AreAlike a b → by_halves a upper lower r ≡ by_halves b upper lower r
alike_halves a b (Some name) lower r h = ap (λ o. half_of upper_half o) (h name)
alike_halves a b None (Some name) r h = ap (λ o. half_of lower_half o) (h name)
alike_halves a b None None r h = refl

alike_immediate : (low : ℕ) (a b : LabelList) (text : List ℕ) → AreAlike a b → immediate low a text ≡ immediate low b text
alike_immediate low a b text h =
    alike_halves a b (name_within (codes "%hi(") text) (name_within (codes "%lo(") text) (number_operand low 65535 16 text) h

alike_around : (a b : LabelList) (inner : List ℕ) (o : Option ℕ) → AreAlike a b → around a inner o ≡ around b inner o
alike_around a b inner None h = refl
alike_around a b inner (Some i) h =
    ap (λ r. both_values (one r) (one (register_operand (drop (i + 1) inner)))) (alike_immediate 32768 a b (take i inner) h)

alike_in_memory : (a b : LabelList) (text : List ℕ) → AreAlike a b → in_memory a text ≡ in_memory b text
alike_in_memory a b text h =
    let inner = take (length text - 1) text in
    ap (λ r. cond (slice_index text (length text - 1) == byte ")") r (Err 2)) (alike_around a b inner (last_opening inner) h)

alike_target : (a b : LabelList) (text : List ℕ) → AreAlike a b → target a text ≡ target b text
alike_target a b text h = ap (λ o. cond (is_name text) (or_kind 5 o) (numbered (written_number text))) (h text)

alike_values : (a b : LabelList) (at : ℕ) (form : OperandForm) (text : List ℕ) → AreAlike a b → values a at form text ≡ values b at form text
alike_values a b at Register text h = refl
alike_values a b at Amount text h = refl
alike_values a b at Code text h = refl
alike_values a b at TrapCode text h = refl
alike_values a b at Signed text h = ap (λ r. one r) (alike_immediate 32768 a b text h)
alike_values a b at Unsigned text h = ap (λ r. one r) (alike_immediate 0 a b text h)
alike_values a b at InMemory text h = alike_in_memory a b text h
alike_values a b at Near text h = ap (λ r. one (branch_to at r)) (alike_target a b text h)
alike_values a b at Far text h = ap (λ r. one (jump_to at r)) (alike_target a b text h)

alike_all : (a b : LabelList) (at : ℕ) (fs : List OperandForm) (texts : List (List ℕ)) → AreAlike a b → all_values a at fs texts ≡ all_values b at fs texts
alike_all a b at [] [] h = refl
alike_all a b at [] (t ∷ ts) h = refl
alike_all a b at (f ∷ fs) [] h = refl
alike_all a b at (f ∷ fs) (t ∷ ts) h =
    ap (λ r. both_values r (all_values a at fs ts)) (alike_values a b at f t h) ∙ ap (λ r. both_values (values b at f t) r) (alike_all a b at fs ts h)

alike_line : (a b : LabelList) (p : Place) (l : Line) → AreAlike a b → line_words a [] p l ≡ line_words b [] p l
alike_line a b p Nothing h = refl
alike_line a b p (Label name) h = refl
alike_line a b p (TextSegment rest) h = refl
alike_line a b p (DataSegment rest) h = refl
alike_line a b p (Word rest) h = refl
alike_line a b p (Space rest) h = refl
alike_line a b p (Instruction m rest) h =
    ap (λ r. kind_unless 3 (cond p.in_data false (is_within_limits (filled 4 p))) (as_list (word_with m r)))
    (alike_all a b (address p) (operand_forms m) (operand_texts rest) h)
alike_line a b p NoForm h = refl

alike_words : (in_data : Bool) (a b : LabelList) (p : Place) (lines : List Line) → AreAlike a b → words_left in_data a p lines ≡ words_left in_data b p lines
alike_words in_data a b p [] h = refl
alike_words in_data a b p (l ∷ lines) h =
    ap (λ r. words_in in_data p r ++ words_left in_data a (place_after l p) lines) (alike_line a b p l h)
    ∙ ap (λ ws. words_in in_data p (line_words b [] p l) ++ ws) (alike_words in_data a b (place_after l p) lines h)

alike_faults : (a b : LabelList) (mark : Option ℕ) (p : Place) (n : ℕ) (lines : List Line) → AreAlike a b
    → fault_marked a mark p n lines ≡ fault_marked b mark p n lines
alike_faults a b mark p n [] h = refl
alike_faults a b mark p n (l ∷ lines) h =
    ap (λ r. fault_by n (unmarked (is_line mark n) r) (fault_marked a mark (place_after l p) (n + 1) lines)) (alike_line a b p l h)
    ∙ ap (λ o. fault_by n (unmarked (is_line mark n) (line_words b [] p l)) o) (alike_faults a b mark (place_after l p) (n + 1) lines h)

no_words_in : (in_data : Bool) (p : Place) (t : Bool) → words_in in_data p (kind_unless 4 (cond t false true) (Ok [])) ≡ words_in in_data p (Ok [])
no_words_in true p true = by p.in_data
  where
    by : (u : Bool) → [] ≡ cond {A = List ℕ} u [] []
    by true = refl
    by false = refl
no_words_in false p true = by p.in_data
  where
    by : (u : Bool) → [] ≡ cond {A = List ℕ} u [] []
    by true = refl
    by false = refl
no_words_in in_data p false = refl

-- a label's line has no words, whatever labels are known
known_words : (in_data : Bool) (all known : LabelList) (p : Place) (l : Line) → words_in in_data p (line_words all known p l) ≡ words_in in_data p (line_words all [] p l)
known_words in_data all known p (Label name) = no_words_in in_data p (is_some (label_address known name))
known_words in_data all known p Nothing = refl
known_words in_data all known p (TextSegment text) = refl
known_words in_data all known p (DataSegment text) = refl
known_words in_data all known p (Word text) = refl
known_words in_data all known p (Space text) = refl
known_words in_data all known p (Instruction m text) = refl
known_words in_data all known p NoForm = refl

words_known : (in_data : Bool) (all known : LabelList) (p : Place) (lines : List Line) → words_from in_data all known p lines ≡ words_left in_data all p lines
words_known in_data all known p [] = refl
words_known in_data all known p (l ∷ lines) =
    ap (λ ws. ws ++ words_from in_data all (with_label l (address p) known) (place_after l p) lines) (known_words in_data all known p l)
    ∙ ap (λ ws. words_in in_data p (line_words all [] p l) ++ ws) (words_known in_data all (with_label l (address p) known) (place_after l p) lines)

-- the words by the labels that were found are those of the text
pub found_words : (in_data : Bool) (found : LabelList) (text : List ℕ) → AreAlike found (labels_from start_place (parsed_lines text))
    → words_left in_data found start_place (parsed_lines text) ≡ words_from in_data (labels_from start_place (parsed_lines text)) [] start_place (parsed_lines text)
found_words in_data found text h =
    alike_words in_data found (labels_from start_place (parsed_lines text)) start_place (parsed_lines text) h
    ∙ sym (words_known in_data (labels_from start_place (parsed_lines text)) [] start_place (parsed_lines text))

-- and so is the fault
pub found_fault : (found : LabelList) (again : Option ℕ) (text : List ℕ) → AreAlike found (labels_from start_place (parsed_lines text))
    → again ≡ first_again [] start_place 1 (parsed_lines text) → fault_marked found again start_place 1 (parsed_lines text) ≡ asm_fault text
found_fault found again text h e =
    ap (λ o. fault_marked found o start_place 1 (parsed_lines text)) e
    ∙ alike_faults found (labels_from start_place (parsed_lines text)) (first_again [] start_place 1 (parsed_lines text)) start_place 1 (parsed_lines text) h
    ∙ sym (fault_by_mark (labels_from start_place (parsed_lines text)) [] start_place 1 (parsed_lines text))
