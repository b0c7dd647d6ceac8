-- One line more of the second pass.
use Rattle.std.proofs.Common.{◌≡◌, ℕ, ◌+◌, ◌*◌, ◌/◌, ◌%◌, ◌≤◌, ◌++◌, Bool, true, false, cond, List, [], ◌∷◌, length, replicate, arith, append_assoc, length-append, subst, refl, ap, sym, ◌∙◌, Option, Some, Result, Ok, Err}
use Rattle.std.specs.Prelude.{◌==◌}
use Rattle.std.proofs.lemmas.List.{length-replicate}
use Rattle.elf_definition.specs.FileFields.{words}
use Rattle.run_definition.specs.Words.{bytes_of_word}
use Rattle.asm_lines.specs.Lines.{Line, Nothing, Label, TextSegment, DataSegment, Word, Space, Instruction, NoForm}
use Rattle.asm_lines.specs.Operands.{LabelList, number_operand}
use Rattle.mips_asm.specs.Instructions.{instruction_word}
use Rattle.mips_asm.specs.declared.place.Place.{Place}
use Rattle.mips_asm.specs.Program.{address, as_list, bare, place_after, entered_segment, fault_by, filled, is_within_limits, line_words, or_none, size, space_value, kind_unless, whole_words, word_value, words_in, zeros}
use Rattle.mips_asm.specs.Passes.{fault_marked, is_line, lines_left, unmarked, words_left}

pub unmarked_ok : (t : Bool) (r : Result (List ℕ) ℕ) (ws : List ℕ) → unmarked t r ≡ Ok ws → r ≡ Ok ws
unmarked_ok true r ws h = cc
unmarked_ok false r ws h = h

-- a line without a fault is not the faulty one
pub fault_next : (all : LabelList) (mark : Option ℕ) (l : Line) (p q : Place) (n : ℕ) (left after : Option (List ℕ)) (ws : List ℕ) (whole : Option (ℕ × ℕ))
    → lines_left left ≡ l ∷ lines_left after → q ≡ place_after l p
    → unmarked (is_line mark n) (line_words all [] p l) ≡ Ok ws
    → fault_marked all mark p n (lines_left left) ≡ whole → fault_marked all mark q (n + 1) (lines_left after) ≡ whole
fault_next all mark l p q n left after ws whole is place fine was =
    ap (λ x. fault_marked all mark x (n + 1) (lines_left after)) place
    ∙ ap (λ r. fault_by n r (fault_marked all mark (place_after l p) (n + 1) (lines_left after))) (sym fine)
    ∙ ap (λ ls. fault_marked all mark p n ls) (sym is) ∙ was

-- a line with a fault is the faulty one
pub fault_here : (all : LabelList) (mark : Option ℕ) (l : Line) (p : Place) (n k : ℕ) (left after : Option (List ℕ)) (whole : Option (ℕ × ℕ))
    → lines_left left ≡ l ∷ lines_left after → unmarked (is_line mark n) (line_words all [] p l) ≡ Err k
    → fault_marked all mark p n (lines_left left) ≡ whole → whole ≡ Some (n, k)
fault_here all mark l p n k left after whole is fault was =
    sym was ∙ ap (λ ls. fault_marked all mark p n ls) is
    ∙ ap (λ r. fault_by n r (fault_marked all mark (place_after l p) (n + 1) (lines_left after))) fault

words_both : (xs ys : List ℕ) → words (xs ++ ys) ≡ words xs ++ words ys
words_both [] ys = refl
words_both (x ∷ xs) ys = ap (λ zs. bytes_of_word x ++ zs) (words_both xs ys)

-- the words so far and those of the lines that are left are all
pub words_next : (in_data : Bool) (all : LabelList) (l : Line) (p q : Place) (left after : Option (List ℕ)) (ws old new whole : List ℕ)
    → lines_left left ≡ l ∷ lines_left after → q ≡ place_after l p → line_words all [] p l ≡ Ok ws
    → new ≡ old ++ words (words_in in_data p (Ok ws))
    → old ++ words (words_left in_data all p (lines_left left)) ≡ whole
    → new ++ words (words_left in_data all q (lines_left after)) ≡ whole
words_next in_data all l p q left after ws old new whole is place fine appended was =
    ap (λ x. new ++ words (words_left in_data all x (lines_left after))) place
    ∙ ap (λ x. x ++ words (words_left in_data all (place_after l p) (lines_left after))) appended
    ∙ append_assoc old (words (words_in in_data p (Ok ws))) (words (words_left in_data all (place_after l p) (lines_left after)))
    ∙ ap (λ x. old ++ x) (sym (words_both (words_in in_data p (Ok ws)) (words_left in_data all (place_after l p) (lines_left after))))
    ∙ ap (λ r. old ++ words (words_in in_data p r ++ words_left in_data all (place_after l p) (lines_left after))) (sym fine)
    ∙ ap (λ ls. old ++ words (words_left in_data all p ls)) (sym is) ∙ was

-- ---- how far a line goes
-- so many bytes more in the segment that is filled, within the limits
abbrev pub Fills : Place → Place → ℕ → Type 0
Fills p q n =
    (q.text ≡ p.text + cond p.in_data 0 n) × (q.data_bytes ≡ p.data_bytes + cond p.in_data n 0)
    × (p.text ≤ 4194304 → q.text ≤ 4194304) × (p.data_bytes ≤ 16777216 → q.data_bytes ≤ 16777216)

fills_place : (in_data : Bool) (text data_bytes n : ℕ)
    → is_within_limits (filled n (record { in_data = in_data; text = text; data_bytes = data_bytes })) ≡ true
    → Fills (record { in_data = in_data; text = text; data_bytes = data_bytes }) (filled n (record { in_data = in_data; text = text; data_bytes = data_bytes })) n
fills_place true text data_bytes n h = (omega arith, refl, (λ k. k), (λ k. grind arith))
fills_place false text data_bytes n h = (refl, omega arith, (λ k. grind arith), (λ k. k))

fills_none : (in_data : Bool) (text data_bytes : ℕ)
    → Fills (record { in_data = in_data; text = text; data_bytes = data_bytes }) (filled 0 (record { in_data = in_data; text = text; data_bytes = data_bytes })) 0
fills_none true text data_bytes = (omega arith, refl, (λ k. k), (λ k. omega (arith, k)))
fills_none false text data_bytes = (refl, omega arith, (λ k. omega (arith, k)), (λ k. k))

fills_same : (in_data : Bool) (p q : Place) → q.text ≡ p.text → q.data_bytes ≡ p.data_bytes → p.in_data ≡ in_data → Fills p q 0
fills_same true p q a b e = rw e (omega (arith, a), omega (arith, b), (λ k. omega (arith, k, a)), (λ k. omega (arith, k, b)))
fills_same false p q a b e = rw e (omega (arith, a), omega (arith, b), (λ k. omega (arith, k, a)), (λ k. omega (arith, k, b)))

unless_true : (kind : ℕ) (t : Bool) (r : Result (List ℕ) ℕ) (ws : List ℕ) → kind_unless kind t r ≡ Ok ws → t ≡ true
unless_true kind true r ws h = refl
unless_true kind false (Ok x) ws h = cc
unless_true kind false (Err k) ws h = cc

unless_ok : (kind : ℕ) (t : Bool) (r : Result (List ℕ) ℕ) (ws : List ℕ) → kind_unless kind t r ≡ Ok ws → r ≡ Ok ws
unless_ok kind true r ws h = h
unless_ok kind false (Ok x) ws h = cc
unless_ok kind false (Err k) ws h = cc

one_word : (r : Result ℕ ℕ) (ws : List ℕ) → as_list r ≡ Ok ws → 4 * length ws ≡ 4
one_word (Ok w) ws h = let e : w ∷ [] ≡ ws = cc in rw (← e) refl
one_word (Err k) ws h = cc

no_words : (r : Result (List ℕ) ℕ) (ws : List ℕ) → r ≡ Ok [] → r ≡ Ok ws → 4 * length ws ≡ 0
no_words r ws a b = let e : [] ≡ ws = cc in rw (← e) refl

fills_bytes : (p q : Place) (n m : ℕ) → n ≡ m → Fills p q m → Fills p q n
fills_bytes p q n m e h = subst (λ k. Fills p q k) (sym e) h

fills_entered : (in_data : Bool) (rest ws : List ℕ) (p : Place) → bare rest ≡ Ok ws → Fills p (entered_segment in_data rest p) (4 * length ws)
fills_entered in_data [] ws p h =
    fills_bytes p (entered_segment in_data [] p) (4 * length ws) 0 (no_words (bare []) ws refl h) (fills_same p.in_data p (entered_segment in_data [] p) refl refl refl)
fills_entered in_data (b ∷ bs) ws p h = cc

fills_filled : (p : Place) (n : ℕ) (ws : List ℕ) (r : Result ℕ ℕ) → is_within_limits (filled 4 p) ≡ true → as_list r ≡ Ok ws → Fills p (filled 4 p) (4 * length ws)
fills_filled p n ws r h k =
    fills_bytes p (filled 4 p) (4 * length ws) 4 (one_word r ws k) (fills_place p.in_data p.text p.data_bytes 4 h)

fills_space : (p : Place) (n : ℕ) (t : Bool) → (n == 0) ≡ t → cond t true (is_within_limits (filled n p)) ≡ true → Fills p (filled n p) n
fills_space p n true e h =
    let z : n ≡ 0 = grind arith in
    subst (λ k. Fills p (filled k p) k) (sym z) (fills_none p.in_data p.text p.data_bytes)
fills_space p n false e h = fills_place p.in_data p.text p.data_bytes n h

four_words : (n : ℕ) (ws : List ℕ) (t : Bool) → (n % 4 == 0) ≡ t → zeros (cond t (Ok n) (Err 3)) ≡ Ok ws → 4 * length ws ≡ or_none (cond t (Ok n) (Err 3))
four_words n ws true e h =
    let f : replicate (n / 4) 0 ≡ ws = cc in
    let g : length ws ≡ n / 4 = ap (λ xs. length xs) (sym f) ∙ length-replicate (n / 4) 0 in
    let z : n % 4 ≡ 0 = grind arith in
    omega (arith, g, z)
four_words n ws false e h = cc

space_words : (r : Result ℕ ℕ) (ws : List ℕ) → zeros (whole_words r) ≡ Ok ws → 4 * length ws ≡ or_none (whole_words r)
space_words (Ok n) ws h = four_words n ws (n % 4 == 0) refl h
space_words (Err k) ws h = cc

not_data : (t : Bool) (r : Bool) → cond t false r ≡ true → r ≡ true
not_data true r h = cc
not_data false r h = h

-- a line without a fault fills the bytes of its words
fills : (all : LabelList) (l : Line) (p : Place) (ws : List ℕ) → line_words all [] p l ≡ Ok ws → Fills p (place_after l p) (4 * length ws)
fills all Nothing p ws h = fills_bytes p p (4 * length ws) 0 (no_words (Ok []) ws refl h) (fills_same p.in_data p p refl refl refl)
fills all (Label name) p ws h = fills_bytes p p (4 * length ws) 0 (no_words (Ok []) ws refl h) (fills_same p.in_data p p refl refl refl)
fills all (TextSegment rest) p ws h = fills_entered false rest ws p h
fills all (DataSegment rest) p ws h = fills_entered true rest ws p h
fills all (Word rest) p ws h =
    fills_filled p 4 ws (word_value rest) (unless_true 3 (is_within_limits (filled 4 p)) (as_list (word_value rest)) ws h)
    (unless_ok 3 (is_within_limits (filled 4 p)) (as_list (word_value rest)) ws h)
fills all (Space rest) p ws h =
    let n = size (Space rest) in
    let t = cond (n == 0) true (is_within_limits (filled n p)) in
    fills_bytes p (filled n p) (4 * length ws) n (space_words (number_operand 0 1048576 21 rest) ws (unless_ok 3 t (zeros (space_value rest)) ws h))
    (fills_space p n (n == 0) refl (unless_true 3 t (zeros (space_value rest)) ws h))
fills all (Instruction m rest) p ws h =
    let t = cond p.in_data false (is_within_limits (filled 4 p)) in
    let r = instruction_word all (address p) m rest in
    fills_filled p 4 ws r (not_data p.in_data (is_within_limits (filled 4 p)) (unless_true 3 t (as_list r) ws h)) (unless_ok 3 t (as_list r) ws h)
fills all NoForm p ws h = cc

length_words : (ws : List ℕ) → length (words ws) ≡ 4 * length ws
length_words [] = refl
length_words (w ∷ ws) = omega (arith, length_words ws)

length_text : (t : Bool) (ws : List ℕ) → length (words (cond t [] ws)) ≡ cond t 0 (4 * length ws)
length_text true ws = refl
length_text false ws = length_words ws

length_data : (t : Bool) (ws : List ℕ) → length (words (cond t ws [])) ≡ cond t (4 * length ws) 0
length_data true ws = length_words ws
length_data false ws = refl

-- the place behind a line tells the lengths of the segments
pub text_next : (all : LabelList) (l : Line) (p q : Place) (ws old new : List ℕ) → q ≡ place_after l p → line_words all [] p l ≡ Ok ws
    → new ≡ old ++ words (cond p.in_data [] ws) → p.text ≡ length old → q.text ≡ length new
text_next all l p q ws old new place fine appended was =
    ap (λ x. x.text) place ∙ (fills all l p ws fine).0
    ∙ omega (arith, was, length_text p.in_data ws, length-append old (words (cond p.in_data [] ws)))
    ∙ ap (λ xs. length xs) (sym appended)

pub data_next : (all : LabelList) (l : Line) (p q : Place) (ws old new : List ℕ) → q ≡ place_after l p → line_words all [] p l ≡ Ok ws
    → new ≡ old ++ words (cond p.in_data ws []) → p.data_bytes ≡ length old → q.data_bytes ≡ length new
data_next all l p q ws old new place fine appended was =
    ap (λ x. x.data_bytes) place ∙ (fills all l p ws fine).1
    ∙ omega (arith, was, length_data p.in_data ws, length-append old (words (cond p.in_data ws [])))
    ∙ ap (λ xs. length xs) (sym appended)

pub text_within : (all : LabelList) (l : Line) (p q : Place) (ws : List ℕ) → q ≡ place_after l p → line_words all [] p l ≡ Ok ws
    → p.text ≤ 4194304 → q.text ≤ 4194304
text_within all l p q ws place fine was = rw place ((fills all l p ws fine).2 was)

pub data_within : (all : LabelList) (l : Line) (p q : Place) (ws : List ℕ) → q ≡ place_after l p → line_words all [] p l ≡ Ok ws
    → p.data_bytes ≤ 16777216 → q.data_bytes ≤ 16777216
data_within all l p q ws place fine was = rw place ((fills all l p ws fine).3 was)
