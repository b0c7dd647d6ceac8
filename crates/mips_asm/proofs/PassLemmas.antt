-- One line more of the first pass.
use Rattle.std.proofs.Common.{◌≡◌, ℕ, ◌+◌, ◌*◌, ◌%◌, ◌<◌, ◌≤◌, Bool, true, false, cond, List, [], ◌∷◌, map, arith, refl, ap, sym, ◌∙◌, Option, Some, None, is_some, bytes_eq, Result, Ok, Err}
use Rattle.std.specs.Prelude.{◌==◌}
use Rattle.asm_lines.specs.Cuts.{lines_behind}
use Rattle.asm_lines.specs.Lexical.{lines_of_text}
use Rattle.asm_lines.specs.Numbers.{written_number, is_between, low_bits_of}
use Rattle.asm_lines.specs.declared.number.Number.{Number}
use Rattle.asm_lines.specs.Lines.{line_of_text, Line, Nothing, Label, TextSegment, DataSegment, Word, Space, Instruction, NoForm}
use Rattle.asm_lines.specs.Operands.{LabelList, label_address, first_of, in_range}
use Rattle.mips_asm.specs.declared.place.Place.{Place}
use Rattle.mips_asm.specs.Program.{address, place_after, entered_segment, filled, or_none, size, whole_words, labels_from, with_label, lines_fault_from, fault_by, line_words, kind_unless}
use Rattle.mips_asm.specs.Passes.{IsLow, lines_left, is_again, first_again, is_line, unmarked, fault_marked}

first_of_first : (a b c : Option ℕ) → first_of (first_of a b) c ≡ first_of a (first_of b c)
first_of_first None b c = refl
first_of_first (Some a) b c = refl

is_some_either : (a b : Option ℕ) → is_some (first_of a b) ≡ is_some (first_of b a)
is_some_either None None = refl
is_some_either None (Some b) = refl
is_some_either (Some a) None = refl
is_some_either (Some a) (Some b) = refl

-- a line's label comes before those of the further lines
pub with_label_first : (l : Line) (at : ℕ) (rest : LabelList) (name : List ℕ)
    → label_address (with_label l at rest) name ≡ first_of (label_address (with_label l at []) name) (label_address rest name)
with_label_first (Label own) at rest name =
    elim (bytes_eq own name) as (λ t. cond t (Some at) (label_address rest name) ≡ first_of (cond t (Some at) None) (label_address rest name))
    [ true ↦ refl | false ↦ refl ]
with_label_first Nothing at rest name = refl
with_label_first (TextSegment text) at rest name = refl
with_label_first (DataSegment text) at rest name = refl
with_label_first (Word text) at rest name = refl
with_label_first (Space text) at rest name = refl
with_label_first (Instruction m text) at rest name = refl
with_label_first NoForm at rest name = refl

-- the addresses, where a line more was noted
pub addresses_more : (old new : LabelList) (l : Line) (p : Place) (lines : List Line) (name : List ℕ)
    → label_address new name ≡ first_of (label_address old name) (label_address (with_label l (address p) []) name)
    → first_of (label_address new name) (label_address (labels_from (place_after l p) lines) name) ≡ first_of (label_address old name) (label_address (labels_from p (l ∷ lines)) name)
addresses_more old new l p lines name h =
    ap (λ o. first_of o (label_address (labels_from (place_after l p) lines) name)) h
    ∙ first_of_first (label_address old name) (label_address (with_label l (address p) []) name) (label_address (labels_from (place_after l p) lines) name)
    ∙ ap (λ o. first_of (label_address old name) o) (sym (with_label_first l (address p) (labels_from (place_after l p) lines) name))

known_more : (l : Line) (at : ℕ) (a b : LabelList)
    → ((name : List ℕ) → is_some (label_address a name) ≡ is_some (label_address b name))
    → (name : List ℕ) → is_some (label_address (with_label l at a) name) ≡ is_some (label_address (with_label l at b) name)
known_more l at a b h name =
    ap (λ o. is_some o) (with_label_first l at a name) ∙ by (label_address (with_label l at []) name) ∙ sym (ap (λ o. is_some o) (with_label_first l at b name))
  where
    by : (o : Option ℕ) → is_some (first_of o (label_address a name)) ≡ is_some (first_of o (label_address b name))
    by None = h name
    by (Some x) = refl

is_again_same : (l : Line) (a b : LabelList)
    → ((name : List ℕ) → is_some (label_address a name) ≡ is_some (label_address b name)) → is_again a l ≡ is_again b l
is_again_same (Label name) a b h = h name
is_again_same Nothing a b h = refl
is_again_same (TextSegment text) a b h = refl
is_again_same (DataSegment text) a b h = refl
is_again_same (Word text) a b h = refl
is_again_same (Space text) a b h = refl
is_again_same (Instruction m text) a b h = refl
is_again_same NoForm a b h = refl

-- only which names are known counts
first_again_same : (a b : LabelList) (p : Place) (n : ℕ) (lines : List Line)
    → ((name : List ℕ) → is_some (label_address a name) ≡ is_some (label_address b name)) → first_again a p n lines ≡ first_again b p n lines
first_again_same a b p n [] h = refl
first_again_same a b p n (l ∷ lines) h =
    ap (λ t. cond t (Some n) (first_again (with_label l (address p) a) (place_after l p) (n + 1) lines)) (is_again_same l a b h)
    ∙ ap (λ o. cond (is_again b l) (Some n) o)
    (first_again_same (with_label l (address p) a) (with_label l (address p) b) (place_after l p) (n + 1) lines (known_more l (address p) a b h))

-- the first line with a known label, where a line more was noted
pub again_more : (old new : LabelList) (l : Line) (p : Place) (n : ℕ) (lines : List Line) (mark : Option ℕ)
    → ((name : List ℕ) → label_address new name ≡ first_of (label_address old name) (label_address (with_label l (address p) []) name))
    → first_of (first_of mark (cond (is_again old l) (Some n) None)) (first_again new (place_after l p) (n + 1) lines)
    ≡ first_of mark (first_again old p n (l ∷ lines))
again_more old new l p n lines mark h =
    first_of_first mark (cond (is_again old l) (Some n) None) (first_again new (place_after l p) (n + 1) lines)
    ∙ ap (λ o. first_of mark o) (by (is_again old l))
  where
    known : (name : List ℕ) → is_some (label_address new name) ≡ is_some (label_address (with_label l (address p) old) name)
    known name =
        ap (λ o. is_some o) (h name) ∙ is_some_either (label_address old name) (label_address (with_label l (address p) []) name)
        ∙ sym (ap (λ o. is_some o) (with_label_first l (address p) old name))

    by : (t : Bool) → first_of (cond t (Some n) None) (first_again new (place_after l p) (n + 1) lines)
        ≡ cond t (Some n) (first_again (with_label l (address p) old) (place_after l p) (n + 1) lines)
    by true = refl
    by false = first_again_same new (with_label l (address p) old) (place_after l p) (n + 1) lines known

-- ---- the marked line
is_line_later : (known : LabelList) (p : Place) (m n : ℕ) (lines : List Line) → n < m → is_line (first_again known p m lines) n ≡ false
is_line_later known p m n [] h = refl
is_line_later known p m n (l ∷ lines) h =
    elim (is_again known l) as (λ t. is_line (cond t (Some m) (first_again (with_label l (address p) known) (place_after l p) (m + 1) lines)) n ≡ false) [
      | true ↦ grind arith
      | false ↦ is_line_later (with_label l (address p) known) (place_after l p) (m + 1) n lines (omega arith)
    ]

label_words : (t : Bool) → kind_unless {A = List ℕ} 4 (cond t false true) (Ok []) ≡ unmarked t (Ok [])
label_words true = refl
label_words false = refl

-- a line is at fault for its label exactly where it has a known one
line_words_unmarked : (all known : LabelList) (p : Place) (l : Line) → line_words all known p l ≡ unmarked (is_again known l) (line_words all [] p l)
line_words_unmarked all known p (Label name) = label_words (is_some (label_address known name))
line_words_unmarked all known p Nothing = refl
line_words_unmarked all known p (TextSegment text) = refl
line_words_unmarked all known p (DataSegment text) = refl
line_words_unmarked all known p (Word text) = refl
line_words_unmarked all known p (Space text) = refl
line_words_unmarked all known p (Instruction m text) = refl
line_words_unmarked all known p NoForm = refl

same_line : (n : ℕ) → (n == n) ≡ true
same_line n = grind arith

fault_step : (all known next : LabelList) (p q : Place) (n : ℕ) (lines : List Line) (r : Result (List ℕ) ℕ) (t : Bool)
    → lines_fault_from all next q (n + 1) lines ≡ fault_marked all (first_again next q (n + 1) lines) q (n + 1) lines
    → fault_by n (unmarked t r) (lines_fault_from all next q (n + 1) lines)
    ≡ fault_by n (unmarked (is_line (cond t (Some n) (first_again next q (n + 1) lines)) n) r)
    (fault_marked all (cond t (Some n) (first_again next q (n + 1) lines)) q (n + 1) lines)
fault_step all known next p q n lines r true h = rw (same_line n) refl
fault_step all known next p q n lines r false h =
    ap (λ o. fault_by n r o) h
    ∙ ap (λ t. fault_by n (unmarked t r) (fault_marked all (first_again next q (n + 1) lines) q (n + 1) lines))
    (sym (is_line_later next q (n + 1) n lines (omega arith)))

-- to mark the first line with a known label finds the first fault
pub fault_by_mark : (all known : LabelList) (p : Place) (n : ℕ) (lines : List Line)
    → lines_fault_from all known p n lines ≡ fault_marked all (first_again known p n lines) p n lines
fault_by_mark all known p n [] = refl
fault_by_mark all known p n (l ∷ lines) =
    ap (λ r. fault_by n r (lines_fault_from all (with_label l (address p) known) (place_after l p) (n + 1) lines)) (line_words_unmarked all known p l)
    ∙ fault_step all known (with_label l (address p) known) p (place_after l p) n lines (line_words all [] p l) (is_again known l)
    (fault_by_mark all (with_label l (address p) known) (place_after l p) (n + 1) lines)

-- ---- loops over the lines
-- the first line of what is left, and the others
pub left_lines : (left : Option (List ℕ)) (rest front : List ℕ) (after : Option (List ℕ)) (l : Line)
    → left ≡ Some rest → lines_of_text rest ≡ front ∷ lines_behind after → l ≡ line_of_text front → lines_left left ≡ l ∷ lines_left after
left_lines left rest front after l is cut line =
    ap (λ o. lines_left o) is ∙ ap (λ ls. map line_of_text ls) cut ∙ ap (λ x. x ∷ lines_left after) (sym line)

pub addresses_next : (old new : LabelList) (l : Line) (p q : Place) (at : ℕ) (left after : Option (List ℕ)) (name : List ℕ) (whole : Option ℕ)
    → lines_left left ≡ l ∷ lines_left after → q ≡ place_after l p → at ≡ address p
    → label_address new name ≡ first_of (label_address old name) (label_address (with_label l at []) name)
    → first_of (label_address old name) (label_address (labels_from p (lines_left left)) name) ≡ whole
    → first_of (label_address new name) (label_address (labels_from q (lines_left after)) name) ≡ whole
addresses_next old new l p q at left after name whole is place here noted was =
    ap (λ x. first_of (label_address new name) (label_address (labels_from x (lines_left after)) name)) place
    ∙ addresses_more old new l p (lines_left after) name (noted ∙ ap (λ a. first_of (label_address old name) (label_address (with_label l a []) name)) here)
    ∙ ap (λ ls. first_of (label_address old name) (label_address (labels_from p ls) name)) (sym is) ∙ was

pub again_next : (old new : LabelList) (l : Line) (p q : Place) (at n : ℕ) (left after : Option (List ℕ)) (mark next whole : Option ℕ)
    → lines_left left ≡ l ∷ lines_left after → q ≡ place_after l p → at ≡ address p
    → ((name : List ℕ) → label_address new name ≡ first_of (label_address old name) (label_address (with_label l at []) name))
    → next ≡ first_of mark (cond (is_again old l) (Some n) None)
    → first_of mark (first_again old p n (lines_left left)) ≡ whole
    → first_of next (first_again new q (n + 1) (lines_left after)) ≡ whole
again_next old new l p q at n left after mark next whole is place here noted marked was =
    ap (λ x. first_of next (first_again new x (n + 1) (lines_left after))) place
    ∙ ap (λ o. first_of o (first_again new (place_after l p) (n + 1) (lines_left after))) marked
    ∙ again_more old new l p n (lines_left after) mark (λ name. noted name ∙ ap (λ a. first_of (label_address old name) (label_address (with_label l a []) name)) here)
    ∙ ap (λ ls. first_of mark (first_again old p n ls)) (sym is) ∙ was

-- ---- places
few_bits : (t : Bool) (n : Number) → or_none (whole_words (cond t (Ok (low_bits_of 21 n)) (Err 3))) ≤ 2097152
few_bits false n = omega arith
few_bits true n = few (low_bits_of 21 n % 4 == 0)
  where
    few : (t : Bool) → or_none (cond t (Ok (low_bits_of 21 n)) (Err 3)) ≤ 2097152
    few true = omega arith
    few false = omega arith

few_in_range : (n : Option Number) → or_none (whole_words (in_range 0 1048576 21 n)) ≤ 2097152
few_in_range None = omega arith
few_in_range (Some n) = few_bits (is_between 0 1048576 n) n

low_filled : (n m : ℕ) (p : Place) → n ≤ 2097152 → IsLow (2097152 * m) p → IsLow (2097152 * (m + 1)) (filled n p)
low_filled n m p few h =
    elim p.in_data as (λ t. IsLow (2097152 * (m + 1)) (cond t (record p { data_bytes = p.data_bytes + n }) (record p { text = p.text + n })))
    [ true ↦ (omega (arith, h.0), omega (arith, h.1)) | false ↦ (omega (arith, h.0), omega (arith, h.1)) ]

low_more : (m : ℕ) (p : Place) → IsLow (2097152 * m) p → IsLow (2097152 * (m + 1)) p
low_more m p h = (omega (arith, h.0), omega (arith, h.1))

low_entered : (in_data : Bool) (rest : List ℕ) (m : ℕ) (p : Place) → IsLow (2097152 * m) p → IsLow (2097152 * (m + 1)) (entered_segment in_data rest p)
low_entered in_data [] m p h = (omega (arith, h.0), omega (arith, h.1))
low_entered in_data (b ∷ bs) m p h = low_more m p h

low_behind : (l : Line) (m : ℕ) (p : Place) → IsLow (2097152 * m) p → IsLow (2097152 * (m + 1)) (place_after l p)
low_behind (TextSegment rest) m p h = low_entered false rest m p h
low_behind (DataSegment rest) m p h = low_entered true rest m p h
low_behind (Word rest) m p h = low_filled 4 m p (omega arith) h
low_behind (Instruction name rest) m p h = low_filled 4 m p (omega arith) h
low_behind (Space rest) m p h = low_filled (size (Space rest)) m p (few_in_range (written_number rest)) h
low_behind Nothing m p h = low_more m p h
low_behind (Label name) m p h = low_more m p h
low_behind NoForm m p h = low_more m p h

-- a line fills little
pub low_next : (l : Line) (m : ℕ) (p q : Place) → q ≡ place_after l p → IsLow (2097152 * m) p → IsLow (2097152 * (m + 1)) q
low_next l m p q is h = rw is (low_behind l m p h)
