-- The two passes over the lines of a text: the labels with the first line that has an earlier one's, then the words.
use Rattle.std.specs.Prelude.{ℕ, ◌+◌, ◌==◌, ◌++◌, ◌≤◌, Bool, true, false, cond, is_some, List, [], ◌∷◌, map, Option, Some, None, Result, Err}
use Rattle.asm_lines.specs.Cuts.{lines_behind}
use Rattle.asm_lines.specs.Lines.{Line, Nothing, Label, TextSegment, DataSegment, Word, Space, Instruction, NoForm, line_of_text}
use Rattle.asm_lines.specs.Operands.{LabelList, label_address}
use Rattle.mips_asm.specs.declared.place.Place.{Place}
use Rattle.mips_asm.specs.Program.{address, place_after, fault_by, line_words, with_label, words_in}

-- no segment has more bytes than this so far
abbrev pub IsLow : ℕ → Place → Type 0
IsLow n p = (p.text ≤ n) × (p.data_bytes ≤ n)

-- the lines of what is left of a text
abbrev pub lines_left : Option (List ℕ) → List Line
lines_left text = map line_of_text (lines_behind text)

-- whether a line is a label that is known
abbrev pub is_again : LabelList → Line → Bool
is_again known (Label name) = is_some (label_address known name)
is_again known Nothing = false
is_again known (TextSegment rest) = false
is_again known (DataSegment rest) = false
is_again known (Word rest) = false
is_again known (Space rest) = false
is_again known (Instruction m rest) = false
is_again known NoForm = false

-- the first of these lines that is a label that is known or that an earlier line has
abbrev pub first_again : LabelList → Place → ℕ → List Line → Option ℕ
first_again known p n [] = None
first_again known p n (l ∷ lines) =
    cond (is_again known l) (Some n)
    (first_again (with_label l (address p) known) (place_after l p) (n + 1) lines)

-- whether a line is the one marked
abbrev pub is_line : Option ℕ → ℕ → Bool
is_line None n = false
is_line (Some m) n = m == n

-- what a line stands for, if it is not marked
abbrev pub unmarked : {A : Type 0} → Bool → Result A ℕ → Result A ℕ
unmarked true r = Err 4
unmarked false r = r

-- the first fault, where one line is marked
abbrev pub fault_marked : LabelList → Option ℕ → Place → ℕ → List Line → Option (ℕ × ℕ)
fault_marked all mark p n [] = None
fault_marked all mark p n (l ∷ lines) =
    fault_by n (unmarked (is_line mark n) (line_words all [] p l))
    (fault_marked all mark (place_after l p) (n + 1) lines)

-- the words that lines put into the text or the data segment, whatever labels stand before
abbrev pub words_left : Bool → LabelList → Place → List Line → List ℕ
words_left in_data all p [] = []
words_left in_data all p (l ∷ lines) =
    words_in in_data p (line_words all [] p l) ++ words_left in_data all (place_after l p) lines
