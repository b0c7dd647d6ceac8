-- The program of an assembly text: its words, or its first faulty line with the lowest kind of fault on that line. Kinds: 1 an
-- unknown mnemonic or directive, or a line of no form; 2 a wrong number or form of operands; 3 a number out of range, a target
-- that is no multiple of 4 or out of reach, an instruction in the data segment, or too long a segment; 4 a label that an
-- earlier line has; 5 a name without a label.
use Rattle.std.specs.Prelude.{ℕ, ◌+◌, ◌-◌, ◌/◌, ◌%◌, ◌^◌, ◌==◌, Bool, true, false, nat_le, cond, min, is_some, List, [], ◌∷◌, ◌++◌, map, replicate, Option, Some, None, Result, Ok, Err}
use Rattle.mips_asm.specs.declared.place.Place.{Place}
use Rattle.asm_lines.specs.Lexical.{lines_of_text}
use Rattle.asm_lines.specs.Lines.{Line, Nothing, Label, TextSegment, DataSegment, Word, Space, Instruction, NoForm, line_of_text}
use Rattle.asm_lines.specs.Operands.{LabelList, label_address, number_operand}
use Rattle.mips_asm.specs.Instructions.{instruction_word}

abbrev pub start_place : Place
start_place = record { in_data = false; text = 0; data_bytes = 0 }

-- the address of the next byte: text from 00400000 on, data from 10000000 on
abbrev pub address : Place → ℕ
address p = cond p.in_data (0x10000000 + p.data_bytes) (0x00400000 + p.text)

abbrev pub filled : ℕ → Place → Place
filled n p = cond p.in_data (record p { data_bytes = p.data_bytes + n })
    (record p { text = p.text + n })

-- no more than 1,048,576 words of text and 16,777,216 bytes of data
abbrev pub is_within_limits : Place → Bool
is_within_limits p = cond p.in_data (nat_le p.data_bytes 16777216) (nat_le p.text 4194304)

-- ---- directives
-- the word of `.word N`, whose one operand is all that follows
abbrev pub word_value : List ℕ → Result ℕ ℕ
word_value rest = number_operand (2 ^ 31) (2 ^ 32 - 1) 32 rest

abbrev pub whole_words : Result ℕ ℕ → Result ℕ ℕ
whole_words (Err k) = Err k
whole_words (Ok n) = cond (n % 4 == 0) (Ok n) (Err 3)

-- the bytes of `.space N`
abbrev pub space_value : List ℕ → Result ℕ ℕ
space_value rest = whole_words (number_operand 0 1048576 21 rest)

abbrev pub or_none : Result ℕ ℕ → ℕ
or_none (Ok n) = n
or_none (Err k) = 0

-- ---- places
-- how many bytes a line fills, also a faulty one
abbrev pub size : Line → ℕ
size (Word rest) = 4
size (Instruction m rest) = 4
size (Space rest) = or_none (space_value rest)
size Nothing = 0
size (Label name) = 0
size (TextSegment rest) = 0
size (DataSegment rest) = 0
size NoForm = 0

-- the place where a directive of a segment stands, which goes on at the segment's end so far
abbrev pub entered_segment : Bool → List ℕ → Place → Place
entered_segment in_data [] p = record p { in_data = in_data }
entered_segment in_data (b ∷ bs) p = p

-- the place behind a line
abbrev pub place_after : Line → Place → Place
place_after (TextSegment rest) p = entered_segment false rest p
place_after (DataSegment rest) p = entered_segment true rest p
place_after (Word rest) p = filled 4 p
place_after (Instruction m rest) p = filled 4 p
place_after (Space rest) p = filled (size (Space rest)) p
place_after Nothing p = p
place_after (Label name) p = p
place_after NoForm p = p

abbrev pub with_label : Line → ℕ → LabelList → LabelList
with_label (Label name) at labels = (name, at) ∷ labels
with_label Nothing at labels = labels
with_label (TextSegment rest) at labels = labels
with_label (DataSegment rest) at labels = labels
with_label (Word rest) at labels = labels
with_label (Space rest) at labels = labels
with_label (Instruction m rest) at labels = labels
with_label NoForm at labels = labels

-- the labels of lines from a place on: a label is the address that the lines before it fill up to
abbrev pub labels_from : Place → List Line → LabelList
labels_from p [] = []
labels_from p (l ∷ lines) = with_label l (address p) (labels_from (place_after l p) lines)

-- ---- words and faults
-- a fault besides
abbrev pub kind_unless : {A : Type 0} → ℕ → Bool → Result A ℕ → Result A ℕ
kind_unless kind true r = r
kind_unless kind false (Ok x) = Err kind
kind_unless kind false (Err k) = Err (min kind k)

abbrev pub as_list : Result ℕ ℕ → Result (List ℕ) ℕ
as_list (Ok w) = Ok (w ∷ [])
as_list (Err k) = Err k

abbrev pub zeros : Result ℕ ℕ → Result (List ℕ) ℕ
zeros (Ok n) = Ok (replicate (n / 4) 0)
zeros (Err k) = Err k

abbrev pub bare : List ℕ → Result (List ℕ) ℕ
bare [] = Ok []
bare (b ∷ bs) = Err 2

-- the words of a line at a place, where all lines have some labels and those before it have others
abbrev pub line_words : LabelList → LabelList → Place → Line → Result (List ℕ) ℕ
line_words all earlier p Nothing = Ok []
line_words all earlier p (Label name) =
    kind_unless 4 (cond (is_some (label_address earlier name)) false true) (Ok [])
line_words all earlier p (TextSegment rest) = bare rest
line_words all earlier p (DataSegment rest) = bare rest
line_words all earlier p (Word rest) = kind_unless 3 (is_within_limits (filled 4 p)) (as_list (word_value rest))
line_words all earlier p (Space rest) =
    kind_unless 3 (cond (size (Space rest) == 0) true (is_within_limits (filled (size (Space rest)) p)))
    (zeros (space_value rest))
line_words all earlier p (Instruction m rest) =
    kind_unless 3 (cond p.in_data false (is_within_limits (filled 4 p)))
    (as_list (instruction_word all (address p) m rest))
line_words all earlier p NoForm = Err 1

-- the first faulty line from a line's number on, and its kind
abbrev pub fault_by : ℕ → Result (List ℕ) ℕ → Option (ℕ × ℕ) → Option (ℕ × ℕ)
fault_by n (Err k) later = Some (n, k)
fault_by n (Ok words) later = later

abbrev pub lines_fault_from : LabelList → LabelList → Place → ℕ → List Line → Option (ℕ × ℕ)
lines_fault_from all earlier p n [] = None
lines_fault_from all earlier p n (l ∷ lines) =
    fault_by n (line_words all earlier p l)
    (lines_fault_from all (with_label l (address p) earlier) (place_after l p) (n + 1) lines)

abbrev pub words_in : Bool → Place → Result (List ℕ) ℕ → List ℕ
words_in in_data p (Err k) = []
words_in true p (Ok words) = cond p.in_data words []
words_in false p (Ok words) = cond p.in_data [] words

-- the words that lines put into the text or the data segment
abbrev pub words_from : Bool → LabelList → LabelList → Place → List Line → List ℕ
words_from in_data all earlier p [] = []
words_from in_data all earlier p (l ∷ lines) =
    words_in in_data p (line_words all earlier p l)
    ++ words_from in_data all (with_label l (address p) earlier) (place_after l p) lines

-- ---- the text
abbrev pub parsed_lines : List ℕ → List Line
parsed_lines text = map line_of_text (lines_of_text text)

-- the first faulty line, from 1, with its lowest kind
abbrev pub asm_fault : List ℕ → Option (ℕ × ℕ)
asm_fault text = lines_fault_from (labels_from start_place (parsed_lines text)) [] start_place 1 (parsed_lines text)

-- the words of the two segments
abbrev pub text_words : List ℕ → List ℕ
text_words text = words_from false (labels_from start_place (parsed_lines text)) [] start_place (parsed_lines text)

abbrev pub data_words : List ℕ → List ℕ
data_words text = words_from true (labels_from start_place (parsed_lines text)) [] start_place (parsed_lines text)
