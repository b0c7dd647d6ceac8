-- The lines of a code are what is read of it.
use Rattle.std.proofs.Common.{◌≡◌, ℕ, zero, suc, ◌+◌, ◌-◌, ◌<◌, ◌≤◌, true, false, eqb, List, [], ◌∷◌, ◌++◌, length, None, Ok, refl, sym, ap, subst, ◌∙◌, arith, append_assoc}
use Rattle.std.proofs.lemmas.Bool.{ne_eqb, le-ltb}
use Rattle.std.proofs.lemmas.List.{length-append, append-nil, nil_from_length}
use Rattle.class_definition.specs.declared.miss.Miss.{Miss}
use Rattle.class_format.proofs.Readings.{same_value}
use Rattle.class_definition.specs.declared.line.Line.{Line}
use Rattle.class_definition.specs.Instructions.{instruction}
use Rattle.class_definition.specs.Code.{Lines, LinesFrom, lines_from, code_fault, is_bad_length, line_target_fault}
use Rattle.class_definition.specs.Sizes.{size_at}
use Rattle.jvm_code.specs.Writing.{AreLaid, AreCode}
use Rattle.jvm_code.proofs.InstructionLaws.{instruction_law}
use Rattle.jvm_code.proofs.SizeLemmas.{size_is}

-- the bytes of lines
abbrev pub spelling : List Line → List ℕ
spelling [] = []
spelling (l ∷ lines) = (instruction l.at).spell l.op ++ spelling lines

-- ---- lines that are laid out make up their bytes

pub laid_low : (at : ℕ) (lines : List Line) → AreLaid at lines → at ≤ 65535
laid_low at [] laid = laid
laid_low at (l ∷ lines) laid = omega (arith, laid_low (at + size_at at l.op) lines laid.2)

pub lines_laid : (at : ℕ) (lines : List Line) → AreLaid at lines → LinesFrom at (spelling lines) lines
lines_laid at [] laid = refl
lines_laid at (l ∷ lines) laid =
    let P : ℕ → Type 0 = λ n. LinesFrom n (spelling lines) lines in
    let others : P (at + length ((instruction at).spell l.op)) = subst P (ap (λ n. at + n) (sym (size_is at l.op laid.1))) (lines_laid (at + size_at at l.op) lines laid.2) in
    (laid.0, laid.1, (spelling lines, ap (λ (n : ℕ). (instruction n).spell l.op ++ spelling lines) laid.0, others))

pub laid_within : (at : ℕ) (lines : List Line) → AreLaid at lines → at + length (spelling lines) ≤ 65535
laid_within at [] laid = omega (arith, laid)
laid_within at (l ∷ lines) laid =
    let others : (at + size_at at l.op) + length (spelling lines) ≤ 65535 = laid_within (at + size_at at l.op) lines laid.2 in
    let P : ℕ → Type 0 = λ n. at + length ((instruction n).spell l.op ++ spelling lines) ≤ 65535 in
    let here : P at = omega (arith, length-append ((instruction at).spell l.op) (spelling lines), size_is at l.op laid.1) in
    subst P (sym laid.0) here

spelling_few : (lines : List Line) → AreLaid 0 lines → length (spelling lines) ≤ 65535
spelling_few lines laid = omega (arith, laid_within 0 lines laid)

-- ---- and are read back

read_step : (size n : ℕ) (bytes rest : List ℕ) (l : Line) (lines : List Line) → eqb (length bytes) 0 ≡ false → l.at ≡ size - length bytes
    → (instruction (size - length bytes)).read bytes ≡ Ok (l.op, rest) → lines_from size n rest ≡ Ok lines → lines_from size (suc n) bytes ≡ Ok (l ∷ lines)
unfolding lines_from
read_step size n bytes rest l lines some place is others =
    let line : (at : ℕ) → Line = λ at. record { at = at; op = l.op } in
    rw (some, is, others) (ap (λ (at : ℕ). Ok (line at ∷ lines)) (sym place))

pub lines_read : (size : ℕ) → size ≤ 65535 → (lines : List Line) (n : ℕ) (bytes : List ℕ) → length bytes ≤ n → length bytes ≤ size
    → LinesFrom (size - length bytes) bytes lines → lines_from size n bytes ≡ Ok lines
unfolding lines_from
lines_read size few [] zero bytes le within are = refl
lines_read size few [] (suc n) bytes le within are = rw are refl
lines_read size few (l ∷ lines) zero bytes le within are =
    absurd (omega (arith, ap length are.2.1, length-append ((instruction (size - length bytes)).spell l.op) are.2.0))
lines_read size few (l ∷ lines) (suc n) bytes le within are =
    let at : ℕ = size - length bytes in
    let rest = are.2.0 in
    let taken : length bytes ≡ length ((instruction (size - length bytes)).spell l.op) + length rest =
    ap length are.2.1 ∙ length-append ((instruction (size - length bytes)).spell l.op) rest in
    let some : eqb (length bytes) 0 ≡ false = ne_eqb _ 0 (λ e. omega arith) in
    let place : (size - length bytes) + length ((instruction (size - length bytes)).spell l.op) ≡ size - length rest = omega arith in
    let P : ℕ → Type 0 = λ k. LinesFrom k rest lines in
    let read : (instruction (size - length bytes)).read bytes ≡ Ok (l.op, rest) =
    ap (instruction (size - length bytes)).read are.2.1 ∙ (instruction_law (size - length bytes) (omega arith)).back l.op rest are.1 in
    read_step size n bytes rest l lines some are.0 read (lines_read size few lines n rest (omega arith) (omega arith) (subst P place are.2.2))

-- of a code there is one list of lines
pub read_of_code : (code : List ℕ) (lines : List Line) → length code ≤ 65535 → Lines code lines → lines_from (length code) (length code) code ≡ Ok lines
read_of_code code lines few are =
    let none : 0 ≡ length code - length code = omega arith in
    let P : ℕ → Type 0 = λ n. LinesFrom n code lines in
    lines_read (length code) few lines (length code) code (omega arith) (omega arith) (subst P none are)

pub one_list : (code : List ℕ) (a b : List Line) → length code ≤ 65535 → Lines code a → Lines code b → b ≡ a
one_list code a b few first second =
    same_value {E = Miss} b a (sym (read_of_code code b few second) ∙ read_of_code code a few first)

-- ---- what decoding promises

pub laid_of : (at : ℕ) (code : List ℕ) (lines : List Line) → LinesFrom at code lines → at + length code ≤ 65535 → AreLaid at lines
laid_of at code [] are few = omega arith
laid_of at code (l ∷ lines) are few =
    let front = (instruction at).spell l.op in
    let taken : length code ≡ length ((instruction at).spell l.op) + length are.2.0 = ap length are.2.1 ∙ length-append ((instruction at).spell l.op) are.2.0 in
    let size : length ((instruction at).spell l.op) ≡ size_at at l.op = size_is at l.op are.1 in
    let P : ℕ → Type 0 = λ n. AreLaid n lines in
    let others : P (at + length ((instruction at).spell l.op)) = laid_of (at + length ((instruction at).spell l.op)) are.2.0 lines are.2.2 (omega arith) in
    (are.0, are.1, subst P (ap (λ (n : ℕ). at + n) size) others)

some_lines : (code : List ℕ) (lines : List Line) → is_bad_length (length code) ≡ false → Lines code lines → 0 < length lines
some_lines code [] good are = absurd (let P : List ℕ → Type 0 = λ bytes. is_bad_length (length bytes) ≡ false in let e : is_bad_length 0 ≡ false = subst P are good in cc)
some_lines code (l ∷ lines) good are = omega arith

pub are_code : (code : List ℕ) (lines : List Line) → is_bad_length (length code) ≡ false → length code ≤ 65535 → Lines code lines → line_target_fault lines lines ≡ None → AreCode lines
are_code code lines good few are targets = (some_lines code lines good are, laid_of 0 code lines are (omega arith), targets)

-- ---- what encoding promises

pub bytes_of : (at : ℕ) (code : List ℕ) (lines : List Line) → LinesFrom at code lines → code ≡ spelling lines
bytes_of at code [] are = are
bytes_of at code (l ∷ lines) are =
    let others : are.2.0 ≡ spelling lines = bytes_of (at + length ((instruction at).spell l.op)) are.2.0 lines are.2.2 in
    let P : ℕ → Type 0 = λ n. code ≡ (instruction n).spell l.op ++ spelling lines in
    let here : P at = are.2.1 ∙ ap (λ (xs : List ℕ). (instruction at).spell l.op ++ xs) others in
    subst P (sym are.0) here

pub made_bytes : (code others : List ℕ) (lines : List Line) → code ≡ spelling lines → Lines others lines → others ≡ code
made_bytes code others lines is are = bytes_of 0 others lines are ∙ sym is

some_bytes : (lines : List Line) → 0 < length lines → 0 < length (spelling lines)
some_bytes [] some = absurd (omega arith)
some_bytes (l ∷ lines) some = omega arith

good_spelling : (n : ℕ) → 0 < n → n ≤ 65535 → is_bad_length n ≡ false
good_spelling n some few = rw (ne_eqb n 0 (λ e. omega arith), le-ltb 65535 n few) refl

-- bytes that are the spelling of lines
pub made_lines : (code : List ℕ) (lines : List Line) → code ≡ spelling lines → AreLaid 0 lines → Lines code lines
made_lines code lines is laid = rw is (lines_laid 0 lines laid)

pub made_only : (code : List ℕ) (lines others : List Line) → code ≡ spelling lines → AreLaid 0 lines → Lines code others → others ≡ lines
made_only code lines others is laid are =
    let few : length code ≤ 65535 = rw is (spelling_few lines laid) in
    one_list code lines others few (made_lines code lines is laid) are

pub made_sound : (code : List ℕ) (lines : List Line) → code ≡ spelling lines → 0 < length lines → AreLaid 0 lines → line_target_fault lines lines ≡ None → code_fault code ≡ None
made_sound code lines is some laid targets =
    let few : length code ≤ 65535 = rw is (spelling_few lines laid) in
    let positive : 0 < length code = rw is (some_bytes lines some) in
    let good : is_bad_length (length code) ≡ false = good_spelling (length code) positive few in
    let read : lines_from (length code) (length code) code ≡ Ok lines = read_of_code code lines few (made_lines code lines is laid) in
    rw (good, read) targets

-- ---- one line after the other

pub one_more : (all code after : List ℕ) (rest others : List Line) (l : Line) → rest ≡ l ∷ others → after ≡ code ++ (instruction l.at).spell l.op
    → code ++ spelling rest ≡ all → after ++ spelling others ≡ all
one_more all code after rest others l first made was =
    let again : code ++ spelling (l ∷ others) ≡ all = subst (λ (xs : List Line). code ++ spelling xs ≡ all) first was in
    rw made (rw append_assoc again)

abbrev pub LaidSomewhere : List Line → Type 0
LaidSomewhere lines = (at : ℕ) × AreLaid at lines

pub laid_at : (rest others : List Line) (l : Line) → rest ≡ l ∷ others → LaidSomewhere rest → l.at ≤ 65535
laid_at rest others l first laid =
    let again : LaidSomewhere (l ∷ others) = subst LaidSomewhere first laid in
    rw again.1.0 (laid_low again.0 (l ∷ others) again.1)

pub laid_fits : (rest others : List Line) (l : Line) → rest ≡ l ∷ others → LaidSomewhere rest → (instruction l.at).fits l.op ≡ true
laid_fits rest others l first laid =
    let again : LaidSomewhere (l ∷ others) = subst LaidSomewhere first laid in
    let P : ℕ → Type 0 = λ n. (instruction n).fits l.op ≡ true in
    subst P (sym again.1.0) again.1.1

pub all_spelled : (all code : List ℕ) (rest : List Line) → length rest ≡ 0 → code ++ spelling rest ≡ all → code ≡ all
all_spelled all code rest none was =
    let again : code ++ [] ≡ all = subst (λ (xs : List Line). code ++ spelling xs ≡ all) (nil_from_length rest none) was in
    sym (append-nil code) ∙ again
