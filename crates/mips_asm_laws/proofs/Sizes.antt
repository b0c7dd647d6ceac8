-- How long the two segments of a text without a fault are.
use Rattle.std.proofs.Common.{◌≡◌, ℕ, ◌+◌, ◌*◌, ◌≤◌, ◌++◌, Bool, true, false, cond, List, [], ◌∷◌, length, length-append, append_assoc, Option, None, Result, Ok, Err, refl, ap, sym, ◌∙◌, subst, arith}
use Rattle.std.proofs.lemmas.List.Concat.{flat_map-append}
use Rattle.run_definition.specs.Words.{bytes_of_word}
use Rattle.elf_definition.specs.FileFields.{words}
use Rattle.asm_lines.specs.Lines.{Line}
use Rattle.asm_lines.specs.Operands.{LabelList}
use Rattle.mips_asm.specs.declared.place.Place.{Place}
use Rattle.mips_asm.specs.Program.{asm_fault, place_after, data_words, fault_by, labels_from, line_words, parsed_lines, start_place, text_words, words_in}
use Rattle.mips_asm.specs.Passes.{fault_marked, first_again, is_line, unmarked, words_left}
use Rattle.mips_asm.proofs.AlikeLemmas.{found_fault, found_words}
use Rattle.mips_asm.proofs.FillLemmas.{data_next, data_within, text_next, text_within, unmarked_ok}

-- where there is no fault, the first line has words
no_fault : (n : ℕ) (r : Result (List ℕ) ℕ) (later : Option (ℕ × ℕ)) → fault_by n r later ≡ None
    → (ws : List ℕ) × (r ≡ Ok ws) × (later ≡ None)
no_fault n (Ok ws) later none = (ws, refl, none)
no_fault n (Err k) later none = absurd (cc)

-- the bytes of a line, and those of the lines behind it
one_more : (in_data : Bool) (all : LabelList) (l : Line) (p : Place) (lines : List Line) (ws old : List ℕ) → line_words all [] p l ≡ Ok ws
    → (old ++ words (words_in in_data p (Ok ws))) ++ words (words_left in_data all (place_after l p) lines)
    ≡ old ++ words (words_left in_data all p (l ∷ lines))
one_more in_data all l p lines ws old fine =
    let more = words_left in_data all (place_after l p) lines in
    append_assoc old (words (words_in in_data p (Ok ws))) (words more)
    ∙ ap (λ bytes. old ++ bytes) (sym (flat_map-append bytes_of_word (words_in in_data p (Ok ws)) more))
    ∙ ap (λ r. old ++ words (words_in in_data p r ++ more)) (sym fine)

-- a place within the limits, behind so many bytes
abbrev Stands : Place → List ℕ → List ℕ → Type 0
Stands p text bytes = (p.text ≡ length text) × (p.data_bytes ≡ length bytes) × (p.text ≤ 4194304) × (p.data_bytes ≤ 16777216)

short_lines : (all : LabelList) (mark : Option ℕ) (p : Place) (n : ℕ) (lines : List Line) (text bytes : List ℕ)
    → Stands p text bytes → fault_marked all mark p n lines ≡ None
    → (length (text ++ words (words_left false all p lines)) ≤ 4194304) × (length (bytes ++ words (words_left true all p lines)) ≤ 16777216)
short_lines all mark p n [] text bytes stands none =
    (omega (arith, length-append text [], stands.0, stands.2), omega (arith, length-append bytes [], stands.1, stands.3))
short_lines all mark p n (l ∷ lines) text bytes stands none =
    let line = no_fault n (unmarked (is_line mark n) (line_words all [] p l)) (fault_marked all mark (place_after l p) (n + 1) lines) none in
    let ws = line.0 in
    let fine = unmarked_ok (is_line mark n) (line_words all [] p l) ws line.1 in
    let more_text = text ++ words (cond p.in_data [] ws) in
    let more_bytes = bytes ++ words (cond p.in_data ws []) in
    let later = short_lines all mark (place_after l p) (n + 1) lines more_text more_bytes (
      text_next all l p (place_after l p) ws text more_text refl fine refl stands.0,
      data_next all l p (place_after l p) ws bytes more_bytes refl fine refl stands.1,
      text_within all l p (place_after l p) ws refl fine stands.2,
      data_within all l p (place_after l p) ws refl fine stands.3,
    ) line.2 in (
      subst (λ (xs : List ℕ). length xs ≤ 4194304) (one_more false all l p lines ws text fine) later.0,
      subst (λ (xs : List ℕ). length xs ≤ 16777216) (one_more true all l p lines ws bytes fine) later.1,
    )

-- a text without a fault has at most 1,048,576 words of text and 16,777,216 bytes of data
pub short_segments : (text : List ℕ) → asm_fault text ≡ None
    → (length (words (text_words text)) ≤ 4194304) × (length (words (data_words text)) ≤ 16777216)
short_segments text none =
    let all = labels_from start_place (parsed_lines text) in
    let mark = first_again [] start_place 1 (parsed_lines text) in
    let short = short_lines all mark start_place 1 (parsed_lines text) [] [] (refl, refl, omega arith, omega arith) (found_fault all mark text (λ name. refl) refl ∙ none) in (
      subst (λ (ws : List ℕ). length (words ws) ≤ 4194304) (found_words false all text (λ name. refl)) short.0,
      subst (λ (ws : List ℕ). length (words ws) ≤ 16777216) (found_words true all text (λ name. refl)) short.1,
    )

-- a word has four bytes
pub length_words : (ws : List ℕ) → length (words ws) ≡ 4 * length ws
length_words [] = refl
length_words (w ∷ ws) = omega (arith, length_words ws)
