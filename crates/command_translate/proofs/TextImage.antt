-- The checks of the image of a program that is all text.
use Rattle.std.proofs.Common.{◌≡◌, ℕ, ◌+◌, ◌*◌, ◌%◌, ◌<◌, ◌≤◌, false, List, [], ◌∷◌, length, None, refl, ap, ◌∙◌, arith}
use Rattle.std.specs.List.{All, list_any}
use Rattle.std.specs.Option.{option_or}
use Rattle.std.proofs.lemmas.List.Elements.{All-cons, All-nil}
use Rattle.mips_definition.specs.Table.{is_float}
use Rattle.elf_definition.specs.declared.range.Range.{Range}
use Rattle.elf_definition.specs.Area.{area, code_ranges, has_address}
use Rattle.elf_definition.specs.Fault.{IsRunsOf}
use Rattle.elf_definition.specs.Content.{stored_code_word}
use Rattle.elf_definition.specs.ImageFault.{code_words, data_fault, first_float, float_fault, image_fault, layout_fault, pages_fault, size_fault}
use Rattle.elf_image.proofs.RunsLemmas.{runs_one}
use Rattle.elf_definition.specs.FileFields.{words}
use Rattle.mips_asm.specs.File.{IsFileOf}
use Rattle.mips_asm_laws.proofs.Programs.{file_size, program_code}
use Rattle.command_translate.proofs.PlainWords.{IsPlain}
use Rattle.command_translate.proofs.TextBytes.{text_alone, text_segment, text_word}
use Rattle.command_translate.proofs.TextPages.{data_passes, layout_passes, none_below, pages_pass, within_limit}

-- so many words of text
abbrev text_words : ℕ → Range
text_words k = record { first = 0x00400000; words = k }

runs_are : (file : List ℕ) (r : Range) → code_ranges file ≡ r ∷ [] → 1 ≤ r.words → r.first % 4 ≡ 0 → IsRunsOf (area file) (r ∷ [])
unfolding area
runs_are file r are some even = record {
  filled = All-cons (λ (r : Range). 1 ≤ r.words) r [] some (All-nil (λ (r : Range). 1 ≤ r.words));
  aligned = All-cons (λ (r : Range). r.first % 4 ≡ 0) r [] even (All-nil (λ (r : Range). r.first % 4 ≡ 0));
  apart = λ k d lt. absurd (omega (arith, lt));
  same = λ at. ap (list_any (has_address at)) are;
}

sizes_pass : (len k : ℕ) → len ≤ 67108864 → k ≤ 1048576 → size_fault len (text_words k ∷ []) ≡ None
unfolding size_fault
sizes_pass len k short few =
    let a = within_limit 1 67_108_864 len short in
    let b = within_limit 2 1_048_576 (code_words (text_words k ∷ [])) (omega (arith, few)) in
    let c = within_limit 3 64 (length (text_words k ∷ [])) (omega arith) in
    λ i. option_or (a i) (option_or (b i) (c i))

module _ (ws file : List ℕ) (is : IsFileOf (words ws) [] file) (short : length (words ws) ≤ 1572876) (size : length (words ws) ≡ 4 * length ws)
    (some : 1 ≤ length ws) (plain : All IsPlain ws) where
  no_float : (k : ℕ) → k < length ws → is_float (stored_code_word file (text_segment (length (words ws)) ∷ []) (0x00400000 + 4 * k)) ≡ false
  no_float k lt =
      let at = plain k 0 lt in
      ap is_float (text_word ws file is (omega (arith, short)) size k lt at.0) ∙ at.1

  floats_pass : float_fault file (text_segment (length (words ws)) ∷ []) (text_words (length ws) ∷ []) ≡ None
  unfolding first_float
  floats_pass =
      let segments = text_segment (length (words ws)) ∷ [] in
      let none = none_below (λ k. is_float (stored_code_word file segments (0x00400000 + 4 * k))) (length ws) no_float in
      rw none refl

  pub image_passes : (runs : List Range) → IsRunsOf (area file) runs → image_fault file runs 256 64 ≡ None
  unfolding image_fault
  image_passes runs given =
      let text = text_words (length ws) in
      let segments = text_segment (length (words ws)) ∷ [] in
      let code = program_code (words ws) [] file (length ws) is (omega (arith, short)) (omega arith) size some in
      let alone = text_alone (words ws) file is (omega (arith, short)) (omega (arith, size, some)) in
      let runs_same = runs_one (area file) runs (text ∷ []) given (runs_are file text code some refl) in
      let long : length file ≡ 84 + length (words ws) = file_size (words ws) [] file is in
      let sizes = ap (size_fault (length file)) runs_same ∙ sizes_pass (length file) (length ws) (omega (arith, long, short)) (omega (arith, size, short)) in
      let pages = ap (λ ss. pages_fault ss 256 64) alone ∙ pages_pass (length (words ws)) short in
      let filled = ap (data_fault file) alone ∙ data_passes file (length (words ws)) short in
      let layout = ap (λ ss. layout_fault ss 256 64) alone ∙ layout_passes (length (words ws)) short in
      let floats = (λ i. float_fault file (alone i) (runs_same i)) ∙ floats_pass in
      λ i. option_or (sizes i) (option_or (pages i) (option_or (filled i) (option_or (layout i) (floats i))))
