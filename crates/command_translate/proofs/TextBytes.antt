-- The words that stand in the file of a program that is all text.
use Rattle.std.proofs.Common.{◌≡◌, ℕ, zero, suc, ◌+◌, ◌-◌, ◌*◌, ◌<◌, ◌≤◌, true, List, [], ◌∷◌, length, drop, slice_index, slice_range, refl, sym, ap, ◌∙◌, arith}
use Rattle.std.proofs.lemmas.Bool.{lt-ltb}
use Rattle.std.proofs.lemmas.Bool.Decides.{nat_tests}
use Rattle.std.proofs.lemmas.List.{get_or-take, get_or-drop}
use Rattle.run_definition.specs.Words.{IsWord, lane_of_word, word_of_bytes}
use Rattle.run_definition.specs.declared.order.Order.TheVariants.{Big}
use Rattle.nv_words.proofs.LaneLemmas.{below_four, word_of_lanes}
use Rattle.mips_definition.specs.Memory as memory
use Rattle.elf_definition.specs.declared.segment.Segment.{Segment}
use Rattle.elf_definition.specs.Header.{order_of}
use Rattle.elf_definition.specs.Segments.{live}
use Rattle.elf_definition.specs.Content.{stored_code_word, is_in_file, stored_byte, stored_word}
use Rattle.elf_definition.specs.FileFields.{words}
use Rattle.elf_definition.specs.Parts.{PartSegment as Content}
use Rattle.mips_asm.specs.File.{IsFileOf, whole_segment}
use Rattle.mips_asm_laws.specs.Reading.{contents_in, with_memory}
use Rattle.mips_asm_laws.proofs.Areas.{text_at, text_live}
use Rattle.mips_asm_laws.proofs.Checks.{live_are}
use Rattle.mips_asm_laws.proofs.Contents.{order_read}
use Rattle.mips_asm_laws.proofs.Programs.{one_shape, program_read}

-- the one segment: the text, behind the header and one program header
abbrev pub text_segment : ℕ → Segment
text_segment n = (text_at 84 n).segment

pub text_order : (text file : List ℕ) → IsFileOf text [] file → order_of file ≡ Big
text_order text file is = ap order_of is.2 ∙ order_read is.0

pub text_alone : (text file : List ℕ) → IsFileOf text [] file → length text ≤ 4194304 → 4 ≤ length text → live file ≡ text_segment (length text) ∷ []
text_alone text file is short some = live_are file (text_at 84 (length text) ∷ []) (one_shape text file is short).2 ∙ text_live 84 (length text) some

abbrev contents_first : List Content → List ℕ
contents_first [] = []
contents_first (s ∷ segments) = s.contents

with_some : (text : List ℕ) → 4 ≤ length text → with_memory (whole_segment 0x00400000 5 text ∷ []) ≡ whole_segment 0x00400000 5 text ∷ []
with_some text some = rw (lt-ltb 0 (length text) (omega (arith, some))) refl

text_range : (text file : List ℕ) → IsFileOf text [] file → length text ≤ 4194304 → 4 ≤ length text → slice_range file 84 (84 + length text) ≡ text
text_range text file is short some =
    ap contents_first
    (ap (contents_in file) (sym (text_alone text file is short some)) ∙ program_read text [] file is short (omega arith) ∙ with_some text some)

text_byte : (text file : List ℕ) → IsFileOf text [] file → length text ≤ 4194304 → 4 ≤ length text → (j : ℕ) → j < length text
    → slice_index file (84 + j) ≡ slice_index text j
text_byte text file is short some j lt =
    let n = 84 + length text - 84 in
    sym (get_or-drop 84 file j 0) ∙ sym (get_or-take n (drop 84 file) j 0 (omega (arith, lt)))
    ∙ ap (λ bytes. slice_index bytes j) (text_range text file is short some)

-- the lanes of words that stand one after the other
words_lane : (ws : List ℕ) (k i : ℕ) → i < 4 → k < length ws → slice_index (words ws) (4 * k + i) ≡ lane_of_word (slice_index ws k) i
words_lane [] k i lane lt = absurd (omega (arith, lt))
words_lane (w ∷ ws) zero i lane lt =
    let here : 4 * 0 + i ≡ i = omega arith in
    ap (slice_index (words (w ∷ ws))) here
    ∙ below_four (λ i. slice_index (words (w ∷ ws)) i ≡ lane_of_word w i) refl refl refl refl i lane
words_lane (w ∷ ws) (suc k) i lane lt =
    let behind : 4 * suc k + i ≡ suc (suc (suc (suc (4 * k + i)))) = omega arith in
    ap (slice_index (words (w ∷ ws))) behind ∙ words_lane ws k i lane (omega (arith, lt))

-- a byte of the text in memory
stored_at : (file : List ℕ) (n at j : ℕ) → at ≡ 0x00400000 + j → j < n → stored_byte file (text_segment n ∷ []) at ≡ slice_index file (84 + j)
unfolding stored_byte
stored_at file n at j is lt =
    let inside : is_in_file at (text_segment n) ≡ true = grind (arith, nat_tests) in
    rw inside (ap (slice_index file) (omega (arith, is)))

module _ (ws file : List ℕ) (is : IsFileOf (words ws) [] file) (short : length (words ws) ≤ 4194304) (size : length (words ws) ≡ 4 * length ws) where
  lane_at : (k i at : ℕ) → i < 4 → k < length ws → at ≡ 0x00400000 + (4 * k + i)
      → stored_byte file (text_segment (length (words ws)) ∷ []) at ≡ lane_of_word (slice_index ws k) i
  lane_at k i at lane lt place =
      let within : 4 * k + i < length (words ws) = omega (arith, lane, lt, size) in
      stored_at file (length (words ws)) at (4 * k + i) place within
      ∙ text_byte (words ws) file is short (omega (arith, within, size, lt)) (4 * k + i) within ∙ words_lane ws k i lane lt

  -- the word at a place of the text in memory
  pub text_word : (k : ℕ) → k < length ws → IsWord (slice_index ws k)
      → stored_code_word file (text_segment (length (words ws)) ∷ []) (0x00400000 + 4 * k) ≡ slice_index ws k
  unfolding stored_code_word stored_word
  text_word k lt fits =
      let at = 0x00400000 + 4 * k in
      let a = lane_at k 0 at (omega arith) lt (omega arith) in
      let b = lane_at k 1 (at + 1) (omega arith) lt (omega arith) in
      let c = lane_at k 2 (at + 2) (omega arith) lt (omega arith) in
      let d = lane_at k 3 (at + 3) (omega arith) lt (omega arith) in
      (λ i. memory.word_of_lanes (text_order (words ws) file is i) (word_of_bytes (a i) (b i) (c i) (d i))) ∙ word_of_lanes (slice_index ws k) fits
