-- What a line of an assembly text is.
use Rattle.std.specs.Prelude.{ℕ, cond, List, [], ◌∷◌, Option, Some, None, bytes_eq, codes}
use Rattle.std.specs.Str.{byte}
use Rattle.asm_lines.specs.declared.mnemonic.Mnemonic.{Mnemonic}
use Rattle.asm_lines.specs.Lexical.{bare_line, first_word, after_word, name_before}
use Rattle.asm_lines.specs.Mnemonics.{mnemonic_of}

-- nothing; a label's name; a directive, or a mnemonic, with the text behind it; a line of no form
pub data Line : Type 0 where
  Nothing : Line
  Label : List ℕ → Line
  TextSegment : List ℕ → Line
  DataSegment : List ℕ → Line
  Word : List ℕ → Line
  Space : List ℕ → Line
  Instruction : Mnemonic → List ℕ → Line
  NoForm : Line

-- the name of a label `name:`
abbrev pub label_of : List ℕ → Option (List ℕ)
label_of line = name_before (byte ":") line

abbrev pub by_mnemonic : Option Mnemonic → List ℕ → Line
by_mnemonic None rest = NoForm
by_mnemonic (Some m) rest = Instruction m rest

abbrev pub by_word : List ℕ → List ℕ → Line
by_word word rest =
    cond (bytes_eq word (codes ".text")) (TextSegment rest)
    (cond (bytes_eq word (codes ".data")) (DataSegment rest)
    (cond (bytes_eq word (codes ".word")) (Word rest)
    (cond (bytes_eq word (codes ".space")) (Space rest) (by_mnemonic (mnemonic_of word) rest))))

abbrev pub by_label : List ℕ → Option (List ℕ) → Line
by_label line (Some name) = Label name
by_label line None = by_word (first_word line) (after_word line)

abbrev pub bare_line_is : List ℕ → Line
bare_line_is [] = Nothing
bare_line_is (b ∷ bs) = by_label (b ∷ bs) (label_of (b ∷ bs))

abbrev pub line_of_text : List ℕ → Line
line_of_text line = bare_line_is (bare_line line)
