-- What a line puts into its segment, as the program keeps it.
use Rattle.std.specs.Prelude.{ℕ, ◌/◌, List, [], ◌∷◌, replicate, Result, Ok, Err}
use Rattle.mips_asm.specs.declared.filling.Filling.{Filling}
use Rattle.mips_asm.specs.declared.filling.Filling.TheVariants as filling

abbrev pub filling_words : Filling → List ℕ
filling_words filling.Nothing = []
filling_words (filling.Word w) = w ∷ []
filling_words (filling.Zeros n) = replicate (n / 4) 0

abbrev pub words_or_kind : Result Filling ℕ → Result (List ℕ) ℕ
words_or_kind (Ok f) = Ok (filling_words f)
words_or_kind (Err k) = Err k
