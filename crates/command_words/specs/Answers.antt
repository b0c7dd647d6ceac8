-- What the steps of reading answer.
use Rattle.std.specs.Prelude.{◌≡◌, ⊤, Option, Some, None, Result, Ok, Err}
use Rattle.command_forms.specs.declared.usage.Usage.TheVariants.{NoCommand, NotLawful}
use Rattle.command_forms.specs.declared.words_error.WordsError.{WordsError}
use Rattle.command_forms.specs.declared.words_error.WordsError.TheVariants.{Usage, NoMemory}

-- the value, a refusal where there is none, or no memory
abbrev pub Reads : {T : Type 0} → Option T → Result T WordsError → Type 0
Reads meant (Ok value) = meant ≡ Some value
Reads meant (Err (Usage NotLawful)) = meant ≡ None
Reads meant (Err (Usage NoCommand)) = ⊥
Reads meant (Err NoMemory) = ⊤
