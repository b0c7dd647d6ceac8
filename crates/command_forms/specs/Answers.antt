-- What the steps of reading answer.
use Rattle.std.specs.Prelude.{◌≡◌, ⊤, true, List, None, Result, Ok, Err, is_some, map}
use Rattle.std.specs.Borrow.{Bor}
use Rattle.nv_values.specs.Names.{Text}
use Rattle.command_forms.specs.Given.{Form, given_in, value_in}
use Rattle.command_forms.specs.declared.usage.Usage.TheVariants.{NoCommand, NotLawful}
use Rattle.command_forms.specs.declared.words_error.WordsError.{WordsError}
use Rattle.command_forms.specs.declared.words_error.WordsError.TheVariants.{Usage, NoMemory}
use Rattle.clap.specs.Words.{first_value, found_of}
use Rattle.clap.specs.declared.error.kind.ErrorKind.{ErrorKind}
use Rattle.clap.specs.declared.error.kind.ErrorKind.TheVariants.{OutOfMemory}
use Rattle.clap.specs.declared.parser.matches.ArgMatches.{ArgMatches}

-- the texts behind references
abbrev pub shown : List (Bor Text) → List Text
shown = map (λ s. s.now)

-- the values that the words give by the form, a refusal where they break its rules, or no memory
abbrev pub MatchesForm : Form → List Text → Result ArgMatches WordsError → Type 0
MatchesForm form words (Ok matches) = (is_some (given_in form words) ≡ true)
    × (first_value (found_of matches) ≡ value_in form words)
MatchesForm form words (Err (Usage NotLawful)) = given_in form words ≡ None
MatchesForm form words (Err (Usage NoCommand)) = ⊥
MatchesForm form words (Err NoMemory) = ⊤

-- what an error of `clap` says of the words
abbrev pub words_error_of : ErrorKind → WordsError
words_error_of OutOfMemory = NoMemory
words_error_of _ = Usage NotLawful
