-- What the words before `--` give: a value for each option and each plain word, under its name.
use Rattle.std.specs.Prelude.{ℕ, ◌+◌, Bool, true, false, if◌then◌else◌, List, [], ◌∷◌, ◌++◌, Option, Some, None, is_some, option_and_then, option_map, slice_get, find, map}
use Rattle.std.specs.Borrow.{Bor}
use Rattle.std.specs.List.{list_any}
use Rattle.std.specs.Str.{bytes_eq}
use Rattle.nv_values.specs.Names.{Text}
use Rattle.command_forms.specs.Word.{is_plain, is_option, option_in, waits_for_value}

-- the names of the plain words that a command takes, in order, and of its options
pub record Form : Type 0 where
  pub words : List Text
  pub options : List Text

abbrev pub form_from : List (Bor Text) → List (Bor Text) → Form
form_from words options = record {
  words = map (λ s. s.now) words;
  options = map (λ s. s.now) options;
}

pub record Given : Type 0 where
  pub name : Text
  pub text : Text

-- what was given so far, the option that waits for its value, and the number of plain words so far
pub record FormReading : Type 0 where
  pub given : List Given
  pub waits : Option Text
  pub words : ℕ

abbrev pub nothing_given : FormReading
nothing_given = record { given = []; waits = None; words = 0 }

abbrev pub is_among_texts : List Text → Text → Bool
is_among_texts names name = list_any (λ n. bytes_eq n name) names

abbrev pub is_given : Text → List Given → Bool
is_given name given = list_any (λ g. bytes_eq g.name name) given

-- one more value; each name is given at most once
abbrev pub given_more : Text → Text → FormReading → Option FormReading
given_more name text r = if is_given name r.given then None
    else Some (record r {
      given = r.given ++ record { name = name; text = text } ∷ [];
      waits = None;
    })

-- a plain word is the value of the option that waits, or the command's next word
abbrev pub plain_read : Form → Text → FormReading → Option Text → Option FormReading
plain_read form word r (Some name) = given_more name word r
plain_read form word r None =
    option_and_then (λ name. given_more name word (record r { words = r.words + 1 }))
    (slice_get form.words r.words)

-- a value after `=` is not empty
abbrev pub value_read : Text → Option Text → FormReading → Option FormReading
value_read name None r = Some (record r { waits = Some name })
value_read name (Some []) r = None
value_read name (Some (b ∷ bs)) r = given_more name (b ∷ bs) r

-- an option is one of the command's, and stands where no other waits for its value
abbrev pub option_read : Form → Option (Text × Option Text) → FormReading → Option Text → Option FormReading
option_read form o r (Some other) = None
option_read form None r None = None
option_read form (Some o) r None = if is_among_texts form.options o.0 then value_read o.0 o.1 r else None

abbrev pub word_read : Form → Text → FormReading → Option FormReading
word_read form word r =
    if is_plain word then plain_read form word r r.waits
    else option_read form (option_in word) r r.waits

unfoldable pub given_after : Form → FormReading → List Text → Option (List Given)
given_after form r [] = if is_some r.waits then None else Some r.given
given_after form r (word ∷ rest) =
    option_and_then (λ next. given_after form next rest) (word_read form word r)

-- what lawful words give, and None where they break the rules
abbrev pub given_in : Form → List Text → Option (List Given)
given_in form words = given_after form nothing_given words

-- the value of this name
abbrev pub given_value : Text → List Given → Option Text
given_value name given = option_map (λ g. g.text) (find (λ g. bytes_eq g.name name) given)

abbrev pub value_in : Form → List Text → Text → Option Text
value_in form words name = option_and_then (given_value name) (given_in form words)

-- How many words stand before the first plain word that is no option's value; `follows` says that the first word is such a value.
abbrev pub word_place : Bool → List Text → ℕ
word_place follows [] = 0
word_place true (word ∷ rest) = word_place false rest + 1
word_place false (word ∷ rest) = if is_plain word then 0
    else word_place (waits_for_value word) rest + 1

-- The options with their values, where the plain words are left out; `follows` says that the first word is such a value.
abbrev pub option_words : Bool → List Text → List Text
option_words follows [] = []
option_words true (word ∷ rest) = word ∷ option_words false rest
option_words false (word ∷ rest) = if is_plain word then option_words false rest
    else word ∷ option_words (waits_for_value word) rest

-- how many words stand before the one that holds the option's value
abbrev pub value_place : Text → List Text → ℕ
value_place name [] = 0
value_place name (word ∷ rest) =
    if is_option name word then (if waits_for_value word then 1 else 0)
    else value_place name rest + 1
