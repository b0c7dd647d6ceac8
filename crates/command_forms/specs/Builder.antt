-- The command of `clap` that reads the words of a form: a positional argument for each plain word, and a long option for each
-- option.
use Rattle.std.specs.Prelude.{ℕ, true, List, [], ◌∷◌, ◌++◌, Some, codes, map, suc}
use Rattle.nv_values.specs.Names.{Text}
use Rattle.command_forms.specs.Given.{Form}
use Rattle.clap.specs.Walk.{Rule}
use Rattle.clap.specs.Simple.{App, Shape, new_rule, new_shape, on_top}

abbrev pub option_rule : Text → Rule
option_rule n = record (new_rule n) { long = Some n }

abbrev pub word_rule : ℕ → Text → Rule
word_rule i n = record (new_rule n) { index = Some i }

abbrev pub word_rules : ℕ → List Text → List Rule
word_rules i [] = []
word_rules i (n ∷ ns) = word_rule i n ∷ word_rules (suc i) ns

abbrev pub form_rules : Form → List Rule
form_rules form = map option_rule form.options ++ word_rules 1 form.words

abbrev pub form_shape : List Rule → Shape
form_shape rules = record (new_shape (codes "words"))
    { rules = rules; no_binary_name = true; disable_help_flag = true }

abbrev pub bare_app : App
bare_app = record { top = form_shape []; subs = [] }

abbrev pub form_app : Form → App
form_app form = record { top = form_shape (form_rules form); subs = [] }

-- the command with these arguments more
abbrev pub with_rules : List Rule → App → App
with_rules rules app = on_top (λ s. record s { rules = s.rules ++ rules }) app
