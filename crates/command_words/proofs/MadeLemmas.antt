-- What is made of words whose form was read.
use Rattle.std.proofs.Common.{◌≡◌, ◌∙◌, cond, true, sym, ap, subst, List, None, is_some, Result}
use Rattle.nv_values.specs.Names.{Text}
use Rattle.command_forms.specs.Given.{Form, given_in, value_in}
use Rattle.command_forms.specs.Forms.{command_form}
use Rattle.command_words.specs.Meaning.{Value, command_made, maker_of, Maker}
use Rattle.command_words.specs.Answers.{Reads}
use Rattle.command_words.specs.declared.command.Command.{Command}
use Rattle.command_forms.specs.declared.command_name.CommandName.{CommandName}
use Rattle.command_forms.specs.declared.words_error.WordsError.{WordsError}

made_from : (form : Form) (maker : Maker) (words formed arguments : List Text) (value : Value) → is_some (given_in form formed) ≡ true → value ≡ value_in form formed
    → command_made form maker words formed arguments ≡ maker words value arguments
made_from form maker words formed arguments value some same =
    ap (λ b. cond b (maker words (value_in form formed) arguments) None) some ∙ ap (λ v. maker words v arguments) (sym same)

-- what words mean whose form was read
pub formed_is : (name : CommandName) (words formed arguments : List Text) (form : Form) (value : Value) (r : Result Command WordsError) → form ≡ command_form name
    → (is_some (given_in form formed) ≡ true) × (value ≡ value_in form formed) → Reads (maker_of name words value arguments) r
    → Reads (command_made (command_form name) (maker_of name) words formed arguments) r
formed_is name words formed arguments form value r same given reads =
    let is : command_made (command_form name) (maker_of name) words formed arguments ≡ maker_of name words value arguments =
    ap (λ f. command_made f (maker_of name) words formed arguments) (sym same) ∙ made_from form (maker_of name) words formed arguments value given.0 given.1 in
    subst (λ o. Reads o r) (sym is) reads
