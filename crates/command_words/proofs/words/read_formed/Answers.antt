use Rattle.std.proofs.Common.{◌≡◌, ap₂}
use Rattle.clap.specs.Words.{first_value, found_of}
use Rattle.command_forms.specs.Word.{texts}
use Rattle.command_forms.specs.Given.{form_from}
use Rattle.command_forms.specs.Forms.{command_form}
use Rattle.command_words.proofs.MadeLemmas.{formed_is}
use Rattle.command_words.proofs.words.read_formed.Goals as goal

pub returns : goal.returns
returns c =
    let form : form_from c.words.result.now c.options.result.now ≡ command_form c.args.name = ap₂ (λ w o. record { words = w; options = o }) c.words.ensures c.options.ensures in
    formed_is c.args.name (texts c.args.words.now) (texts c.args.formed.now) (texts c.args.arguments.now) (form_from c.words.result.now c.options.result.now)
    (first_value (found_of c.in_ok-matches.matches)) c.make.result form c.in_ok-matches.ensures c.make.ensures
