use Rattle.std.proofs.Common.{Err, ap}
use Rattle.std.proofs.lemmas.Result.{err_from_is_err_and}
use Rattle.nv_translate.specs.Made.{AreMade}
use Rattle.command_words.specs.Meaning.{command_of}
use Rattle.command_forms.specs.Word.{texts}
use Rattle.command_forms.specs.declared.words_error.WordsError.{WordsError}
use Rattle.command_deeds.specs.World.{seen}
use Rattle.nested_cli.specs.Commands.{IsDueOf}
use Rattle.nested_cli.proofs.AnswerLemmas.{refused_due}
use Rattle.nested_cli.proofs.program.perform.Goals as goal

pub returns-in_err-command-clause-due : goal.returns-in_err-command-clause-due
returns-in_err-command-clause-due g c = λ command is.
    let p = err_from_is_err_and c.from_residual.result c.from_residual.ensures.1 in
    let w = seen g.H.Shelf g.S.Source g.O.Sink g.E.Sink c.args.outside.now in
    rw (p.1, p.2) (refused_due c.in_err-command.field-0.0 (command_of (texts c.args.words.now)) command (IsDueOf AreMade command c.args.moment) w
    (λ fault e. c.in_err-command.ensures.usage fault (ap (λ (x : WordsError). Err x) e)) is)
