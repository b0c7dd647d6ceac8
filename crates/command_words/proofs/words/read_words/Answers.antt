use Rattle.command_forms.specs.Word.{texts}
use Rattle.command_words.proofs.LimitLemmas.{read_within}
use Rattle.command_words.proofs.words.read_words.Goals as goal

pub returns-in-Some-of-clause-limits : goal.returns-in-Some-of-clause-limits
returns-in-Some-of-clause-limits c = read_within c.in-Some-of.name (texts c.in-Some.others.now) c.read_command.result c.read_command.ensures
