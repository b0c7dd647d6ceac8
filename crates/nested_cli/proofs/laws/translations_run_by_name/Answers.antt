use Rattle.nested_cli.proofs.TranslatedLemmas.{translations-run}
use Rattle.nested_cli.proofs.laws.translations_run_by_name.Goals as goal

pub returns : goal.returns
returns c = translations-run
