use Rattle.command_translate_laws.proofs.TranslatedLemmas.{stores-translation}
use Rattle.command_translate_laws.proofs.laws.translations_run_by_name.Goals as goal

pub returns : goal.returns
returns c = λ input name pages method_bytes meter files file w due answer told there d is good.
    stores-translation input name pages method_bytes meter files file w due answer told there d is good
