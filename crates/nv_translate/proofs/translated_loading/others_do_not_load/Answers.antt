use Rattle.nv_translate.proofs.TranslatedLoading.Others.{code-takes-no-part, behind-takes-no-part}
use Rattle.nv_translate.proofs.translated_loading.others_do_not_load.Goals as goal

pub returns-clause-code : goal.returns-clause-code
returns-clause-code c = code-takes-no-part

pub returns-clause-behind : goal.returns-clause-behind
returns-clause-behind c metered = behind-takes-no-part
