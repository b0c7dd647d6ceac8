use Rattle.nv_translate.proofs.TranslatedMethods.Standing.{stands}
use Rattle.nv_translate.proofs.translated_methods.translations_stand.Goals as goal

pub returns : goal.returns
returns c meter source name method_bytes built guest large l = stands source name method_bytes built guest large l
