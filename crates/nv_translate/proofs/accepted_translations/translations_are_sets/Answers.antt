use Rattle.nv_translate.proofs.AcceptedTranslations.Sets.{set-is}
use Rattle.nv_translate.proofs.accepted_translations.translations_are_sets.Goals as goal

pub returns : goal.returns
returns c meter source name method_bytes built files has class_name t l stored =
    set-is source name method_bytes built t l.classes l.spelled l.distinct has class_name files stored
