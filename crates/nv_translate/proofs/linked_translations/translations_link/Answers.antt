use Rattle.nv_translate.proofs.LinkedTranslations.Linking.{translation-links}
use Rattle.nv_translate.proofs.linked_translations.translations_link.Goals as goal

pub returns : goal.returns
returns c meter source name method_bytes built whole class_name t =
    translation-links c.names_are_meant.ensures c.units_are_lawful.ensures.all source name method_bytes built whole class_name t
