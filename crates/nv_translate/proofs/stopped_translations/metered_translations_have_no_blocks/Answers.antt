use Rattle.std.proofs.Common.{◌∙◌}
use Rattle.nv_translate.proofs.LinkedTranslations.Metered.{class-metered}
use Rattle.nv_translate.proofs.StoppedTranslations.Blocks.{blocks-none}
use Rattle.nv_translate.proofs.stopped_translations.metered_translations_have_no_blocks.Goals as goal

pub returns : goal.returns
returns c source name method_bytes turns built l =
    l.blocks_are ∙ blocks-none 0 l.code (class-metered source method_bytes l.code l.code_is)
