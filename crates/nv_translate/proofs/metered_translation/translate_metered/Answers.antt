use Rattle.std.proofs.Common.{IfOk, Some, arith}
use Rattle.translate_program.specs.declared.built.Built.{Built}
use Rattle.translate_program.specs.Translation.{IsTranslationBy}
use Rattle.nv_translate.specs.Made.{MadeMetered}
use Rattle.nv_translate.specs.Metered.{TranslatedMetered}
use Rattle.nv_translate.proofs.Making.{if-made}
use Rattle.nv_translate.proofs.metered_translation.translate_metered.Goals as goal

pub returns : goal.returns
returns c =
    let image = c.args.image.now in
    let name = c.args.name.now in
    let turns = c.args.turns in
    let range = c.get-count.ensures.range in
    let made : IfOk c.translate_metered.result (MadeMetered image name c.args.method_bytes turns) =
    if-made (IsTranslationBy (Some turns) image name c.args.method_bytes)
    (MadeMetered image name c.args.method_bytes turns)
    (λ built t. c.metered_images_are_translated.ensures name c.args.method_bytes turns built c.laws.ensures c.laws-2.ensures.0
    (omega (arith, range.1)) t)
    c.translate_metered.result c.translate_metered.ensures in
    record {
      translated = if-made (MadeMetered image name c.args.method_bytes turns) (λ (built : Built). TranslatedMetered image name turns built.files.items)
          (λ built m. m.translated) c.translate_metered.result made;
      made = made;
    }
