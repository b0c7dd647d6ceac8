use Rattle.std.proofs.Common.{IfOk}
use Rattle.translate_program.specs.declared.built.Built.{Built}
use Rattle.translate_program.specs.Translation.{IsTranslation}
use Rattle.nv_translate.specs.Made.{Made}
use Rattle.nv_translate.specs.Translated.{Translated}
use Rattle.nv_translate.proofs.Making.{if-made}
use Rattle.nv_translate.proofs.translation.translate.Goals as goal

pub returns : goal.returns
returns c =
    let image = c.args.image.now in
    let name = c.args.name.now in
    let made : IfOk c.translate.result (Made image name c.args.method_bytes) =
    if-made (IsTranslation image name c.args.method_bytes) (Made image name c.args.method_bytes)
    (λ built t. c.images_are_translated.ensures name c.args.method_bytes built c.laws.ensures c.laws-2.ensures.0 t)
    c.translate.result c.translate.ensures in
    record {
      translated = if-made (Made image name c.args.method_bytes) (λ (built : Built). Translated image name built.files.items) (λ built m. m.translated)
          c.translate.result made;
      made = made;
    }
