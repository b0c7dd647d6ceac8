use Rattle.std.proofs.Common.{IfOk, Some, arith, subst}
use Rattle.std.specs.Prelude.{Vec}
use Rattle.std.specs.declared.alloc.Global.{Global}
use Rattle.translate_program.specs.declared.named_file.NamedFile.{NamedFile}
use Rattle.translate_program.specs.Translation.{AreFilesOf}
use Rattle.nv_translate.specs.Made.{AreMade}
use Rattle.nv_translate.specs.Metered.{TranslatedMetered}
use Rattle.nv_translate.proofs.Making.{if-made}
use Rattle.nv_translate.proofs.metered_translation.translate_files_metered.Goals as goal

pub returns : goal.returns
returns c =
    let image = c.args.image in
    let name = c.args.name.now in
    let turns = c.args.turns in
    let range = c.get-count.ensures.range in
    let made : IfOk c.translate_files_metered.result (λ (files : Vec NamedFile Global). AreMade (Some turns) image name c.args.method_bytes files.items) =
    if-made (λ (files : Vec NamedFile Global). AreFilesOf (Some turns) image name c.args.method_bytes files.items)
    (λ (files : Vec NamedFile Global). AreMade (Some turns) image name c.args.method_bytes files.items)
    (λ files are. record {
      built = are.built;
      made = c.metered_images_are_translated.ensures name c.args.method_bytes turns are.built c.laws.ensures c.laws-2.ensures.0
          (omega (arith, range.1)) are.is;
      files_are = are.files_are;
    })
    c.translate_files_metered.result c.translate_files_metered.ensures in
    record {
      translated = if-made (λ (files : Vec NamedFile Global). AreMade (Some turns) image name c.args.method_bytes files.items)
          (λ (files : Vec NamedFile Global). TranslatedMetered image name turns files.items)
          (λ files are. subst (TranslatedMetered image name turns) are.files_are are.made.translated)
          c.translate_files_metered.result made;
      made = made;
    }
