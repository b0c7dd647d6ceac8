use Rattle.std.specs.Prelude.{None, Vec}
use Rattle.std.proofs.Common.{IfOk, subst}
use Rattle.std.specs.declared.alloc.Global.{Global}
use Rattle.translate_program.specs.declared.named_file.NamedFile.{NamedFile}
use Rattle.translate_program.specs.Translation.{AreFilesOf}
use Rattle.nv_translate.specs.Made.{AreMade}
use Rattle.nv_translate.specs.Translated.{Translated}
use Rattle.nv_translate.proofs.Making.{if-made}
use Rattle.nv_translate.proofs.translation.translate_files.Goals as goal

pub returns : goal.returns
returns c =
    let image = c.args.image in
    let name = c.args.name.now in
    let made : IfOk c.translate_files.result (λ (files : Vec NamedFile Global). AreMade None image name c.args.method_bytes files.items) =
    if-made (λ (files : Vec NamedFile Global). AreFilesOf None image name c.args.method_bytes files.items)
    (λ (files : Vec NamedFile Global). AreMade None image name c.args.method_bytes files.items)
    (λ files are. record {
      built = are.built;
      made = c.images_are_translated.ensures name c.args.method_bytes are.built c.laws.ensures c.laws-2.ensures.0 are.is;
      files_are = are.files_are;
    })
    c.translate_files.result c.translate_files.ensures in
    record {
      translated = if-made (λ (files : Vec NamedFile Global). AreMade None image name c.args.method_bytes files.items)
          (λ (files : Vec NamedFile Global). Translated image name files.items)
          (λ files are. subst (Translated image name) are.files_are are.made.translated)
          c.translate_files.result made;
      made = made;
    }
