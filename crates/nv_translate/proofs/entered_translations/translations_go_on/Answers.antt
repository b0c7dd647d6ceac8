use Rattle.std.specs.Prelude.{None}
use Rattle.elf_definition.specs.Start.{image_of}
use Rattle.class_definition.specs.Linking.{program_of}
use Rattle.emit_layout.specs.Numbers.{choose_number, missing_number}
use Rattle.nv_translate.proofs.entered_translations.translations_go_on.Goals as goal

pub returns : goal.returns
returns c source name method_bytes built image large l = record {
  same = λ words fields heap t answers held.
      let stands = c.translations_stand.ensures None source name method_bytes built image.code large l in
      c.entered_programs_go_on.ensures (program_of l.classes) words (image_of source).order choose_number missing_number stands.classes (image_of source).code fields heap t answers stands.translated held;
}
