use Rattle.elf_definition.specs.Start.{image_of}
use Rattle.method_splitter.proofs.SpanLemmas.{least}
use Rattle.translate_program.specs.Classes.{IsPlaced}
use Rattle.translate_program.specs.Places.{places_of}
use Rattle.translate_program.specs.Spans.{weights_of}
use Rattle.nv_translate.proofs.LinkedTranslations.Lists.{zip-second}
use Rattle.nv_translate.proofs.sized_translations.translated_spans_are_least.Goals as goal

pub returns : goal.returns
returns c metered source method_bytes code are i class others there cuts =
    let placed = zip-second (IsPlaced metered (image_of source).code method_bytes) (places_of are.ranges) code i class are.placed.each there in
    let spans = placed.2.spans_are in
    least (weights_of class.part class.part.words) method_bytes class.spans others spans.cuts spans.fills cuts
