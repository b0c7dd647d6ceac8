use Rattle.std.proofs.Common.{◌∙◌}
use Rattle.elf_reader.proofs.SectionLemmas.{outside_same}
use Rattle.elf_reader.proofs.section_checks.outside_of.Goals as goal

pub returns-clause-first : goal.returns-clause-first
returns-clause-first c =
    c.first_code_outside.ensures.first
    ∙ outside_same c.args.segments.now c.args.sections.now c.in_ok-executable_spans.field-0.items c.in_ok-texts.texts.items
    c.as_slice.result.now c.in_ok-executable_spans.ensures c.in_ok-texts.ensures.same c.as_slice.ensures.value
