use Rattle.std.proofs.Common.{◌∙◌}
use Rattle.elf_definition.specs.Sections.{has_sections}
use Rattle.elf_reader.proofs.FaultLemmas.{ranges_placed, placed_low, placed_aligned}
use Rattle.elf_reader.proofs.elf.read_area.Goals as goal

pub check_area-requires-clause-low : goal.check_area-requires-clause-low
check_area-requires-clause-low c =
    placed_low _ c.as_slice.result.now (c.as_slice.ensures.value ∙ c.in_ok-ranges.ensures)
    (ranges_placed (has_sections c.args.header) c.args.sections.now c.args.segments.now c.requires.sound c.requires.passed)

pub runs-requires-clause-aligned : goal.runs-requires-clause-aligned
runs-requires-clause-aligned c =
    placed_aligned _ c.as_slice-2.result.now (c.as_slice-2.ensures.value ∙ c.in_ok-ranges.ensures)
    (ranges_placed (has_sections c.args.header) c.args.sections.now c.args.segments.now c.requires.sound c.requires.passed)

pub runs-requires-clause-low : goal.runs-requires-clause-low
runs-requires-clause-low c =
    placed_low _ c.as_slice-2.result.now (c.as_slice-2.ensures.value ∙ c.in_ok-ranges.ensures)
    (ranges_placed (has_sections c.args.header) c.args.sections.now c.args.segments.now c.requires.sound c.requires.passed)
