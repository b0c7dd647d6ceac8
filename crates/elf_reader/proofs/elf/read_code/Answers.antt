use Rattle.std.proofs.Common.{◌∙◌, sym}
use Rattle.std.proofs.lemmas.Result.{IfOk-weaker, IfErr-weaker, on_ok_weaker}
use Rattle.elf_definition.specs.Sections.{has_sections}
use Rattle.elf_definition.specs.Area.{ranges_of}
use Rattle.elf_reader.proofs.FaultLemmas.{code_first, ranges_known, answer_known, runs_known}
use Rattle.elf_reader.proofs.PassedLemmas.{area_text, runs_low, section_passed}
use Rattle.std.proofs.Common.{length}
use Rattle.elf_definition.specs.Area.{area}
use Rattle.elf_reader.proofs.elf.read_code.Goals as goal

pub returns-clause-refused : goal.returns-clause-refused
returns-clause-refused c =
    let first = code_first c.args.b.now c.args.header c.in_ok-sections.sections.items c.as_slice.result.now c.args.segments.now
    c.requires.read c.in_ok-sections.ensures.sections c.as_slice.ensures.value c.requires.live c.in_ok-sections.ensures.passed in
    IfErr-weaker c.read_area.result _ _ (λ e. answer_known _ _ e first) c.read_area.ensures.refused

pub returns-clause-passed : goal.returns-clause-passed
returns-clause-passed c =
    let first = code_first c.args.b.now c.args.header c.in_ok-sections.sections.items c.as_slice.result.now c.args.segments.now
    c.requires.read c.in_ok-sections.ensures.sections c.as_slice.ensures.value c.requires.live c.in_ok-sections.ensures.passed in
    on_ok_weaker c.read_area.result (λ none. sym first ∙ none) c.read_area.ensures.passed

pub returns-clause-code : goal.returns-clause-code
returns-clause-code c =
    IfOk-weaker c.read_area.result _ _
    (λ v runs. runs_known c.args.b.now (ranges_of (has_sections c.args.header) c.as_slice.result.now c.args.segments.now) v.items
    (ranges_known c.args.b.now c.args.header c.in_ok-sections.sections.items c.as_slice.result.now c.args.segments.now c.requires.read
    c.in_ok-sections.ensures.sections c.as_slice.ensures.value c.requires.live)
    runs)
    c.read_area.ensures.code

pub returns-clause-text : goal.returns-clause-text
returns-clause-text c =
    on_ok_weaker c.read_area.result
    (λ none. area_text c.args.b.now c.args.segments.now (section_passed c.args.b.now c.args.segments.now c.in_ok-sections.ensures.passed c.requires.live) c.requires.live)
    c.read_area.ensures.passed

pub returns-clause-low : goal.returns-clause-low
returns-clause-low c =
    let text = area_text c.args.b.now c.args.segments.now (section_passed c.args.b.now c.args.segments.now c.in_ok-sections.ensures.passed c.requires.live) c.requires.live in
    IfOk-weaker c.read_area.result _ _
    (λ v runs. runs_low (length c.args.b.now) (area c.args.b.now) v.items c.args.segments.now
    (runs_known c.args.b.now (ranges_of (has_sections c.args.header) c.as_slice.result.now c.args.segments.now) v.items
    (ranges_known c.args.b.now c.args.header c.in_ok-sections.sections.items c.as_slice.result.now c.args.segments.now c.requires.read
    c.in_ok-sections.ensures.sections c.as_slice.ensures.value c.requires.live)
    runs) c.requires.sound text)
    c.read_area.ensures.code
