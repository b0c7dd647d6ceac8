use Rattle.std.proofs.Common.{◌∙◌, sym, ap, map, filter, length, arith}
use Rattle.elf_definition.specs.declared.program_header.ProgramHeader.{ProgramHeader}
use Rattle.elf_definition.specs.Segments.{live, is_live, segment_fault}
use Rattle.elf_reader.proofs.FaultLemmas.{segments_sound}
use Rattle.elf_reader.proofs.PassedLemmas.{segments_apart}
use Rattle.elf_reader.proofs.elf.read_segments.Goals as goal

pub check_segments-requires : goal.check_segments-requires
check_segments-requires c = omega (arith, ap length c.as_slice.ensures.value, c.in_ok-headers.ensures.few)

pub returns-clause-live : goal.returns-clause-live
unfolding live
returns-clause-live c =
    c.in_ok-segments.ensures
    ∙ ap (λ hs. map (λ (h : ProgramHeader). h.segment) (filter is_live hs)) (c.as_slice-2.ensures.value ∙ c.in_ok-headers.ensures.read)

pub returns-clause-sound : goal.returns-clause-sound
returns-clause-sound c =
    let none =
    ap (segment_fault (length c.args.b.now)) (sym c.as_slice.ensures.value)
    ∙ sym c.in_ok-check_segments.ensures
    ∙ c.in_ok-refuse.ensures.passed in
    let lives = c.in_ok-segments.ensures ∙ ap (λ hs. map (λ (h : ProgramHeader). h.segment) (filter is_live hs)) c.as_slice-2.ensures.value in
    segments_sound (length c.args.b.now) c.in_ok-headers.headers.items c.in_ok-segments.segments.items none lives

pub returns-clause-apart : goal.returns-clause-apart
returns-clause-apart c =
    let none =
    ap (segment_fault (length c.args.b.now)) (sym c.as_slice.ensures.value)
    ∙ sym c.in_ok-check_segments.ensures
    ∙ c.in_ok-refuse.ensures.passed in
    let lives = c.in_ok-segments.ensures ∙ ap (λ hs. map (λ (h : ProgramHeader). h.segment) (filter is_live hs)) c.as_slice-2.ensures.value in
    segments_apart (length c.args.b.now) c.in_ok-headers.headers.items c.in_ok-segments.segments.items none lives
