use Rattle.std.proofs.Common.{◌+◌, length}
use Rattle.std.proofs.lemmas.Result.{err_from_is_err_and}
use Rattle.obj_reader.specs.Sections.{is_section_outside}
use Rattle.obj_reader.specs.Relocations.{relocation_target_fault, relocations_fault}
use Rattle.obj_reader.specs.Objects.{relocation_fault}
use Rattle.obj_reader.proofs.FindLemmas.{none_within}
use Rattle.obj_reader.proofs.FaultLemmas.{first_place_here}
use Rattle.obj_reader.proofs.relocations.read_relocations.Goals as goal

pub append_section-requires-clause-inside : goal.append_section-requires-clause-inside
append_section-requires-clause-inside c =
    none_within (is_section_outside (length c.args.b.now) c.args.sections.now) c.args.sections.now c.loop-s.s-index _ c.requires.inside c.loop-s-test.true

pub returns-in_err-append_section-clause-refused : goal.returns-in_err-append_section-clause-refused
unfolding relocation_fault relocations_fault
returns-in_err-append_section-clause-refused c =
    let p = err_from_is_err_and c.from_residual.result c.from_residual.ensures.1 in
    rw (p.1, p.2, ← c.requires.read, ← c.requires.counted)
    (first_place_here (relocation_target_fault c.args.start c.args.b.now (c.args.start.symbol + c.args.symbols) c.args.sections.now) c.args.sections.now
    c.loop-s.s-index _ c.args.start.object 7 _ _ c.loop-s-test.true c.loop-s.invariant.passed c.in_err-append_section.ensures.refused)
