use Rattle.std.proofs.Common.{◌∙◌, sym, ap, subst}
use Rattle.std.proofs.lemmas.Result.{err_from_is_err_and}
use Rattle.elf_image.specs.Answer.{IsAnswerTo}
use Rattle.elf_definition.specs.ImageFault.{image_fault}
use Rattle.elf_image.proofs.Accepted.{sound_of, apart_of}
use Rattle.elf_image.proofs.LoaderLemmas.{first_answer, second_answer, last_fault, last_answer}
use Rattle.elf_image.proofs.loader.image.Goals as goal

pub returns-in_err-layout-clause-refused : goal.returns-in_err-layout-clause-refused
returns-in_err-layout-clause-refused c =
    let p = err_from_is_err_and c.from_residual.result c.from_residual.ensures.1 in
    let elf = c.args.elf.now in
    rw (p.1) (subst (IsAnswerTo elf.file.now elf.code.items c.args.heap c.args.stack) (sym p.2)
    (first_answer elf.file.now elf.code.items c.args.heap c.args.stack _ c.in_err-layout.ensures.refused))

pub stored_pages-requires-clause-sound : goal.stored_pages-requires-clause-sound
stored_pages-requires-clause-sound c = sound_of c.args.elf.now.file.now c.args.elf.now.segments.items c.requires.accepted c.requires.segments

pub stored_pages-requires-clause-apart : goal.stored_pages-requires-clause-apart
stored_pages-requires-clause-apart c = apart_of c.args.elf.now.file.now c.args.elf.now.segments.items c.requires.accepted c.requires.segments

pub returns-in_err-table-clause-refused : goal.returns-in_err-table-clause-refused
returns-in_err-table-clause-refused c =
    let p = err_from_is_err_and c.from_residual-in_err-table.result c.from_residual-in_err-table.ensures.1 in
    let elf = c.args.elf.now in
    rw (p.1) (subst (IsAnswerTo elf.file.now elf.code.items c.args.heap c.args.stack) (sym p.2)
    (second_answer elf.file.now elf.code.items elf.segments.items c.args.heap c.args.stack c.in_ok-layout.layout.heap c.in_ok-layout.layout.stack _
    c.in_ok-layout.ensures.passed c.requires.segments c.in_ok-layout.ensures.heap c.in_ok-layout.ensures.stack c.in_err-table.ensures.refused))

pub returns-in_err-refuse-clause-refused : goal.returns-in_err-refuse-clause-refused
returns-in_err-refuse-clause-refused c =
    let p = err_from_is_err_and c.from_residual-in_err-refuse.result c.from_residual-in_err-refuse.ensures.1 in
    let elf = c.args.elf.now in
    let same = c.check_float.ensures ∙ last_fault elf.file.now c.in_ok-table.table.file.bytes elf.code.items c.as_slice.result.now elf.segments.items c.in_ok-table.table.segments.value.items
    c.args.heap c.args.stack c.in_ok-layout.layout.heap c.in_ok-layout.layout.stack
    c.in_ok-layout.ensures.passed c.in_ok-table.ensures.passed c.requires.segments c.in_ok-layout.ensures.heap c.in_ok-layout.ensures.stack
    c.in_ok-table.ensures.file c.in_ok-table.ensures.segments c.as_slice.ensures.value in
    rw (p.1) (subst (IsAnswerTo elf.file.now elf.code.items c.args.heap c.args.stack) (sym p.2)
    (last_answer elf.file.now elf.code.items c.args.heap c.args.stack c.check_float.result _ same c.in_err-refuse.ensures.refused))

pub returns-clause-passed : goal.returns-clause-passed
returns-clause-passed c =
    let elf = c.args.elf.now in
    let same = c.check_float.ensures ∙ last_fault elf.file.now c.in_ok-table.table.file.bytes elf.code.items c.as_slice.result.now elf.segments.items c.in_ok-table.table.segments.value.items
    c.args.heap c.args.stack c.in_ok-layout.layout.heap c.in_ok-layout.layout.stack
    c.in_ok-layout.ensures.passed c.in_ok-table.ensures.passed c.requires.segments c.in_ok-layout.ensures.heap c.in_ok-layout.ensures.stack
    c.in_ok-table.ensures.file c.in_ok-table.ensures.segments c.as_slice.ensures.value in
    sym same ∙ c.in_ok-refuse.ensures.passed

pub kept-requires-clause-passed : goal.kept-requires-clause-passed
kept-requires-clause-passed c =
    let elf = c.args.elf.now in
    let same = c.check_float.ensures ∙ last_fault elf.file.now c.in_ok-table.table.file.bytes elf.code.items c.as_slice.result.now elf.segments.items c.in_ok-table.table.segments.value.items
    c.args.heap c.args.stack c.in_ok-layout.layout.heap c.in_ok-layout.layout.stack
    c.in_ok-layout.ensures.passed c.in_ok-table.ensures.passed c.requires.segments c.in_ok-layout.ensures.heap c.in_ok-layout.ensures.stack
    c.in_ok-table.ensures.file c.in_ok-table.ensures.segments c.as_slice.ensures.value in
    ap (λ h. image_fault elf.file.now elf.code.items h c.in_ok-layout.layout.stack) c.in_ok-layout.ensures.heap
    ∙ ap (λ k. image_fault elf.file.now elf.code.items c.args.heap k) c.in_ok-layout.ensures.stack
    ∙ sym same ∙ c.in_ok-refuse.ensures.passed
