use Rattle.std.proofs.Common.{◌∙◌, refl, sym, ap, subst}
use Rattle.std.proofs.lemmas.Result.{err_from_is_err_and}
use Rattle.std.specs.Option.{option_or}
use Rattle.elf_image.specs.Answer.{IsAnswer}
use Rattle.elf_definition.specs.Content.{is_filled_page}
use Rattle.elf_definition.specs.ImageFault.{data_fault, layout_fault}
use Rattle.elf_image.proofs.LoaderLemmas.{answer_first, answer_second, data_same, none_both}
use Rattle.elf_image.proofs.loader.stored_pages.Goals as goal

pub returns-in_err-refuse-clause-refused : goal.returns-in_err-refuse-clause-refused
returns-in_err-refuse-clause-refused c =
    let p = err_from_is_err_and c.from_residual-in_err-refuse.result c.from_residual-in_err-refuse.ensures.1 in
    let check = data_fault c.args.file.now c.args.segments.now.items in
    let layout = layout_fault c.args.segments.now.items c.args.layout.now.heap c.args.layout.now.stack in
    let same = c.check_data.ensures ∙ data_same c.args.file.now c.args.segments.now.items c.in_ok-filled.filled.items _ _ refl c.as_slice-2.ensures.value (λ q. c.in_ok-filled.ensures.marks q ∙ ap (λ s. is_filled_page c.args.file.now s q) c.as_slice.ensures.value) in
    rw (p.1) (subst (IsAnswer (option_or check layout)) (sym p.2) (answer_first check layout c.check_data.result _ same c.in_err-refuse.ensures.refused))

pub returns-in_err-refuse-2-clause-refused : goal.returns-in_err-refuse-2-clause-refused
returns-in_err-refuse-2-clause-refused c =
    let p = err_from_is_err_and c.from_residual-in_err-refuse-2.result c.from_residual-in_err-refuse-2.ensures.1 in
    let check = data_fault c.args.file.now c.args.segments.now.items in
    let layout = layout_fault c.args.segments.now.items c.args.layout.now.heap c.args.layout.now.stack in
    let first = sym (c.check_data.ensures ∙ data_same c.args.file.now c.args.segments.now.items c.in_ok-filled.filled.items _ _ refl c.as_slice-2.ensures.value (λ q. c.in_ok-filled.ensures.marks q ∙ ap (λ s. is_filled_page c.args.file.now s q) c.as_slice.ensures.value)) ∙ c.in_ok-refuse.ensures.passed in
    let second = c.check_layout.ensures ∙ ap (λ s. layout_fault s c.args.layout.now.heap c.args.layout.now.stack) c.requires.segments in
    rw (p.1) (subst (IsAnswer (option_or check layout)) (sym p.2) (answer_second check layout c.check_layout.result _ first second c.in_err-refuse-2.ensures.refused))

pub returns-clause-passed : goal.returns-clause-passed
returns-clause-passed c =
    let first = sym (c.check_data.ensures ∙ data_same c.args.file.now c.args.segments.now.items c.in_ok-filled.filled.items _ _ refl c.as_slice-2.ensures.value (λ q. c.in_ok-filled.ensures.marks q ∙ ap (λ s. is_filled_page c.args.file.now s q) c.as_slice.ensures.value)) ∙ c.in_ok-refuse.ensures.passed in
    none_both (data_fault c.args.file.now c.args.segments.now.items) (layout_fault c.args.segments.now.items c.args.layout.now.heap c.args.layout.now.stack) first (ap (λ s. layout_fault s c.args.layout.now.heap c.args.layout.now.stack) (sym c.requires.segments) ∙ sym c.check_layout.ensures ∙ c.in_ok-refuse-2.ensures.passed)
