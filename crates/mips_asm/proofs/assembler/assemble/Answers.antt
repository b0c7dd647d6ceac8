use Rattle.std.proofs.Common.{ap, sym, subst, ◌∙◌, true, false, Result, Ok, Err, OnOk, IfOk}
use Rattle.elf_definition.specs.FileFields.{words}
use Rattle.mips_asm.specs.Answers.{IsFault}
use Rattle.mips_asm.specs.File.{IsFileOf}
use Rattle.mips_asm.specs.Program.{text_words}
use Rattle.mips_asm.proofs.AlikeLemmas.{found_fault, found_words}
use Rattle.mips_asm.proofs.assembler.assemble.Goals as goal

pub returns-in-Err-fill_segments-clause-refused : goal.returns-in-Err-fill_segments-clause-refused
returns-in-Err-fill_segments-clause-refused c =
    let found = c.in-Ok.found in
    subst (λ o. IsFault o c.in-Err-fill_segments.error)
    (found_fault found.labels found.again c.args.text.now c.in-Ok.ensures.labels c.in-Ok.ensures.again)
    c.in-Err-fill_segments.ensures.refused

on_ok : {T E P : Type 0} (r : Result T E) → P → OnOk r P
on_ok (Ok x) p = p
on_ok (Err e) p = tt

pub returns-clause-sound : goal.returns-clause-sound
returns-clause-sound c =
    let found = c.in-Ok.found in
    on_ok c.write_program.result
    (sym (found_fault found.labels found.again c.args.text.now c.in-Ok.ensures.labels c.in-Ok.ensures.again) ∙ c.in-Ok-fill_segments.ensures.whole)

pub returns-clause-file : goal.returns-clause-file
returns-clause-file c =
    let found = c.in-Ok.found in
    let segments = c.in-Ok-fill_segments.segments in
    let text = c.in-Ok-fill_segments.ensures.text ∙ ap (λ ws. words ws) (found_words false found.labels c.args.text.now c.in-Ok.ensures.labels) in
    let bytes = c.in-Ok-fill_segments.ensures.data_bytes ∙ ap (λ ws. words ws) (found_words true found.labels c.args.text.now c.in-Ok.ensures.labels) in
    subst (λ d. IfOk c.write_program.result (λ file. IsFileOf (words (text_words c.args.text.now)) d file.items)) bytes
    (subst (λ t. IfOk c.write_program.result (λ file. IsFileOf t segments.data_bytes.items file.items)) text c.write_program.ensures.file)
