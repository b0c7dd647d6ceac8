use Rattle.std.proofs.Common.{◌≡◌}
use Rattle.std.proofs.lemmas.Result.{IfOk-weaker}
use Rattle.elf_definition.specs.File.{elf_file}
use Rattle.obj_linker.specs.Program.{IsLinkedFile}
use Rattle.obj_linker.proofs.program.write_program.Goals as goal

pub returns : goal.returns
returns c =
    let e = c.args.ends.now in
    let parts = c.in_ok-parts.parts in
    IfOk-weaker c.write_elf.result (λ file. file.items ≡ elf_file parts) (λ file. IsLinkedFile c.args.entry c.args.image.now e.code e.text e.zeros file.items)
    (λ file is. (parts, c.in_ok-parts.ensures.parts, is)) c.write_elf.ensures.bytes
