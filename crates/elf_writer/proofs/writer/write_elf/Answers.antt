use Rattle.std.proofs.Common.{rules, ◌≡◌, append_assoc}
use Rattle.elf_definition.specs.File.{elf_file}
use Rattle.elf_writer.proofs.LengthLemmas.{length-elf_file}
use Rattle.elf_writer.proofs.writer.write_elf.Goals as goal

pub returns-clause-length : goal.returns-clause-length
returns-clause-length c =
    let same : c.append_section_table.new.file.items ≡ elf_file c.args.parts.now = search (rules, append_assoc) in
    rw same (length-elf_file c.args.parts.now)
