use Rattle.elf_writer.proofs.ReadBackLemmas.{reads_back, parts_held}
use Rattle.elf_writer.proofs.read_back.segments_read_back.Goals as goal

pub returns : goal.returns
returns c = record { segments = λ words. reads_back c.args._parts.now c.requires words; bytes = parts_held c.args._parts.now }
