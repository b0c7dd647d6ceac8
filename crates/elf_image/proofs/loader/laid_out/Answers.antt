use Rattle.std.proofs.Common.{refl}
use Rattle.elf_image.proofs.Accepted.{low_of}
use Rattle.elf_image.proofs.loader.laid_out.Goals as goal

pub new-requires-clause-low : goal.new-requires-clause-low
new-requires-clause-low c = low_of c.args.elf.now.file.now c.args.elf.now.segments.items c.args.elf.now.segments.items c.requires.accepted c.requires.segments refl
