use Rattle.std.proofs.Common.{refl}
use Rattle.mem_helpers_laws.proofs.LoadLaws.Counts.{loads-read, linked-reads}
use Rattle.mem_helpers_laws.proofs.load_laws.loads_read_one_word.Goals as goal

pub returns : goal.returns
returns c = record { loads = loads-read; linked = linked-reads; faults = λ order. (refl, refl, refl) }
