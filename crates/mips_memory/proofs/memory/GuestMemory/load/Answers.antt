use Rattle.std.proofs.Common.{sym, ◌∙◌}
use Rattle.std.proofs.lemmas.Bool.{ltb-false}
use Rattle.mips_definition.specs.Loads.{load_aligned}
use Rattle.mips_memory.specs.Pages.{memory_of}
use Rattle.mips_memory.proofs.ViewLaws.{byte-high}
use Rattle.mips_memory.proofs.MemoryLemmas.{load-past, load-unaligned}
use Rattle.mips_memory.proofs.memory.GuestMemory.load.Goals.{then-is_load_aligned, else-is_load_aligned}
use Rattle.mips_memory.proofs.memory.GuestMemory.load.Goals as goal

pub returns-else-fits : goal.returns-else-fits
returns-else-fits c =
    let byte = (memory_of c.args.self.now).byte c.args.at in
    let aligned = load_aligned c.args.name c.args.at in
    elim c.if-is_load_aligned.branch [
      | then-is_load_aligned w ↦ load-past aligned byte _ (byte-high c.args.self.now c.args.at (ltb-false c.args.at 2147483648 (sym w.fits-is ∙ c.if-fits.false)))
      | else-is_load_aligned w ↦ load-unaligned aligned byte _ (sym c.is_load_aligned.ensures ∙ w.if-is_load_aligned.false)
    ]
