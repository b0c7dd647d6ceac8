use Rattle.std.proofs.Common.{sym, ◌∙◌}
use Rattle.std.proofs.lemmas.Bool.{ltb-false}
use Rattle.mips_memory.proofs.MemoryLemmas.{store-past, store-unaligned}
use Rattle.mips_memory.proofs.memory.GuestMemory.store.Goals.{then-is_store_aligned, else-is_store_aligned}
use Rattle.mips_memory.proofs.memory.GuestMemory.store.Goals as goal

pub returns-else-fits-clause-answer : goal.returns-else-fits-clause-answer
returns-else-fits-clause-answer c =
    c.if-fits.false
    ∙ elim c.if-is_store_aligned.branch [
      | then-is_store_aligned w ↦ store-past c.args.name c.args.order c.args.self.now c.args.at (ltb-false c.args.at 2147483648 (sym w.fits-is ∙ c.if-fits.false))
      | else-is_store_aligned w ↦ store-unaligned _ _ (sym c.is_store_aligned.ensures ∙ w.if-is_store_aligned.false)
    ]
