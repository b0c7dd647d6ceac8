use Rattle.std.proofs.Common.{sym, ◌∙◌}
use Rattle.mips_memory.proofs.MemoryLemmas.{store-answer}
use Rattle.mips_memory.proofs.memory.GuestMemory.may_store.Goals as goal

pub returns : goal.returns
returns c = c.writable.ensures ∙ sym (store-answer c.args.name c.args.order c.args.self.now c.args.at c.requires)
