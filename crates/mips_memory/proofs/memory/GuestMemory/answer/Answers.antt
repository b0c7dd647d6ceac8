use Rattle.mips_memory.proofs.MemoryLemmas.{served-memory}
use Rattle.mips_memory.proofs.memory.GuestMemory.answer.Goals as goal

pub returns-clause-served : goal.returns-clause-served
returns-clause-served g c =
    served-memory g.V.Server.goes g.V.Server.held g.V.Server.fell c.args.call.now c.args.self.now c.serve.new.view c.args.server.now c.serve.new.self c.see.ensures c.serve.result c.serve.ensures.served
