use Rattle.nv_outside.proofs.FilesLemmas.{set_by_insert}
use Rattle.nv_outside.proofs.mem_shelf.MemShelf.add.Goals as goal

pub returns-clause-ok : goal.returns-clause-ok
returns-clause-ok c = rw (← c.in_ok-key.ensures.ok, ← c.in_ok-value.ensures.items) (set_by_insert c.args.self.now.files c.insert.new.self _ _ c.in_ok-insert.ensures.updates)
