use Rattle.std.proofs.Common.{rules}
use Rattle.nv_outside.proofs.ReadLemmas.{rest_splits, nothing_left}
use Rattle.nv_outside.proofs.mem_source.MemSourceSource.read.Goals as goal

pub returns-clause-bytes : goal.returns-clause-bytes
returns-clause-bytes c = (rw (← c.self.view_is) (rest_splits c.self.inside.bytes.items c.copy_front-n.new.to c.self.inside.place c.copy_front-n.result (search rules)), nothing_left c.self.inside.bytes.items c.copy_front-n.new.to _ _ (search rules))
