use Rattle.obj_reader.specs.Relocations.{relocation}
use Rattle.obj_reader.proofs.TableLemmas.{append_more}
use Rattle.obj_reader.proofs.relocations.append_entries.Goals as goal

pub loop-k-preserved : goal.loop-k-preserved
loop-k-preserved c =
    append_more (relocation c.args.start c.args.b.now c.args.s.now) c.args.relocations.now.items c.loop-k.relocations.items _ c.read.result c.loop-k.k
    c.loop-k.invariant c.read.ensures c.in_ok-push.ensures.items
