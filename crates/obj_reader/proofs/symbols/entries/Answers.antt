use Rattle.obj_reader.specs.Symbols.{symbol}
use Rattle.obj_reader.proofs.TableLemmas.{table_more, few_more}
use Rattle.obj_reader.proofs.symbols.entries.Goals as goal

pub loop-i-preserved : goal.loop-i-preserved
loop-i-preserved c = record {
  read =
      table_more (symbol c.args.start c.args.b.now c.args.strings c.args.table.now.sh_offset) c.loop-i.symbols.items _ c.read.result c.loop-i.i
      c.loop-i.invariant.read c.read.ensures c.in_ok-push.ensures.items;
  few = few_more c.loop-i.symbols.items _ c.read.result c.loop-i.i c.loop-i.invariant.few c.in_ok-push.ensures.items;
}
