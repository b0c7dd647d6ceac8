use Rattle.nv_outside.specs.Seen.{output_seen}
use Rattle.command_deeds.proofs.PieceLemmas.{writes-all}
use Rattle.command_deeds.proofs.line.write_text.Goals as goal

pub returns : goal.returns
returns g c = record {
  writes =
      writes-all (output_seen g.E.Sink c.args.sink.now) (output_seen g.E.Sink c.write_all.new.sink) c.args.text.now c.write_all.result
      c.write_all.ensures.ok c.write_all.ensures.err c.write_all.ensures.count;
}
