use Rattle.nv_outside.specs.Seen.{input_seen, output_seen}
use Rattle.unix_calls.proofs.unix.Unix.serve_call.Goals as goal

pub returns-in-0 : goal.returns-in-0
returns-in-0 g c =
    record { served = c.serve_begin.ensures.served (input_seen g.S.Source c.args.source.now) (output_seen g.O.Sink c.args.out.now) (output_seen g.E.Sink c.args.err.now) }

pub returns-in-4 : goal.returns-in-4
returns-in-4 g c =
    record { served = c.serve_read.ensures.served (output_seen g.O.Sink c.args.out.now) (output_seen g.E.Sink c.args.err.now) }

pub returns-in-5 : goal.returns-in-5
returns-in-5 g c =
    record { served = c.serve_write.ensures.served (input_seen g.S.Source c.args.source.now) }

pub returns-in-8 : goal.returns-in-8
returns-in-8 g c =
    record { served = c.serve_status.ensures.served (input_seen g.S.Source c.args.source.now) (output_seen g.O.Sink c.args.out.now) (output_seen g.E.Sink c.args.err.now) }

pub returns-in_default : goal.returns-in_default
returns-in_default g c =
    record { served = c.serve_quiet.ensures.served (input_seen g.S.Source c.args.source.now) (output_seen g.O.Sink c.args.out.now) (output_seen g.E.Sink c.args.err.now) }
