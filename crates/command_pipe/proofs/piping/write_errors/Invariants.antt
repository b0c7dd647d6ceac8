use Rattle.std.proofs.Common.{drop}
use Rattle.command_deeds.proofs.PieceLemmas.{Joins}
use Rattle.command_deeds.specs.World.{output_seen}
use Rattle.pipe_net.specs.Turning.{errors_of}
use Rattle.command_pipe.proofs.piping.write_errors.Given as goal

abbrev pub invariant-loop-i : goal.invariant-loop-i
invariant-loop-i g l =
    Joins (output_seen g.E.Sink l.initial.err) (output_seen g.E.Sink l.err) (errors_of l.net) (drop l.i (errors_of l.net))
