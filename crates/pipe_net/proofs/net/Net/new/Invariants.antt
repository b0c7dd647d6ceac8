use Rattle.pipe_net.specs.Adding.{IsMadeOf}
use Rattle.pipe_net.proofs.net.Net.new.Given as goal

abbrev pub invariant-loop-jvm : goal.invariant-loop-jvm
invariant-loop-jvm l = IsMadeOf l.net l.yielded l.c l.bound
