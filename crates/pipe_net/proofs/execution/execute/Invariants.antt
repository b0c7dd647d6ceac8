use Rattle.std.proofs.Common.{◌≡◌, ◌+◌, ◌≤◌, false, None, length}
use Rattle.jvm_machine.specs.Machine.{has_ended}
use Rattle.jvm_machine.specs.Counting.{count_of}
use Rattle.pipe_net.specs.Executing.{Walks}
use Rattle.pipe_net.specs.Views.{ports, scene}
use Rattle.pipe_net.proofs.execution.execute.Given as goal

abbrev pub invariant-loop-count : goal.invariant-loop-count
invariant-loop-count g l =
    let before = l.initial.server in
    record {
      going : has_ended l.jvm ≡ false;
      sound : l.server.failed ≡ None;
      walks : Walks l.count (scene l.initial.jvm (ports g.S.Source g.O.Sink before)) (scene l.jvm (ports g.S.Source g.O.Sink l.server));
      count : count_of l.jvm ≡ count_of l.initial.jvm + l.count;
      short : length l.server.unix.now.ahead ≤ 4096;
      same_inlet : l.server.inlet ≡ before.inlet;
      same_outlet : l.server.outlet ≡ before.outlet;
      same_c : l.server.c ≡ before.c;
      same_unix : l.server.unix.ghost_name ≡ before.unix.ghost_name;
      same_source : l.server.source.ghost_name ≡ before.source.ghost_name;
      same_before : l.server.before.ghost_name ≡ before.before.ghost_name;
      same_sink : l.server.sink.ghost_name ≡ before.sink.ghost_name;
      same_behind : l.server.behind.ghost_name ≡ before.behind.ghost_name;
      same_errors : l.server.errors.ghost_name ≡ before.errors.ghost_name;
    }
