-- What is seen of a stage and of the server of its machine.
use Rattle.std.specs.Prelude.{ℕ, List}
use Rattle.jvm_machine.specs.declared.jvm.Jvm.{Jvm}
use Rattle.jvm_machine.specs.Machine.{state_of}
use Rattle.nv_outside.specs.Seen.{Seen, input_seen, output_seen}
use Rattle.nv_outside.specs.declared.sink.Sink as sink
use Rattle.nv_outside.specs.declared.source.Source as source
use Rattle.pipe_net.specs.declared.errors.Errors.{Errors}
use Rattle.pipe_net.specs.declared.pipe.Pipe.{Pipe}
use Rattle.pipe_net.specs.declared.piped.Piped.{Piped}
use Rattle.pipe_net.specs.declared.stage.Stage.{Stage}
use Rattle.pipe_net.specs.declared.terms.Terms.{Terms}
use Rattle.pipe_net.specs.Ports.{Kept, Ports}
use Rattle.pipe_net.specs.Executing.{Scene}

abbrev pub pipe_kept : Pipe → Kept
pipe_kept pipe = record { bytes = pipe.bytes.items; faults = pipe.faults }

abbrev pub errors_kept : Errors → Kept
errors_kept errors = record { bytes = errors.bytes.items; faults = errors.faults }

abbrev pub ports : {S O : Type 0} → source.Ghosts S → sink.Ghosts O → Piped S O → Ports
ports S O p = record {
  unix = p.unix.now;
  source = input_seen S p.source.now;
  before = p.before.now.bytes.items;
  sink = output_seen O p.sink.now;
  behind = pipe_kept p.behind.now;
  errors = errors_kept p.errors.now;
  inlet = p.inlet;
  outlet = p.outlet;
  c = p.c;
}

-- a machine with such ports
abbrev pub scene : Jvm → Ports → Scene
scene jvm ports = record { state = state_of jvm; ports = ports }

-- the scene of a stage on these terms, between a source and a sink, and the pipes before it and behind it
abbrev pub scene_of : Terms → Stage → Seen (List ℕ) → Pipe → Seen (List ℕ) → Pipe → Scene
scene_of terms stage source before sink behind = scene stage.jvm (record {
  unix = stage.unix;
  source = source;
  before = before.bytes.items;
  sink = sink;
  behind = pipe_kept behind;
  errors = errors_kept stage.errors;
  inlet = terms.inlet;
  outlet = terms.outlet;
  c = terms.c;
})
